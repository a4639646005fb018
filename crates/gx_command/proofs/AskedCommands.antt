-- The commands that are ahead of a reader that has read none yet.
use Rattle.std.proofs.Common.{◌≡◌, Bool, true, false, Option, Some, None, refl, ap, ◌∙◌}
use Rattle.std.specs.List.{list_all, list_any}
use Rattle.std.specs.Option.{option_map}
use Rattle.gx_model.specs.declared.features.Features.{Features}
use Rattle.gx_model.specs.Streams.Items.{Stream}
use Rattle.gx_model.specs.Streams.Grammar.{asked, asks_done, commands_asked, is_option}
use Rattle.gx_text.specs.Devices.{Coming}
use Rattle.gx_stream.specs.Heard.{items_from}
use Rattle.gx_command.specs.Behind.{at_start}
use Rattle.gx_command.specs.Reading.{before_of, commands_after, commands_asked_from, shown_commands}
use Rattle.gx_command.specs.declared.reader.Options.{Options}
use Rattle.gx_model.proofs.Streams.AskedFeatures.{same_before}

abbrev both : Bool → Bool → Features
both done force = record { done = done; force = force }

abbrev pub options_of : Features → Options
options_of f = record { are_all = true; needs_done = f.done }

all_options : (done force : Bool) → list_all is_option (before_of (options_of (both done force))) ≡ list_all is_option (asked (both done force))
all_options true true = refl
all_options true false = refl
all_options false true = refl
all_options false false = refl

asks_same : (done force : Bool) → list_any asks_done (before_of (options_of (both done force))) ≡ list_any asks_done (asked (both done force))
asks_same true true = refl
asks_same true false = refl
asks_same false true = refl
asks_same false false = refl

pub after_asked : (f : Features) (s : Stream) → commands_after (before_of (options_of f)) s ≡ commands_asked f s
after_asked f s = same_before _ (before_of (options_of f)) (asked f) s.items s.end (all_options f.done f.force) (asks_same f.done f.force)

-- they are those of the source, behind the features that are asked for
pub asked_ahead : (f : Features) (coming : Option Coming) (ahead : Option Stream) → ahead ≡ option_map items_from coming → shown_commands (at_start f) ahead ≡ option_map (commands_asked_from f) coming
asked_ahead f None ahead e = ap (shown_commands (at_start f)) e
asked_ahead f (Some c) ahead e = ap (shown_commands (at_start f)) e ∙ ap Some (after_asked f (items_from c))
