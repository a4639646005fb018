-- What is printed of commits, one behind the other.
use Rattle.std.proofs.Common.{◌≡◌, arith, refl, List, [], ◌∷◌, map, length, Option, Ok, Err}
use Rattle.std.specs.List.{join_by}
use Rattle.gx_model.specs.Texts.{Bytes}
use Rattle.gx_model.specs.Texts.Sinks.{Taken}
use Rattle.gx_cli.specs.Sending.{PrintsText}
use Rattle.gx_cli.specs.declared.fault.CliFault.TheVariants.{OutOfMemory}
use Rattle.gx_model.proofs.Texts.SentTexts.{took_nothing}

-- memory ran out before anything went out
pub none_printed : (text : Bytes) (was : Option Taken) → PrintsText text was was (Err OutOfMemory)
none_printed text was = ([], text, refl, took_nothing was)

-- of no commits nothing is printed
pub no_entries : {X N : Type 0} (entry : X → Bytes) (gap : Bytes) (at : N → X) (names : List N) (was : Option Taken) → length names ≡ 0 → PrintsText (join_by entry gap (map at names)) was was (Ok tt)
no_entries entry gap at [] was e = took_nothing was
no_entries entry gap at (n ∷ names) was e = absurd (omega arith)
