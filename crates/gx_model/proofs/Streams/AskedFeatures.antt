-- Features that are asked for are those of lines before the stream.
use Rattle.std.proofs.Common.{◌≡◌, ◌∙◌, ◌++◌, ℕ, zero, suc, Bool, true, false, List, [], ◌∷◌, length, None, codes, Ok, Err, refl, sym, ap, arith}
use Rattle.std.specs.Prelude.{◌&&◌, ◌||◌, if◌then◌else◌}
use Rattle.std.specs.List.{flat_map, list_all, list_any}
use Rattle.std.proofs.lemmas.Grind.{common_steps}
use Rattle.gx_model.specs.declared.objects.Kind.{Kind}
use Rattle.gx_model.specs.declared.features.Feature.TheVariants as features
use Rattle.gx_model.specs.declared.features.Features.{Features}
use Rattle.gx_model.specs.Texts.{Bytes, cut_at}
use Rattle.gx_model.specs.Histories.{History}
use Rattle.gx_model.specs.Streams.Items.{Item, Line, Data, End, Finished, Failed, Stream, items_of, then_comes}
use Rattle.gx_model.specs.Streams.Commands.{Asks, Command, Commands, Done}
use Rattle.gx_model.specs.Streams.Grammar.{asked, asks_done, command_at, commands_asked, commands_of, commands_within, is_done, is_option, stops, with_command}
use Rattle.gx_model.specs.Streams.Lines.{Read, words_of}
use Rattle.gx_model.specs.Changes.{sending_commands}
use Rattle.gx_model.specs.Export.{command_items, inner_commands, item_text, reached_commits}
use Rattle.gx_model.specs.Replay.{begun, replayed, replayed_commands}
use Rattle.gx_model.specs.Streams.Spelling.{taken}
use Rattle.gx_model.specs.Laws.ExportLaws.{IsItem}
use Rattle.gx_model.specs.Laws.FeatureLaws.{ChangesAskOnce, CommandsAreAsked, ExportsAskOnce, ReplaysAreAsked, asking, behind_asked}
use Rattle.gx_model.proofs.Streams.Found.{has_reading}
use Rattle.gx_model.proofs.Streams.ItemTexts.{item_spelled}
use Rattle.gx_model.proofs.Streams.Readings.{only_reading}

-- ---- of the commands before, two things play a part

pub all_more : (p : Command → Bool) (before : List Command) (c : Command) → list_all p (before ++ c ∷ []) ≡ (list_all p before && p c)
all_more p before c = grind (arith, common_steps)

pub any_more : (p : Command → Bool) (before : List Command) (c : Command) → list_any p (before ++ c ∷ []) ≡ (list_any p before || p c)
any_more p before c = grind (arith, common_steps)

pub same_before : (n : ℕ) (front before : List Command) (items : List Item) (end : End) → list_all is_option front ≡ list_all is_option before → list_any asks_done front ≡ list_any asks_done before → commands_within n front items end ≡ commands_within n before items end
unfolding commands_within
same_before n front before [] Finished p q = rw q refl
same_before n front before [] (Failed f) p q = refl
same_before zero front before (i ∷ more) end p q = refl
same_before (suc n) front before (Data b ∷ more) end p q = refl
same_before (suc n) front before (Line [] ∷ more) end p q = same_before n front before more end p q
same_before (suc n) front before (Line (b ∷ bs) ∷ more) end p q = by (command_at (list_all is_option before) (words_of (b ∷ bs)) (record { items = more; end = end })) refl (λ c t. same_before n (front ++ c ∷ []) (before ++ c ∷ []) t.items t.end (all_more is_option front c ∙ ap (λ a. a && is_option c) p ∙ sym (all_more is_option before c)) (any_more asks_done front c ∙ ap (λ a. a || asks_done c) q ∙ sym (any_more asks_done before c))) where
  by : (r : Read Command) → command_at (list_all is_option before) (words_of (b ∷ bs)) (record { items = more; end = end }) ≡ r
      → ((c : Command) (t : Stream) → commands_within n (front ++ c ∷ []) t.items t.end ≡ commands_within n (before ++ c ∷ []) t.items t.end)
      → commands_within (suc n) front (Line (b ∷ bs) ∷ more) end ≡ commands_within (suc n) before (Line (b ∷ bs) ∷ more) end
  by (Err f) e again = rw (p, e) refl
  by (Ok x) e again = rw (p, e) (ap (λ cs. if is_done x.0 then with_command x.0 (stops None) else with_command x.0 cs) (again x.0 x.1))

-- ---- the lines

asks_done_first : (n : ℕ) (rest : List Item) (end : End) → commands_within (suc n) [] (Line (codes "feature done") ∷ rest) end ≡ with_command (Asks features.Done) (commands_within n (Asks features.Done ∷ []) rest end)
unfolding commands_within command_at cut_at
asks_done_first n rest end = refl

asks_force : (n : ℕ) (rest : List Item) (end : End) → commands_within (suc n) [] (Line (codes "feature force") ∷ rest) end ≡ with_command (Asks features.Force) (commands_within n (Asks features.Force ∷ []) rest end)
unfolding commands_within command_at cut_at
asks_force n rest end = refl

then_force : (n : ℕ) (rest : List Item) (end : End) → commands_within (suc n) (Asks features.Done ∷ []) (Line (codes "feature force") ∷ rest) end
    ≡ with_command (Asks features.Force) (commands_within n (Asks features.Done ∷ Asks features.Force ∷ []) rest end)
unfolding commands_within command_at cut_at
then_force n rest end = refl

abbrev both : Bool → Bool → Features
both done force = record { done = done; force = force }

commands_of_both : (done force : Bool) (s : Stream) → commands_of (asking (both done force) s) ≡ behind_asked (both done force) (commands_asked (both done force) s)
commands_of_both false false s = refl
commands_of_both true false s = asks_done_first (length s.items) s.items s.end
commands_of_both false true s = asks_force (length s.items) s.items s.end
commands_of_both true true s =
    asks_done_first (suc (length s.items)) (Line (codes "feature force") ∷ s.items) s.end ∙ ap (with_command (Asks features.Done)) (then_force (length s.items) s.items s.end)

pub commands_are_asked : CommandsAreAsked
commands_are_asked f s = commands_of_both f.done f.force s

replayed_both : (name : Kind → Bytes → Bytes) (done force : Bool) (h : History) (cs : Commands)
    → replayed_commands name h (behind_asked (both done force) cs) ≡ replayed name (length (asked (both done force))) (begun (both done force) h) cs.list cs.fault
replayed_both name false false h cs = refl
replayed_both name true false h cs = refl
replayed_both name false true h cs = refl
replayed_both name true true h cs = refl

pub replays_are_asked : ReplaysAreAsked
replays_are_asked name f h s = ap (replayed_commands name h) (commands_are_asked f s) ∙ replayed_both name f.done f.force h (commands_asked f s)

-- ---- a stream that asks for `done` itself

first_asks : (done force : Bool) (n : ℕ) (rest : List Item) (end : End) → commands_within (suc n) (asked (both done force)) (Line (codes "feature done") ∷ rest) end
    ≡ with_command (Asks features.Done) (commands_within n (asked (both done force) ++ Asks features.Done ∷ []) rest end)
unfolding commands_within command_at cut_at
first_asks true true n rest end = refl
first_asks true false n rest end = refl
first_asks false true n rest end = refl
first_asks false false n rest end = refl

-- what plays a part of the commands before is the same behind it
all_options : (done force : Bool) → list_all is_option (asked (both done force) ++ Asks features.Done ∷ []) ≡ true
all_options true true = refl
all_options true false = refl
all_options false true = refl
all_options false false = refl

any_asks : (done force : Bool) → list_any asks_done (asked (both done force) ++ Asks features.Done ∷ []) ≡ true
any_asks true true = refl
any_asks true false = refl
any_asks false true = refl
any_asks false false = refl

asked_once : (f : Features) (n : ℕ) (rest : List Item) (end : End) → commands_within (suc n) (asked f) (Line (codes "feature done") ∷ rest) end ≡ commands_within (suc n) [] (Line (codes "feature done") ∷ rest) end
asked_once f n rest end =
    first_asks f.done f.force n rest end
    ∙ ap (with_command (Asks features.Done)) (same_before n (asked f ++ Asks features.Done ∷ []) (Asks features.Done ∷ []) rest end (all_options f.done f.force) (any_asks f.done f.force))
    ∙ sym (asks_done_first n rest end)

-- a text that begins with that line
line_first : (rest : Bytes) → items_of (item_text (Line (codes "feature done")) ++ rest) false ≡ then_comes (Line (codes "feature done")) (items_of rest false)
line_first rest =
    let left = items_of rest false in
    let item : IsItem (Line (codes "feature done")) = record { line = refl; no_comment = refl; no_data = refl } in
    only_reading (item_text (Line (codes "feature done")) ++ rest) false (Line (codes "feature done") ∷ left.items) left.end
    (taken rest (item_spelled (Line (codes "feature done")) rest item) (has_reading rest false))

text_asks_once : (f : Features) (rest : Bytes) → commands_asked f (items_of (item_text (Line (codes "feature done")) ++ rest) false) ≡ commands_of (items_of (item_text (Line (codes "feature done")) ++ rest) false)
text_asks_once f rest =
    let left = items_of rest false in
    ap (commands_asked f) (line_first rest) ∙ asked_once f (length left.items) left.items left.end ∙ ap commands_of (sym (line_first rest))

pub exports_ask_once : ExportsAskOnce
exports_ask_once f h = text_asks_once f (flat_map item_text (flat_map command_items (inner_commands (reached_commits h) h.refs ++ Done ∷ [])))

pub changes_ask_once : ChangesAskOnce
changes_ask_once name f h = text_asks_once f (flat_map item_text (flat_map command_items (sending_commands name (reached_commits h) h.refs ++ Done ∷ [])))
