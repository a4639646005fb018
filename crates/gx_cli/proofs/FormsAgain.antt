-- An export in any form, imported into an empty store, where features are asked for that leave it so.
use Rattle.std.proofs.Common.{◌≡◌, ◌⊎◌, ◌≤◌, ◌-◌, ◌++◌, ℕ, zero, suc, Bool, true, false, cond, List, [], ◌∷◌, length, take, map, Option, Some, None, Result, Ok, Err, refl, sym, ap, subst, ◌∙◌, inl, inr, arith}
use Rattle.std.specs.List.{AllByRecursion, filter, filter_map, flat_map}
use Rattle.std.specs.Prelude.{nat_le}
use Rattle.std.proofs.lemmas.Bool.{false≢true}
use Rattle.std.proofs.lemmas.Bool.Decides.{nat_tests}
use Rattle.gx_model.specs.declared.objects.Kind.{Kind}
use Rattle.gx_model.specs.declared.faults.Fault.TheVariants as kind
use Rattle.gx_model.specs.declared.features.Features.{Features}
use Rattle.gx_model.specs.Changes.{changes_commands, changes_text, closed_by, sending_commands}
use Rattle.gx_model.specs.Export.{command_items, export_text, inner_commands, is_reached, item_text, reached_commits}
use Rattle.gx_model.specs.Texts.{Bytes}
use Rattle.gx_model.specs.Histories.{History, IsIn, Records, StandsFor, Target, empty_repository, record_of, value_at}
use Rattle.gx_model.specs.Histories.Values.{Commit, Value, commit_of}
use Rattle.gx_model.specs.Laws.ChangesLaws.{ChangesAreImported, ChangesAreSpelled, ClosedCommandsAreItems, ClosedCommandsAreRead, ShortChangesAreReadable, changes_report}
use Rattle.gx_model.specs.Laws.ExportLaws.{HasSayable, IsAgain, IsSpelled, ItemsAreRead, between}
use Rattle.gx_model.specs.Laws.FeatureLaws.{ChangesAskOnce}
use Rattle.gx_model.specs.Laws.RangeLaws.{AreToldByName}
use Rattle.gx_model.specs.Laws.RepositoryLaws.{HistoriesOf, NamesTell}
use Rattle.gx_model.specs.Records.{name_of}
use Rattle.gx_model.specs.Records.HistoryOf.{history_of}
use Rattle.gx_model.specs.Records.Sound.{AnyByRecursion, IsSound}
use Rattle.gx_model.specs.Replay.{finished, imported_asked, replayed, replayed_asked, replayed_text_asked, start}
use Rattle.gx_model.specs.Streams.Commands as command
use Rattle.gx_model.specs.Streams.Commands.{Asks, Blob, Checkpoint, Command, Commands, Done, OptionLine, Progress, Reset, no_features}
use Rattle.gx_model.specs.Streams.Grammar.{commands_asked, commands_of}
use Rattle.gx_model.specs.Streams.Items.{items_of}
use Rattle.gx_model.specs.Texts.Sinks.{Taken}
use Rattle.gx_text.specs.Devices.{Coming}
use Rattle.gx_stream.specs.Heard.{heard, heard_upto}
use Rattle.gx_command.specs.Reading.{commands_asked_from}
use Rattle.gx_export.specs.Outputs.{most}
use Rattle.gx_import.specs.Exported.{ExportedOr, ImportsExport, IsExported, LeaveExports}
use Rattle.gx_import.specs.Imports.{Imports, report_of}
use Rattle.gx_model.specs.Laws.RefusedReplays.{checkpoints_in, is_checkpoint}
use Rattle.gx_import.specs.Stopping.{StopsReplay}
use Rattle.gx_import.specs.declared.fault.ImportFault.{ImportFault}
use Rattle.gx_import.specs.declared.report.Report.{Report}
use Rattle.gx_asks.specs.declared.question.ExportForm.{ExportForm}
use Rattle.gx_asks.specs.declared.question.ExportForm.TheVariants.{Changes, FullTree}
use Rattle.gx_cli.specs.Again.{FormsAreImported, GivesForm, LeaveForm}

-- a source that ends after some bytes
abbrev ending : Bytes → Coming
ending bytes = record { bytes = bytes; fails = false }

-- a source that is heard to its end gave no more than is heard
heard_all : (room : ℕ) (c : Coming) (bytes : Bytes) → heard_upto room c ≡ ending bytes → length bytes ≤ room
unfolding heard_upto
heard_all room c bytes e =
    elim (nat_le (length c.bytes) room) as (λ b. nat_le (length c.bytes) room ≡ b → cond b c (record { bytes = take room c.bytes; fails = true }) ≡ ending bytes → length bytes ≤ room) [
      | true ↦ λ k h. let short : length c.bytes ≤ room = grind (arith, nat_tests) in subst (λ z. length z.bytes ≤ room) h short
      | false ↦ λ k h. absurd (false≢true (ap (λ z. z.fails) (sym h)))
    ] refl e

-- ---- no checkpoint is asked for

-- a command that can be spelled is no checkpoint
not_one : (c : Command) → IsSpelled c → is_checkpoint c ≡ false
not_one (Blob b) h = refl
not_one (command.Commit c) h = refl
not_one (command.Tag t) h = refl
not_one (Reset r) h = refl
not_one (Progress x) h = refl
not_one (Asks f) h = refl
not_one Checkpoint h = absurd h
not_one (OptionLine x) h = refl
not_one Done h = refl

abbrev AreNone : List Command → Type 0
AreNone commands = AllByRecursion (λ c. is_checkpoint c ≡ false) commands

all_spelled : (cs : List Command) → AllByRecursion IsSpelled cs → AreNone cs
all_spelled [] h = tt
all_spelled (c ∷ cs) h = (not_one c h.0, all_spelled cs h.1)

with_done : (cs : List Command) → AreNone cs → AreNone (cs ++ Done ∷ [])
with_done [] h = (refl, tt)
with_done (c ∷ cs) h = (h.0, with_done cs h.1)

closed_none : (closed : Bool) (cs : List Command) → AreNone cs → AreNone (closed_by closed cs)
closed_none true cs h = (refl, with_done cs h)
closed_none false cs h = h

-- however many are taken
none_counted : (n : ℕ) (cs : List Command) → AreNone cs → checkpoints_in (take n cs) ≡ 0
none_counted zero cs h = refl
none_counted (suc n) [] h = refl
none_counted (suc n) (c ∷ cs) h =
    ap (λ b. length (cond b (c ∷ filter is_checkpoint (take n cs)) (filter is_checkpoint (take n cs)))) h.0 ∙ none_counted n cs h.1

-- ---- what is exported again

-- elements that pass all pass again
filter_again : {X : Type 0} (p : X → Bool) (xs : List X) → filter p (filter p xs) ≡ filter p xs
filter_again p [] = refl
filter_again p (x ∷ xs) =
    elim (p x) as (λ b. p x ≡ b → filter p (cond b (x ∷ filter p xs) (filter p xs)) ≡ cond b (x ∷ filter p xs) (filter p xs)) [
      | true ↦ λ e. ap (λ b. cond b (x ∷ filter p (filter p xs)) (filter p (filter p xs))) e ∙ ap (λ ys. x ∷ ys) (filter_again p xs)
      | false ↦ λ e. filter_again p xs
    ] refl

-- the export text of commits and refs
abbrev text_of_both : List Commit → List (Bytes × Target) → Bytes
text_of_both cs refs = flat_map item_text (flat_map command_items (between (inner_commands cs refs)))

-- the refs of the new history reach the same commits, in the same order
reached_again : (h k : History) → IsAgain h k → reached_commits k ≡ reached_commits h
reached_again h k again = (λ i. filter (is_reached (again.refs i)) (again.order i)) ∙ filter_again (is_reached h.refs) (filter_map commit_of h.values)

-- and so its export is the same text
text_again : (h k : History) → IsAgain h k → export_text k ≡ export_text h
text_again h k again = λ i. text_of_both (reached_again h k again i) (again.refs i)

module _ (name : Kind → Bytes → Bytes) where
  -- ---- the repository

  -- the record of a value stands among those of values with it
  record_in : (vs : List Value) (v : Value) → IsIn vs v → AnyByRecursion (λ other. other ≡ record_of name v) (map (record_of name) vs)
  record_in [] v h = h
  record_in (w ∷ vs) v h = elim h [ inl e ↦ inl (ap (record_of name) e) | inr k ↦ inr (record_in vs v k) ]

  -- the records of some of these values are among theirs
  records_in : (vs ws : List Value) → ((u : Value) → IsIn ws u → IsIn vs u) → AllByRecursion (λ held. AnyByRecursion (λ other. other ≡ held) (map (record_of name) vs)) (map (record_of name) ws)
  records_in vs [] f = tt
  records_in vs (w ∷ ws) f = (record_in vs w (f w (inl refl)), records_in vs ws (λ u i. f u (inr i)))

  -- repositories that stand for a history, and for its refs and what they reach
  stand_again : (exported new : Records) → StandsFor name exported (history_of exported) → StandsFor name new (history_of new) → IsAgain (history_of exported) (history_of new) → IsExported exported new
  stand_again exported new old now again = record {
    refs = now.refs ∙ ap (map (λ (ref : Bytes × Target). let r : Bytes × Bytes = (ref.0, name_of name (value_at ref.1)) in r)) again.refs ∙ sym old.refs;
    history = again;
    records = subst (AllByRecursion (λ held. AnyByRecursion (λ other. other ≡ held) exported.records)) (sym now.records)
        (subst (λ rs. AllByRecursion (λ held. AnyByRecursion (λ other. other ≡ held) rs) (map (record_of name) (history_of new).values)) (sym old.records)
        (records_in (history_of exported).values (history_of new).values again.held));
    text = text_again (history_of exported) (history_of new) again;
  }

  -- ---- the features that are asked for

  same_commands : ChangesAskOnce → (done force closed : Bool) → LeaveForm (Changes closed) (record { done = done; force = force }) → (h : History)
      → commands_asked (record { done = done; force = force }) (items_of (changes_text name closed h) false) ≡ commands_of (items_of (changes_text name closed h) false)
  same_commands once done true closed leaves h = absurd (false≢true (sym leaves.0))
  same_commands once false false closed leaves h = refl
  same_commands once true false true leaves h = once name (record { done = true; force = false }) h
  same_commands once true false false leaves h = elim leaves.1 [ inl e ↦ absurd (false≢true (sym e)) | inr e ↦ absurd (false≢true e) ]

  -- a replay that doesn't let branches lose commits is one with no features
  same_begun : (asks : Features) → asks.force ≡ false → (h : History) (cs : Commands) → replayed_asked name asks h cs ≡ replayed_asked name no_features h cs
  same_begun asks e h cs = ap (λ b. replayed name 0 (record (start h) { is_forced = b }) cs.list cs.fault) e

  -- ---- the import

  module _ (histories : HistoriesOf name) (tells : NamesTell name) (readable : ShortChangesAreReadable) (imports : ChangesAreImported) (once : ChangesAskOnce) where
    -- what the replay of the text of changes gives
    replayed_changes : (asks : Features) (closed : Bool) → LeaveForm (Changes closed) asks → (exported : Records) → IsSound name exported → HasSayable (history_of exported)
        → (coming : Coming) → GivesForm name (Changes closed) exported coming
        → (k : History) × IsAgain (history_of exported) k
        × (imported_asked asks name (history_of empty_repository) (heard coming).bytes (heard coming).fails ≡ finished k [] (changes_report name closed (history_of exported) k))
    unfolding imported_asked
    replayed_changes asks closed leaves exported sound links coming gives =
        let h = history_of exported in
        let is = (histories.stands exported sound).history in
        let short = heard_all most coming (changes_text name closed h) gives in
        let q = imports name closed h is (readable name closed h is links (omega (arith, short))) in (
          q.0,
          q.1,
          (λ i. replayed_text_asked name asks (history_of empty_repository) (gives i).bytes (gives i).fails)
              ∙ ap (replayed_asked name asks (history_of empty_repository)) (same_commands once asks.done asks.force closed leaves h)
              ∙ same_begun asks leaves.0 (history_of empty_repository) (commands_of (items_of (changes_text name closed h) false)) ∙ q.2,
        )

    -- names tell its values apart
    told_apart : (exported : Records) → IsSound name exported → (k : History) → IsAgain (history_of exported) k → AreToldByName name k.values
    told_apart exported sound k again = λ v w i j e. (tells.same exported sound v w (again.held v i) (again.held w j)).0 e

    module _ (items : ItemsAreRead) (closed_items : ClosedCommandsAreItems) (closed_read : ClosedCommandsAreRead) (spelled : ChangesAreSpelled) where
      -- its commands ask for no checkpoint
      none_asked : (asks : Features) (closed : Bool) → LeaveForm (Changes closed) asks → (exported : Records) → IsSound name exported → HasSayable (history_of exported)
          → (coming : Coming) → GivesForm name (Changes closed) exported coming → AreNone (commands_asked_from asks coming).list
      none_asked asks closed leaves exported sound links coming gives =
          let h = history_of exported in
          let is = (histories.stands exported sound).history in
          let short = heard_all most coming (changes_text name closed h) gives in
          let inner = sending_commands name (reached_commits h) h.refs in
          let s = spelled name h is (readable name closed h is links (omega (arith, short))) in
          let read = ap commands_of (items (flat_map command_items (changes_commands name closed h)) (closed_items closed inner s)) ∙ closed_read closed inner s in
          let commands = (λ i. commands_asked asks (items_of (gives i).bytes (gives i).fails)) ∙ same_commands once asks.done asks.force closed leaves h ∙ read in
          subst (λ cs. AreNone cs.list) (sym commands) (closed_none closed inner (all_spelled inner s))

      -- a fault comes for want of memory or from the sink, and behind no checkpoint
      cut_changes : (asks : Features) (closed : Bool) → LeaveForm (Changes closed) asks → (exported : Records) → IsSound name exported → HasSayable (history_of exported)
          → (coming : Coming) → GivesForm name (Changes closed) exported coming → (old : Records) (fault : ImportFault) → old ≡ empty_repository → StopsReplay asks name old (Some coming) fault
          → ((fault.kind ≡ kind.OutOfMemory) ⊎ (fault.kind ≡ kind.WriteFailed)) × (fault.checkpoints ≡ 0)
      cut_changes asks closed leaves exported sound links coming gives old fault empty h =
          let q = replayed_changes asks closed leaves exported sound links coming gives in
          let stops = subst (λ o. StopsReplay asks name o (Some coming) fault) empty h in
          let e = stops q.0 [] (changes_report name closed (history_of exported) q.0) q.2 (told_apart exported sound q.0 q.1) in
          (e.0, e.1 ∙ none_counted (fault.command - 1) (commands_asked_from asks coming).list (none_asked asks closed leaves exported sound links coming gives))

      -- an import that is accepted
      changes_imported : (asks : Features) (closed : Bool) → LeaveForm (Changes closed) asks → (exported : Records) → IsSound name exported → HasSayable (history_of exported)
          → (coming : Coming) → GivesForm name (Changes closed) exported coming → (old new : Records) → old ≡ empty_repository → IsSound name new
          → (was now : Option Taken) (report : Report) → Imports asks name old new (Some coming) was now (Ok report) → IsExported exported new
      changes_imported asks closed leaves exported sound links coming gives old new empty stands was now report h =
          let q = replayed_changes asks closed leaves exported sound links coming gives in
          let ends : finished (history_of new) h.0 (report_of report) ≡ finished q.0 [] (changes_report name closed (history_of exported) q.0) =
          sym h.1 ∙ ap (λ o. imported_asked asks name (history_of o) (heard coming).bytes (heard coming).fails) empty ∙ q.2 in
          let same : history_of new ≡ q.0 = cc ends in
          stand_again exported new (histories.stands exported sound) (histories.stands new stands) (subst (IsAgain (history_of exported)) (sym same) q.1)

      -- the export in a form is that with all files, or that of changes
      of_form : (asks : Features) (old new : Records) (coming : Coming) (result : Result Report ImportFault) → (LeaveExports asks → ImportsExport name old new (Some coming) result)
          → ((closed : Bool) → LeaveForm (Changes closed) asks → (exported : Records) → IsSound name exported → HasSayable (history_of exported) → GivesForm name (Changes closed) exported coming → old ≡ empty_repository → ExportedOr exported new result)
          → (form : ExportForm) (exported : Records) → LeaveForm form asks → IsSound name exported → HasSayable (history_of exported) → GivesForm name form exported coming → old ≡ empty_repository → ExportedOr exported new result
      of_form asks old new coming result whole changed FullTree exported leaves sound links gives empty = whole leaves exported sound links gives empty
      of_form asks old new coming result whole changed (Changes closed) exported leaves sound links gives empty = changed closed leaves exported sound links gives empty

      pub forms_imported : FormsAreImported name
      forms_imported asks old new None was now result stands h stops whole = tt
      forms_imported asks old new (Some coming) was now (Ok report) stands h stops whole =
          of_form asks old new coming (Ok report) whole (λ closed leaves exported sound links gives empty. changes_imported asks closed leaves exported sound links coming gives old new empty stands was now report h)
      forms_imported asks old new (Some coming) was now (Err fault) stands h stops whole =
          of_form asks old new coming (Err fault) whole (λ closed leaves exported sound links gives empty. cut_changes asks closed leaves exported sound links coming gives old fault empty stops)
