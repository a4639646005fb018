-- The text of an export, imported into nothing: the refs and records of the exported repository, what the refs reach, and the same text.
use Rattle.std.proofs.Common.{◌≡◌, ℕ, ◌≤◌, ◌-◌, ◌^◌, Bool, true, false, cond, List, [], ◌∷◌, map, length, take, Option, Some, None, Ok, Err, refl, sym, ap, subst, ◌∙◌, inl, inr, arith}
use Rattle.std.specs.Prelude.{Result, nat_le}
use Rattle.std.specs.List.{AllByRecursion, filter, filter_map, flat_map}
use Rattle.std.proofs.lemmas.Bool.{false≢true}
use Rattle.std.proofs.lemmas.Bool.Decides.{nat_tests}
use Rattle.gx_model.specs.declared.objects.Kind.{Kind}
use Rattle.gx_model.specs.declared.faults.Fault.TheVariants as model_fault
use Rattle.gx_model.specs.Texts.{Bytes}
use Rattle.gx_model.specs.Streams.Commands.{Command, no_features}
use Rattle.gx_model.specs.Streams.Grammar.{commands_asked, commands_of}
use Rattle.gx_model.specs.Streams.Items.{items_of}
use Rattle.gx_model.proofs.ObjectTexts.OneTree.{all_left}
use Rattle.gx_model.specs.Histories.Values.{Commit, Value, commit_of}
use Rattle.gx_model.specs.Records.{name_of}
use Rattle.gx_model.specs.Histories.{History, IsIn, Records, StandsFor, Target, empty_repository, record_of, value_at}
use Rattle.gx_model.specs.Records.HistoryOf.{history_of}
use Rattle.gx_model.specs.Records.Sound.{AnyByRecursion, IsSound}
use Rattle.gx_model.specs.Replay.{Kept, finished, imported, imported_asked, refused, replayed_commands, replayed_text, start}
use Rattle.gx_model.specs.Export.{command_items, export_text, inner_commands, is_reached, item_text, reached_commits}
use Rattle.gx_model.specs.declared.features.Features.{Features}
use Rattle.gx_model.specs.Laws.FeatureLaws.{ExportsAskOnce}
use Rattle.gx_model.specs.Laws.ExportLaws.{ExportIsImported, FormedIsReadable, HasSayable, IsAgain, between, exported_report}
use Rattle.gx_model.specs.Laws.RepositoryLaws.{HistoriesOf, NamesTell}
use Rattle.gx_model.specs.Texts.Sinks.{Taken}
use Rattle.gx_text.specs.Devices.{Coming}
use Rattle.gx_stream.specs.Heard.{heard, heard_upto}
use Rattle.gx_command.specs.Reading.{commands_asked_from, commands_from}
use Rattle.gx_import.specs.Exported.{ExportedOr, GivesExport, ImportsExport, IsExported, LeaveExports}
use Rattle.gx_import.specs.Imports.{Imports, LeavesBefore, Replays, replayed_on, report_of}
use Rattle.gx_import.specs.declared.fault.ImportFault.{ImportFault}
use Rattle.gx_import.specs.declared.report.Report.{Report}
use Rattle.gx_import.proofs.NoClashes.{HaveNames, none_clashes}
use Rattle.gx_import.proofs.OtherCommands.{AreOther, exports_are_other, kept_through}
use Rattle.gx_import.proofs.ProgressTexts.{IsOther}
use Rattle.gx_import.proofs.ReachedStates.{imported_is}

-- ---- the text

-- a source that ends after some bytes
abbrev ending : Bytes → Coming
ending bytes = record { bytes = bytes; fails = false }

-- a source that is heard to its end gave no more than is heard
pub heard_short : (room : ℕ) (c : Coming) (bytes : Bytes) → heard_upto room c ≡ ending bytes → length bytes ≤ room
unfolding heard_upto
heard_short room c bytes e =
    elim (nat_le (length c.bytes) room) as (λ b. nat_le (length c.bytes) room ≡ b → cond b c (record { bytes = take room c.bytes; fails = true }) ≡ ending bytes → length bytes ≤ room) [
      | true ↦ λ k h. let short : length c.bytes ≤ room = grind (arith, nat_tests) in subst (λ z. length z.bytes ≤ room) h short
      | false ↦ λ k h. absurd (false≢true (ap (λ z. z.fails) (sym h)))
    ] refl e

-- ---- the features that are asked for

-- the commands of an export are the same with any features
asked_from : ExportsAskOnce → (asks : Features) (exported : Records) (coming : Coming) → GivesExport exported coming → commands_asked_from asks coming ≡ commands_from coming
asked_from once asks exported coming gives =
    ap (λ c. commands_asked asks (items_of c.bytes c.fails)) gives ∙ once asks (history_of exported) ∙ sym (ap (λ c. commands_of (items_of c.bytes c.fails)) gives)

-- and what their replay gives, where these ask for `done` alone
same_outcome : (name : Kind → Bytes → Bytes) → ExportsAskOnce → (done : Bool) (old exported : Records) (coming : Coming) → GivesExport exported coming
    → imported_asked (record { done = done; force = false }) name (history_of old) (heard coming).bytes (heard coming).fails ≡ imported name (history_of old) (heard coming).bytes (heard coming).fails
same_outcome name once done old exported coming gives =
    let asks : Features = record { done = done; force = false } in
    imported_is asks name (history_of old) coming ∙ ap (replayed_on no_features name old) (asked_from once asks exported coming gives) ∙ sym (imported_is no_features name (history_of old) coming)

-- and so is what its import answers, where these don't let branches lose commits
pub unasked : (name : Kind → Bytes → Bytes) → ExportsAskOnce → (done force : Bool) → force ≡ false → (old new exported : Records) (coming : Coming) → GivesExport exported coming
    → (was now : Option Taken) (r : Result Report ImportFault) → Imports (record { done = done; force = force }) name old new (Some coming) was now r → Imports no_features name old new (Some coming) was now r
unasked name once done true e old new exported coming gives was now r h = absurd (false≢true (sym e))
unasked name once done false e old new exported coming gives was now (Ok report) h =
    (h.0, sym (same_outcome name once done old exported coming gives) ∙ h.1, h.2)
unasked name once done false e old new exported coming gives was now (Err fault) h =
    let asks : Features = record { done = done; force = false } in
    let told = subst (λ cs. Replays asks name old new cs (imported_asked asks name (history_of old) (heard coming).bytes (heard coming).fails) was now (Err fault)) (asked_from once asks exported coming gives) h in
    subst (λ o. Replays asks name old new (commands_from coming) o was now (Err fault)) (same_outcome name once done old exported coming gives) told

-- ---- what is exported again

-- elements that pass all pass again
filter_again : {X : Type 0} (p : X → Bool) (xs : List X) → filter p (filter p xs) ≡ filter p xs
filter_again p [] = refl
filter_again p (x ∷ xs) =
    elim (p x) as (λ b. p x ≡ b → filter p (cond b (x ∷ filter p xs) (filter p xs)) ≡ cond b (x ∷ filter p xs) (filter p xs)) [
      | true ↦ λ e. ap (λ b. cond b (x ∷ filter p (filter p xs)) (filter p (filter p xs))) e ∙ ap (λ ys. x ∷ ys) (filter_again p xs)
      | false ↦ λ e. filter_again p xs
    ] refl

-- the export text of commits and refs
abbrev text_of_both : List Commit → List (Bytes × Target) → Bytes
text_of_both cs refs = flat_map item_text (flat_map command_items (between (inner_commands cs refs)))

-- the refs of the new history reach the same commits, in the same order
reached_again : (h k : History) → IsAgain h k → reached_commits k ≡ reached_commits h
reached_again h k again = (λ i. filter (is_reached (again.refs i)) (again.order i)) ∙ filter_again (is_reached h.refs) (filter_map commit_of h.values)

-- and so its export is the same text
text_again : (h k : History) → IsAgain h k → export_text k ≡ export_text h
text_again h k again = λ i. text_of_both (reached_again h k again i) (again.refs i)

module _ (name : Kind → Bytes → Bytes) where
  -- the record of a value stands among those of values with it
  record_in : (vs : List Value) (v : Value) → IsIn vs v → AnyByRecursion (λ other. other ≡ record_of name v) (map (record_of name) vs)
  record_in [] v h = h
  record_in (w ∷ vs) v h = elim h [ inl e ↦ inl (ap (record_of name) e) | inr k ↦ inr (record_in vs v k) ]

  -- the records of some of these values are among theirs
  records_in : (vs ws : List Value) → ((u : Value) → IsIn ws u → IsIn vs u) → AllByRecursion (λ held. AnyByRecursion (λ other. other ≡ held) (map (record_of name) vs)) (map (record_of name) ws)
  records_in vs [] f = tt
  records_in vs (w ∷ ws) f = (record_in vs w (f w (inl refl)), records_in vs ws (λ u i. f u (inr i)))

  -- repositories that stand for a history and for what its export gives
  stand_again : (exported new : Records) → StandsFor name exported (history_of exported) → StandsFor name new (history_of new) → IsAgain (history_of exported) (history_of new) → IsExported exported new
  stand_again exported new old now again = record {
    refs = now.refs ∙ ap (map (λ (ref : Bytes × Target). let r : Bytes × Bytes = (ref.0, name_of name (value_at ref.1)) in r)) again.refs ∙ sym old.refs;
    history = again;
    records = subst (AllByRecursion (λ held. AnyByRecursion (λ other. other ≡ held) exported.records)) (sym now.records)
        (subst (λ rs. AllByRecursion (λ held. AnyByRecursion (λ other. other ≡ held) rs) (map (record_of name) (history_of new).values)) (sym old.records)
        (records_in (history_of exported).values (history_of new).values again.held));
    text = text_again (history_of exported) (history_of new) again;
  }

  -- ---- the import

  module _ (histories : HistoriesOf name) (tells : NamesTell name) (readable : FormedIsReadable) (imports : ExportIsImported) where
    -- what the commands of an export's text give from nothing
    abbrev pub Replayed : Records → Coming → Type 0
    Replayed exported coming =
        (k : History) × IsAgain (history_of exported) k × (replayed_commands name (history_of empty_repository) (commands_from coming) ≡ finished k [] (exported_report (history_of exported) k))

    export_replayed : (exported : Records) → IsSound name exported → HasSayable (history_of exported) → (coming : Coming) → GivesExport exported coming → Replayed exported coming
    export_replayed exported sound links coming gives =
        let h = history_of exported in
        let is = (histories.stands exported sound).history in
        let room = heard_short (2 ^ 63 - 1) coming (export_text h) gives in
        let q = imports name h is (readable h is links (omega (arith, room))) in
        (q.0, q.1, (λ i. replayed_text name (history_of empty_repository) (gives i).bytes (gives i).fails) ∙ q.2)

    -- the values of what an export gives have names of their own
    names_apart : (exported : Records) → IsSound name exported → (k : History) → IsAgain (history_of exported) k → HaveNames name k.values
    names_apart exported sound k again = λ v w i j e. (tells.same exported sound v w (again.held v i) (again.held w j)).0 e

    -- an import that is accepted
    accepted_alone : (old new : Records) (coming : Option Coming) (was now : Option Taken) (report : Report) → IsSound name new → Imports no_features name old new coming was now (Ok report) → ImportsExport name old new coming (Ok report)
    accepted_alone old new None was now report stands h = tt
    accepted_alone old new (Some coming) was now report stands h = λ exported sound links gives empty.
        let q = export_replayed exported sound links coming gives in
        let ends : finished (history_of new) h.0 (report_of report) ≡ finished q.0 [] (exported_report (history_of exported) q.0) =
        sym h.1 ∙ imported_is no_features name (history_of old) coming ∙ ap (λ r. replayed_commands name (history_of r) (commands_from coming)) empty ∙ q.2 in
        let same : history_of new ≡ q.0 = cc ends in
        stand_again exported new (histories.stands exported sound) (histories.stands new stands) (subst (IsAgain (history_of exported)) (sym same) q.1)

    -- the commands of an export's text ask for no checkpoint
    none_asked : (exported : Records) → IsSound name exported → HasSayable (history_of exported) → (coming : Coming) → GivesExport exported coming → AreOther (commands_from coming).list
    none_asked exported sound links coming gives =
        let h = history_of exported in
        let is = (histories.stands exported sound).history in
        let room = heard_short (2 ^ 63 - 1) coming (export_text h) gives in
        subst (λ c. AreOther (commands_of (items_of c.bytes c.fails)).list) (sym gives) (exports_are_other h is (readable h is links (omega (arith, room))))

    -- and so a fault comes after none
    none_counted : (old new : Records) (commands : List Command) (fault : ImportFault) → AreOther commands → LeavesBefore no_features name old new commands fault → fault.checkpoints ≡ 0
    none_counted old new commands fault other k =
        let front = all_left IsOther k.0 k.1 (subst AreOther k.2 other) in
        k.7.count ∙ ap (λ (z : Kept). z.checkpoints) (kept_through name 0 (start (history_of old)) k.0 model_fault.ReadFailed fault.command model_fault.ReadFailed k.4 k.5 front k.6)

    -- one that is refused, for want of memory or at the sink
    stopped_alone : (old new last : Records) (coming : Option Coming) (was now : Option Taken) (fault : ImportFault) → Imports no_features name old new coming was now (Err fault) → ImportsExport name old last coming (Err fault)
    stopped_alone old new last None was now fault h = tt
    stopped_alone old new last (Some coming) was now fault h = λ exported sound links gives empty.
        let q = export_replayed exported sound links coming gives in
        let ends = imported_is no_features name (history_of old) coming ∙ ap (λ r. replayed_commands name (history_of r) (commands_from coming)) empty ∙ q.2 in
        elim h as (λ _. ExportedOr exported last (Err fault)) [
          | inl r ↦
              let other : refused fault.command fault.kind r.0 r.1 ≡ finished q.0 [] (exported_report (history_of exported) q.0) = sym r.2 ∙ ends in
              absurd (cc other)
          | inr k ↦
              let none = none_counted old new (commands_from coming).list fault (none_asked exported sound links coming gives) k.3 in
              elim k.2 as (λ _. ExportedOr exported last (Err fault)) [
                | inl m ↦ (inl m.0, none)
                | inr l ↦ elim l as (λ _. ExportedOr exported last (Err fault)) [
                  | inl m ↦
                      absurd (none_clashes name 0 (start (history_of old)) (commands_from coming).list (commands_from coming).fault q.0 [] (exported_report (history_of exported) q.0)
                      (ap (λ r. replayed_commands name (history_of r) (commands_from coming)) empty ∙ q.2) (names_apart exported sound q.0 q.1) fault.command m.1)
                  | inr m ↦ (inr m.0, none)
                ]
              ]
        ]

    -- both, where features are asked for that leave it so
    module _ (once : ExportsAskOnce) (asks : Features) (leaves : LeaveExports asks) where
      pub accepted : (old new : Records) (coming : Option Coming) (was now : Option Taken) (report : Report) → IsSound name new → Imports asks name old new coming was now (Ok report) → ImportsExport name old new coming (Ok report)
      accepted old new None was now report stands h = tt
      accepted old new (Some coming) was now report stands h = λ exported sound links gives empty.
          let plain = unasked name once asks.done asks.force leaves old new exported coming gives was now (Ok report) h in
          accepted_alone old new (Some coming) was now report stands plain exported sound links gives empty

      pub stopped : (old new last : Records) (coming : Option Coming) (was now : Option Taken) (fault : ImportFault) → Imports asks name old new coming was now (Err fault) → ImportsExport name old last coming (Err fault)
      stopped old new last None was now fault h = tt
      stopped old new last (Some coming) was now fault h = λ exported sound links gives empty.
          let plain = unasked name once asks.done asks.force leaves old new exported coming gives was now (Err fault) h in
          stopped_alone old new last (Some coming) was now fault plain exported sound links gives empty
