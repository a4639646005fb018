-- The end of an import: what is published after the last command, how many objects were added, and the records that stay after a fault.
use Rattle.std.proofs.Common.{◌≡◌, ℕ, ◌+◌, ◌-◌, ◌≤◌, true, false, cond, List, [], length, take, Option, Some, None, Ok, Err, refl, sym, ap, subst, ◌∙◌, inl, inr}
use Rattle.std.proofs.Math.Seq.{take-append_seam}
use Rattle.std.proofs.lemmas.List.{append-nil, length-map}
use Rattle.gx_model.specs.declared.objects.Kind.{Kind}
use Rattle.gx_model.specs.declared.faults.Fault.TheVariants as fault
use Rattle.gx_model.specs.declared.features.Features.{Features}
use Rattle.gx_model.specs.Texts.{Bytes}
use Rattle.gx_model.specs.Histories.{Record, Records, record_of}
use Rattle.gx_model.specs.Records.HistoryOf.{history_of}
use Rattle.gx_model.specs.Streams.Commands.{Commands}
use Rattle.gx_model.specs.Laws.RepositoryLaws.{HistoriesOf}
use Rattle.gx_model.specs.Replay as model
use Rattle.gx_model.specs.Replay.{Outcome, State, final, finished, imported_asked, is_fast_forward, overwritten, refused, replayed_asked, report}
use Rattle.gx_model.specs.Records.Sound.{IsSound}
use Rattle.gx_model.specs.Texts.Sinks.{Taken}
use Rattle.gx_text.specs.Devices.{Coming}
use Rattle.gx_stream.specs.Heard.{heard}
use Rattle.gx_command.specs.Reading.{commands_asked_from}
use Rattle.gx_import.specs.Explaining.{TellsNoChange}
use Rattle.gx_import.specs.Losing.{TellsLoss}
use Rattle.gx_import.specs.declared.explanation.Explanation.{Explanation}
use Rattle.gx_import.specs.Imports.{Imports, Leaves, Replays, StandsForIts, StandsForReplay, last_number, only, progress_of, replayed_on, report_of}
use Rattle.gx_import.specs.Publishing.{Publishes}
use Rattle.gx_import.specs.Replaying.{EndsAs, IsLast}
use Rattle.gx_import.specs.Retelling.{IsOfOneReplay}
use Rattle.gx_import.specs.Standing.{Extends}
use Rattle.gx_import.specs.declared.report.Report.{Report}
use Rattle.gx_import.specs.declared.tables.Tables.{Tables}
use Rattle.gx_model.specs.declared.faults.Fault.{Fault}
use Rattle.gx_model.specs.declared.faults.Fault.TheVariants.{NotFastForward, OutOfMemory}
use Rattle.gx_import.proofs.ProgressTexts.{begins_outcome, numbers_outcome}
use Rattle.gx_import.proofs.ReachedStates.{from_one, imported_is}

-- a sound repository has as many records as its history has values
pub counted : (name : Kind → Bytes → Bytes) → HistoriesOf name → (r : Records) → IsSound name r → length r.records ≡ length (history_of r).values
counted name law r sound = ap length (law.stands r sound).records ∙ length-map (history_of r).values (record_of name)

module _ (asks : Features) (name : Kind → Bytes → Bytes) where
  forward : (old new : Records) (commands : Commands) (n : ℕ) (s : State) (was now : Option Taken) → IsLast asks name old commands n s was now → (objects count : ℕ) → is_fast_forward s ≡ true → history_of new ≡ final s
      → count ≡ length (overwritten s s.published) → objects ≡ length s.history.values - s.held
      → Replays asks name old new commands (replayed_asked name asks (history_of old) commands) was now (Ok (record { commands = n; objects = objects; refs = count }))
  forward old new commands n s was now k objects count is made counts adds = (
    s.progress,
    k.outcome
        ∙ ap (λ b. cond b (finished (final s) s.progress (report n s)) (refused (n + 1) fault.NotFastForward s.progress s.kept)) is
        ∙ ap (λ h. finished h s.progress (report n s)) (sym made)
        ∙ ap (λ x. finished (history_of new) s.progress (record { commands = n; objects = x; refs = length (overwritten s s.published) })) (sym adds)
        ∙ ap (λ x. finished (history_of new) s.progress (record { commands = n; objects = objects; refs = x })) (sym counts),
    k.progress,
  )

  backward : (old new : Records) (commands : Commands) (n : ℕ) (s : State) (was now : Option Taken) → IsLast asks name old commands n s was now → is_fast_forward s ≡ false
      → (count : ℕ) → Leaves new count s.kept
      → Replays asks name old new commands (replayed_asked name asks (history_of old) commands) was now (Err (record { command = n + 1; kind = NotFastForward; checkpoints = count }))
  backward old new commands n s was now k is count leaves =
      inl (s.progress, s.kept, k.outcome ∙ ap (λ b. cond b (finished (final s) s.progress (report n s)) (refused (n + 1) fault.NotFastForward s.progress s.kept)) is, k.progress, leaves)

  no_memory : (old new : Records) (commands : Commands) (n : ℕ) (s : State) (was now : Option Taken) → IsLast asks name old commands n s was now
      → (count : ℕ) → Leaves new count s.kept
      → Replays asks name old new commands (replayed_asked name asks (history_of old) commands) was now (Err (record { command = n + 1; kind = OutOfMemory; checkpoints = count }))
  no_memory old new commands n s was now k count leaves =
      let b = begins_outcome name n s [] None in
      inr (
        from_one n,
        subst (λ o. n + 1 ≤ last_number o) (sym k.outcome) (numbers_outcome name n s [] None),
        inl (refl, (s.progress, b.0, ap progress_of k.outcome ∙ b.1, k.progress)),
        (commands.list, [], sym (append-nil commands.list), sym (ap (λ m. m + 1) k.count), s.progress, s.kept, k.cut, leaves),
      )

  not_published : {A : Type 0} (old new last : Records) (tables : Tables A) (commands : Commands) (n : ℕ) (s : State) (was now : Option Taken) → IsLast asks name old commands n s was now → (count : ℕ) → Leaves new count s.kept → (e : Fault)
      → Publishes name s last tables (Err e) → Replays asks name old new commands (replayed_asked name asks (history_of old) commands) was now (Err (record { command = n + 1; kind = e; checkpoints = count }))
  not_published old new last tables commands n s was now k count leaves e h =
      let stops : Fault → Type 0 = λ fault. Replays asks name old new commands (replayed_asked name asks (history_of old) commands) was now (Err (record { command = n + 1; kind = fault; checkpoints = count })) in
      elim h as (λ _. stops e) [
        | inl is ↦ subst stops (sym is) (no_memory old new commands n s was now k count leaves)
        | inr is ↦ subst stops (sym is.0) (backward old new commands n s was now k is.1 count leaves)
      ]

  -- an import that is accepted
  pub imports_all : {A : Type 0} (old new : Records) (tables : Tables A) (coming : Option Coming) (n : ℕ) (s : State) (was now : Option Taken) → EndsAs asks name old coming n s was now → HistoriesOf name → IsSound name old → IsSound name new
      → (count : ℕ) → Publishes name s new tables (Ok tt) → count ≡ length (overwritten s s.published)
      → Imports asks name old new coming was now (Ok (record { commands = n; objects = length new.records - length old.records; refs = count }))
  imports_all old new tables coming n s was now k law sound sounds count h counts = by coming k
    where
      adds : (commands : Commands) → IsLast asks name old commands n s was now → length new.records - length old.records ≡ length s.history.values - s.held
      adds commands last =
          let now_held = counted name law new sounds ∙ ap (λ x. length x.values) h.1.history in
          let was_held = counted name law old sound ∙ sym last.held in
          ap (λ x. x - length old.records) now_held ∙ ap (λ x. length s.history.values - x) was_held

      replays : (commands : Commands) → IsLast asks name old commands n s was now → Replays asks name old new commands (replayed_on asks name old commands) was now (Ok (record { commands = n; objects = length new.records - length old.records; refs = count }))
      replays commands last = forward old new commands n s was now last (length new.records - length old.records) count h.0 h.1.history counts (adds commands last)

      by : (c : Option Coming) → EndsAs asks name old c n s was now → Imports asks name old new c was now (Ok (record { commands = n; objects = length new.records - length old.records; refs = count }))
      by None last = (only last.0, last.2, replays (only last.0) last.1)
      by (Some c) last = subst (λ o. Replays asks name old new (commands_asked_from asks c) o was now (Ok (record { commands = n; objects = length new.records - length old.records; refs = count }))) (sym (imported_is asks name (history_of old) c)) (replays (commands_asked_from asks c) last)

  -- one that isn't published
  pub imports_none : {A : Type 0} (old new last : Records) (tables : Tables A) (coming : Option Coming) (n : ℕ) (s : State) (was now : Option Taken) → EndsAs asks name old coming n s was now → (count : ℕ) → Leaves new count s.kept → (e : Fault) → Publishes name s last tables (Err e)
      → Imports asks name old new coming was now (Err (record { command = n + 1; kind = e; checkpoints = count }))
  imports_none old new last tables None n s was now k count leaves e h = (only k.0, k.2, not_published old new last tables (only k.0) n s was now k.1 count leaves e h)
  imports_none old new last tables (Some coming) n s was now k count leaves e h =
      subst (λ o. Replays asks name old new (commands_asked_from asks coming) o was now (Err (record { command = n + 1; kind = e; checkpoints = count }))) (sym (imported_is asks name (history_of old) coming))
      (not_published old new last tables (commands_asked_from asks coming) n s was now k count leaves e h)

  -- the same where the source tells nothing, with what is told of it
  pub one_last : {A B : Type 0} (old new last : Records) (tables : Tables A) (n : ℕ) (s : State) (was now : Option Taken) → EndsAs asks name old None n s was now → (count : ℕ) → Leaves new count s.kept → (e : Fault) → Publishes name s last tables (Err e)
      → (told : Explanation B) → TellsNoChange told × TellsLoss name s e told.loss × (told.asked ≡ None)
      → IsOfOneReplay asks name old new was now (Err (record { command = n + 1; kind = e; checkpoints = count })) told
  one_last old new last tables n s was now k count leaves e h told tells = (
    only k.0,
    k.2,
    not_published old new last tables (only k.0) n s was now k.1 count leaves e h,
    record { before = k.0; after = []; all = sym (append-nil k.0); number = sym (ap (λ m. m + 1) k.1.count); state = s; reached = k.1.reached; tells = tells },
  )

  -- the new repository stands for the history of the replay
  stands_for : (new : Records) (outcome : Outcome) (text : Bytes) (report : model.Report) → HistoriesOf name → IsSound name new → outcome ≡ finished (history_of new) text report → StandsForIts name outcome new
  stands_for new outcome text report law sound e = subst (λ o. StandsForIts name o new) (sym e) (sound, law.stands new sound)

  pub stands_replayed : (old new : Records) (coming : Option Coming) (was now : Option Taken) (report : Report) → HistoriesOf name → IsSound name new → Imports asks name old new coming was now (Ok report)
      → StandsForReplay asks name old new coming
  stands_replayed old new None was now report law sound h = (h.0, h.1, stands_for new (replayed_on asks name old h.0) h.2.0 (report_of report) law sound h.2.1)
  stands_replayed old new (Some coming) was now report law sound h = stands_for new (imported_asked asks name (history_of old) (heard coming).bytes (heard coming).fails) h.0 (report_of report) law sound h.1

-- ---- the records that stay

first_of_more : (old new : List Record) (n : ℕ) → n ≡ length old → Extends old new → take n new ≡ old
first_of_more old new n e h = ap (λ k. take k new) e ∙ ap (take (length old)) h.1 ∙ take-append_seam old h.0

with_parts : {N : Type 0} → N → List Record → List (Bytes × Bytes) → N × Records
with_parts name records refs = (name, record { records = records; refs = refs })

pub as_before : {N : Type 0} (x y : N) (old now : Records) (n : ℕ) (r : N × Records) → r ≡ (y, record { records = take n now.records; refs = now.refs }) → n ≡ length old.records → Extends old.records now.records → y ≡ x → now.refs ≡ old.refs
    → r ≡ (x, old)
unfolding with_parts
as_before x y old now n r is e h called same =
    is ∙ ap (λ z. with_parts z (take n now.records) now.refs) called ∙ ap (λ z. with_parts x z now.refs) (first_of_more old.records now.records n e h) ∙ ap (with_parts x old.records) same
