-- How far a replay has come: what was replayed of the commands, and what follows from the next answer of the reader or of a command.
use Rattle.std.proofs.Common.{◌≡◌, ℕ, ◌+◌, ◌≤◌, Bool, List, [], ◌∷◌, ◌++◌, length, Option, Some, None, Ok, Err, refl, sym, ap, subst, ◌∙◌, inl, inr, append_assoc, arith}
use Rattle.std.specs.Prelude.{IfOk}
use Rattle.std.proofs.lemmas.List.{append-nil, length-append}
use Rattle.std.specs.Option.{option_map}
use Rattle.gx_model.specs.declared.objects.Kind.{Kind}
use Rattle.gx_model.specs.declared.faults.Fault.{Fault}
use Rattle.gx_model.specs.declared.faults.Fault.TheVariants as fault
use Rattle.gx_model.specs.declared.features.Features.{Features}
use Rattle.gx_model.specs.Texts.{Bytes}
use Rattle.gx_model.specs.Streams.Grammar.{stops, with_command}
use Rattle.gx_model.specs.Streams.Gitlinks.{BringsSayable, HoldsSayable}
use Rattle.gx_model.specs.Histories.{History, IsHistory, Records}
use Rattle.gx_model.specs.Records.HistoryOf.{history_of}
use Rattle.gx_model.specs.Streams.Commands.{Command, Commands, Progress}
use Rattle.gx_model.specs.Replay.{Outcome, State, begun, imported_asked, refused, replayed, replayed_asked, start, step}
use Rattle.gx_model.specs.Faults.{◌>>=◌}
use Rattle.gx_model.specs.Laws.ExportLaws.{steps}
use Rattle.gx_model.proofs.Export.CommitSteps.{steps_after}
use Rattle.gx_model.proofs.Replay.GitlinkSteps.{IsFreeState, start_free, step_free}
use Rattle.gx_model.specs.Texts.Sinks.{FailedWithin, Taken, Took, TookFront}
use Rattle.gx_text.specs.Devices.{Coming}
use Rattle.gx_stream.specs.Heard.{heard}
use Rattle.gx_command.specs.Reading.{AreOfItems, MayCome, Reads, Seen, commands_asked_from}
use Rattle.gx_command.proofs.ExplainedCommands.{some_follow}
use Rattle.gx_command.specs.Views.{shown_command}
use Rattle.gx_command.specs.declared.commands.Command as read
use Rattle.gx_command.specs.declared.fault.CommandFault.{CommandFault}
use Rattle.gx_import.specs.Additions.{ClashesAt}
use Rattle.gx_import.specs.Applying.{Applies}
use Rattle.gx_command.specs.CommandFaults.{fault_of as of_command}
use Rattle.gx_import.specs.Asking.{AsksInVain}
use Rattle.gx_import.specs.Explaining.{ExplainsFault, HasNoneRefused, HasRefused, TellsAll, TellsNext, TellsNoChange, TellsNothing}
use Rattle.gx_import.specs.Losing.{TellsLoss}
use Rattle.gx_import.proofs.AskedReferences.{none_vain}
use Rattle.gx_import.proofs.Losses.{memory_forward, none_lost, none_lost_by, read_forward}
use Rattle.gx_import.specs.declared.explanation.Explanation.{Explanation}
use Rattle.std.specs.Prelude.{MatchOption}
use Rattle.gx_import.specs.Imports.{Imports, IsCutAt, Leaves, LeavesBefore, Replays, cut_off, last_number, line_of, only, progress_of, replayed_on}
use Rattle.gx_import.specs.Reading.{GivesNext, IsAskedOf}
use Rattle.gx_import.specs.Replaying.{EndsAs, IsLast}
use Rattle.gx_import.specs.Retelling.{IsOfOneReplay}
use Rattle.gx_import.specs.Objects.{IsOf, IsTagOf}
use Rattle.gx_import.specs.Rows.{AreBoth, AreRows}
use Rattle.gx_import.specs.Standing.{AreEmpty, IsTip, Stands}
use Rattle.gx_import.specs.declared.fault.ImportFault.{ImportFault}
use Rattle.gx_model.specs.declared.faults.Fault.TheVariants.{OutOfMemory, ReadFailed, WriteFailed, UnknownCommand, BadLine, BadNumber, TruncatedData, BadPath, PathTooLong, BadMode, BadIdent, BadRefName, UnknownMark, WrongKind, UnknownObject, NoSuchPath, RootNotTree, FromItself, EmptyBranch, Unsupported, LateOption, MissingDone, NotFastForward, NameHeld, BadRevision, UnknownRef, Ambiguous, NoParent}
use Rattle.gx_import.specs.declared.tables.Tables.{Tables}
use Rattle.gx_model.proofs.Texts.SentTexts.{failed_after, failed_longer, took_both, took_nothing}
use Rattle.gx_import.proofs.ProgressTexts.{begins_outcome, last_progress, numbers_outcome}
use Rattle.gx_import.proofs.PublishedNames.{none_published}

-- numbers of commands are from 1
pub from_one : (n : ℕ) → 1 ≤ n + 1
from_one n = omega arith

-- commands, and what is left behind them
abbrev behind : List Command → Commands → Commands
behind before left = record { list = before ++ left.list; fault = left.fault }

-- a command more before what is left
behind_next : (before : List Command) (c : Command) (left : Commands) → behind (before ++ c ∷ []) left ≡ behind before (with_command c left)
behind_next before c left = ap (λ l. record { list = l; fault = left.fault }) (append_assoc before (c ∷ []) left.list)

-- a replay that begins with this history, and whether its branches may lose commits
abbrev pub starting : Bool → History → State
starting is_forced h = record (start h) { is_forced = is_forced }

module _ (asks : Features) (name : Kind → Bytes → Bytes) where
  -- the outcome of an import is that of its commands
  pub imported_is : (h : History) (c : Coming) → imported_asked asks name h (heard c).bytes (heard c).fails ≡ replayed_asked name asks h (commands_asked_from asks c)
  unfolding imported_asked
  imported_is h c = refl

  -- these commands, n in number, were replayed to this state, and the sink has the progress text
  pub record HasReached (h : History) (before : List Command) (n : ℕ) (s : State) (was now : Option Taken) : Type 0 where
    pub outcome : (left : Commands) → replayed_asked name asks h (behind before left) ≡ replayed name n s left.list left.fault
    pub clashes : (left : List Command) (number : ℕ) → ClashesAt name n s left number → ClashesAt name 0 (begun asks h) (before ++ left) number
    pub reached : steps name (begun asks h) before ≡ Ok s
    pub count : length before ≡ n
    pub progress : Took was now s.progress
    pub held : s.held ≡ length h.values

  reached_start : (h : History) (was : Option Taken) → HasReached h [] 0 (begun asks h) was was
  reached_start h was = record { outcome = λ left. refl; clashes = λ left number k. k; reached = refl; count = refl; progress = took_nothing was; held = refl }

  -- the state after one command more
  reached_next : (h : History) (before : List Command) (n : ℕ) (s : State) (c : Command) (was mid now : Option Taken) → HasReached h before n s was mid
      → (t : State) (text : Bytes) → step name s c ≡ Ok t → t.progress ≡ s.progress ++ text → t.held ≡ s.held → Took mid now text → HasReached h (before ++ c ∷ []) (n + 1) t was now
  reached_next h before n s c was mid now k t text e p held took = record {
    outcome = λ left. ap (replayed_asked name asks h) (behind_next before c left) ∙ k.outcome (with_command c left)
        ∙ ap (λ r. elim r as (λ _. Outcome) [ Ok u ↦ replayed name (n + 1) u left.list left.fault | Err f ↦ refused (n + 1) f s.progress s.kept ]) e;
    clashes = λ left number i.
        let next = subst (λ r. elim r as (λ _. Type 0) [ Ok u ↦ ClashesAt name (n + 1) u left number | Err f ↦ ⊥ ]) (sym e) i in
        subst (λ l. ClashesAt name 0 (begun asks h) l number) (sym (append_assoc before (c ∷ []) left)) (k.clashes (c ∷ left) number (inr next));
    reached = steps_after name (begun asks h) s before (c ∷ []) k.reached ∙ ap (λ r. r >>= λ u. steps name u []) e;
    count = length-append before (c ∷ []) ∙ ap (λ m. m + 1) k.count;
    progress = subst (Took was now) (sym p) (took_both was mid now s.progress text k.progress took);
    held = held ∙ k.held;
  }

  -- where the stream is cut off behind these commands, what the state keeps is kept
  cut_here : (old : Records) (before : List Command) (n : ℕ) (s : State) (was now : Option Taken) → HasReached (history_of old) before n s was now
      → replayed_on asks name old (cut_off before) ≡ refused (n + 1) fault.ReadFailed s.progress s.kept
  cut_here old before n s was now k = ap (λ l. replayed_on asks name old (cut_off l)) (sym (append-nil before)) ∙ k.outcome (stops (Some fault.ReadFailed))

  -- these commands alone end with the state
  reached_last : (old : Records) (before : List Command) (n : ℕ) (s : State) (was now : Option Taken) → HasReached (history_of old) before n s was now → IsLast asks name old (only before) n s was now
  reached_last old before n s was now k = record {
    outcome = ap (λ l. replayed_on asks name old (only l)) (sym (append-nil before)) ∙ k.outcome (only []);
    cut = cut_here old before n s was now k;
    reached = k.reached;
    count = k.count;
    progress = k.progress;
    held = k.held;
  }

  module _ (old new : Records) (before : List Command) (n : ℕ) (s : State) (was mid : Option Taken) (k : HasReached (history_of old) before n s was mid) (count : ℕ) (leaves : Leaves new count s.kept) where
    -- what the sink has is a front of the outcome's text
    took_front : (left : Commands) → TookFront was mid (progress_of (replayed_on asks name old (behind before left)))
    took_front left =
        let b = begins_outcome name n s left.list left.fault in
        (s.progress, b.0, ap progress_of (k.outcome left) ∙ b.1, k.progress)

    number_within : (left : Commands) → n + 1 ≤ last_number (replayed_on asks name old (behind before left))
    number_within left = subst (λ o. n + 1 ≤ last_number o) (sym (k.outcome left)) (numbers_outcome name n s left.list left.fault)

    -- what the import answers at the next command, where this is left
    abbrev Stops : Commands → Option Taken → Fault → Type 0
    Stops left now kind = Replays asks name old new (behind before left) (replayed_on asks name old (behind before left)) was now (Err (record { command = n + 1; kind = kind; checkpoints = count }))

    -- what is left is what was kept before the next command
    left_before : (kind : Fault) (cs : List Command) → LeavesBefore asks name old new (before ++ cs) (record { command = n + 1; kind = kind; checkpoints = count })
    left_before kind cs = (before, cs, refl, sym (ap (λ m. m + 1) k.count), s.progress, s.kept, cut_here old before n s was mid k, leaves)

    -- memory ran out
    out_of_memory : (left : Commands) → Stops left mid OutOfMemory
    out_of_memory left = inr (from_one n, number_within left, inl (refl, took_front left), left_before OutOfMemory left.list)

    -- what is left is the reader's fault
    fault_read : (left : Commands) (f : CommandFault) → left ≡ stops (Some (of_command f)) → Stops left mid (of_command f)
    fault_read left f e =
        inl (s.progress, s.kept, k.outcome left ∙ ap (λ l. replayed name n s l.list l.fault) e, k.progress, leaves)

    module _ (c : Command) (left : Commands) (now : Option Taken) where
      -- the step that is refused ends the outcome
      refused_here : (f : Fault) → step name s c ≡ Err f → replayed_on asks name old (behind before (with_command c left)) ≡ refused (n + 1) f s.progress s.kept
      refused_here f e = k.outcome (with_command c left) ∙ ap (λ r. elim r as (λ _. Outcome) [ Ok u ↦ replayed name (n + 1) u left.list left.fault | Err g ↦ refused (n + 1) g s.progress s.kept ]) e

      -- and the sink is as it was
      refused_as : (e : Fault) → (step name s c ≡ Err e) × (now ≡ mid) → Stops (with_command c left) now e
      refused_as e h = inl (s.progress, s.kept, refused_here e h.0, subst (λ m. Took was m s.progress) (sym h.1) k.progress, leaves)

      -- the sink failed within the text of a step
      failed_here : (t : State) (text : Bytes) → step name s c ≡ Ok t → t.progress ≡ s.progress ++ text → FailedWithin mid now text
          → FailedWithin was now (progress_of (replayed_on asks name old (behind before (with_command c left))))
      failed_here t text e p failed =
          let b = begins_outcome name (n + 1) t left.list left.fault in
          let o = k.outcome (with_command c left) ∙ ap (λ r. elim r as (λ _. Outcome) [ Ok u ↦ replayed name (n + 1) u left.list left.fault | Err f ↦ refused (n + 1) f s.progress s.kept ]) e in
          let whole = ap progress_of o ∙ b.1 ∙ ap (λ x. x ++ b.0) p in
          subst (FailedWithin was now) (sym whole) (failed_longer was now (s.progress ++ text) b.0 (failed_after was mid now s.progress text k.progress failed))

      -- the line of a progress is cut, behind those of the commands before
      line_cut : (text : Bytes) → c ≡ Progress text → FailedWithin mid now (line_of text) → IsCutAt asks name old (before ++ c ∷ left.list) (n + 1) was now
      line_cut text e failed =
          let last = reached_last old before n s was mid k in
          let said = ap progress_of last.outcome ∙ last_progress name n s None in
          (before, text, left.list, ap (λ x. before ++ x ∷ left.list) e, sym (ap (λ m. m + 1) k.count), (mid, subst (Took was mid) (sym said) k.progress, failed))

      -- a command that isn't applied
      stopped : {A : Type 0} (r now_r : Records) (tables : Tables A) (e : Fault) → Applies name r now_r tables s c mid now (Err e) → Stops (with_command c left) now e
      stopped r now_r tables OutOfMemory h = subst (λ m. Stops (with_command c left) m OutOfMemory) (sym h) (out_of_memory (with_command c left))
      stopped r now_r tables WriteFailed h =
          elim h as (λ _. Stops (with_command c left) now WriteFailed) [
            | inl e ↦ refused_as WriteFailed e
            | inr e ↦ inr (from_one n, number_within (with_command c left), inr (inr (refl, line_cut e.1 e.2 e.5, failed_here e.0 (line_of e.1) e.3 e.4.progress e.5)), left_before WriteFailed (c ∷ left.list))
          ]
      stopped r now_r tables NameHeld h =
          elim h.0 as (λ _. Stops (with_command c left) now NameHeld) [
            | inl e ↦ refused_as NameHeld (e, h.1)
            | inr e ↦
                let front = subst (λ m. TookFront was m (progress_of (replayed_on asks name old (behind before (with_command c left))))) (sym h.1) (took_front (with_command c left)) in
                inr (from_one n, number_within (with_command c left), inr (inl (refl, k.clashes (c ∷ left.list) (n + 1) (inl (refl, e)), front)), left_before NameHeld (c ∷ left.list))
          ]
      stopped r now_r tables e h = refused_as e h

-- where a replay is in the commands that a source gives, or, where it tells nothing, in those of some items
module _ (asks : Features) (name : Kind → Bytes → Bytes) where
  abbrev pub IsAt : Records → Option Coming → ℕ → State → Seen → Option Taken → Option Taken → Type 0
  IsAt old None n s ahead was now =
      (before : List Command) × HasReached asks name (history_of old) before n s was now × ((left : Commands) → MayCome ahead left → AreOfItems asks (behind before left))
  IsAt old (Some coming) n s ahead was now =
      (before : List Command) × (left : Commands) × (ahead.commands ≡ Some left) × (commands_asked_from asks coming ≡ behind before left) × HasReached asks name (history_of old) before n s was now

  pub at_start : (is_forced : Bool) (old : Records) (coming : Option Coming) (ahead : Seen) (was : Option Taken) → asks.force ≡ is_forced → IsAskedOf asks coming ahead
      → IsAt old coming 0 (starting is_forced (history_of old)) ahead was was
  at_start is_forced old coming ahead was same e = subst (λ b. IsAt old coming 0 (starting b (history_of old)) ahead was was) same (by coming e.commands) where
    by : (c : Option Coming) → ahead.commands ≡ option_map (commands_asked_from asks) c → IsAt old c 0 (begun asks (history_of old)) ahead was was
    by None is = ([], reached_start asks name (history_of old) was, e.items)
    by (Some c) is = ([], commands_asked_from asks c, is, refl, reached_start asks name (history_of old) was)

  pub at_next : {A : Type 0} (old r new : Records) (tables : Tables A) (coming : Option Coming) (n : ℕ) (s : State) (c : read.Command A) (ahead later : Seen) (was mid now : Option Taken)
      → IsAt old coming n s ahead was mid → GivesNext ahead later (Ok (Some c)) → (h : Applies name r new tables s (shown_command c) mid now (Ok tt)) → IsAt old coming (n + 1) h.0 later was now
  at_next old r new tables None n s c ahead later was mid now k reads h = (
    k.0 ++ shown_command c ∷ [],
    reached_next asks name (history_of old) k.0 n s (shown_command c) was mid now k.1 h.0 h.1 h.2 h.4.progress h.4.held h.5,
    λ left m. subst (AreOfItems asks) (sym (behind_next k.0 (shown_command c) left)) (k.2 (with_command (shown_command c) left) (reads.explains left m)),
  )
  at_next {A} old r new tables (Some coming) n s c ahead later was mid now k reads h =
      let q = subst (λ o. Reads {A = A} o later.commands (Ok (Some c))) k.2 reads.reads in
      let whole = k.3 ∙ ap (behind k.0) q.1 ∙ sym (behind_next k.0 (shown_command c) q.0) in
      (k.0 ++ shown_command c ∷ [], q.0, q.2, whole, reached_next asks name (history_of old) k.0 n s (shown_command c) was mid now k.4 h.0 h.1 h.2 h.4.progress h.4.held h.5)

  -- what is answered over these commands is answered over those that the source gives
  told : (old last : Records) (coming : Coming) (commands : Commands) (was now : Option Taken) (fault : ImportFault) → commands_asked_from asks coming ≡ commands
      → Replays asks name old last commands (replayed_on asks name old commands) was now (Err fault) → Imports asks name old last (Some coming) was now (Err fault)
  told old last coming commands was now fault e h =
      subst (λ o. Replays asks name old last (commands_asked_from asks coming) o was now (Err fault)) (sym (imported_is asks name (history_of old) coming))
      (subst (λ cs. Replays asks name old last cs (replayed_on asks name old cs) was now (Err fault)) (sym e) h)

  pub at_stopped : {A : Type 0} (old last r new : Records) (tables : Tables A) (coming : Option Coming) (n : ℕ) (s : State) (c : read.Command A) (ahead later : Seen) (was mid now : Option Taken)
      → IsAt old coming n s ahead was mid → GivesNext ahead later (Ok (Some c)) → (e : Fault) → Applies name r new tables s (shown_command c) mid now (Err e)
      → (count : ℕ) → Leaves last count s.kept → Imports asks name old last coming was now (Err (record { command = n + 1; kind = e; checkpoints = count }))
  at_stopped old last r new tables None n s c ahead later was mid now k reads e h count leaves =
      let some = some_follow later.over later.known in
      let left = some.0 in
      (behind k.0 (with_command (shown_command c) left), k.2 (with_command (shown_command c) left) (reads.explains left some.1), stopped asks name old last k.0 n s was mid k.1 count leaves (shown_command c) left now r new tables e h)
  at_stopped {A} old last r new tables (Some coming) n s c ahead later was mid now k reads e h count leaves =
      let q = subst (λ o. Reads {A = A} o later.commands (Ok (Some c))) k.2 reads.reads in
      told old last coming (behind k.0 (with_command (shown_command c) q.0)) was now (record { command = n + 1; kind = e; checkpoints = count }) (k.3 ∙ ap (behind k.0) q.1)
      (stopped asks name old last k.0 n s was mid k.4 count leaves (shown_command c) q.0 now r new tables e h)

  pub at_refused : (A : Type 0) (old last : Records) (coming : Option Coming) (n : ℕ) (s : State) (ahead later : Seen) (was now : Option Taken) → IsAt old coming n s ahead was now
      → (f : CommandFault) → GivesNext {A = A} ahead later (Err f) → (count : ℕ) → Leaves last count s.kept
      → Imports asks name old last coming was now (Err (record { command = n + 1; kind = of_command f; checkpoints = count }))
  at_refused A old last None n s ahead later was now k f reads count leaves =
      let goal : Fault → Type 0 = λ kind. Imports asks name old last None was now (Err (record { command = n + 1; kind = kind; checkpoints = count })) in
      let left = stops (Some (of_command f)) in
      elim reads.explains as (λ _. goal (of_command f)) [
        | inl e ↦
            let some = some_follow ahead.over ahead.known in
            subst (λ g. goal (of_command g)) (sym e) (behind k.0 some.0, k.2 some.0 some.1, out_of_memory asks name old last k.0 n s was now k.1 count leaves some.0)
        | inr m ↦ (behind k.0 left, k.2 left m, fault_read asks name old last k.0 n s was now k.1 count leaves left f refl)
      ]
  at_refused A old last (Some coming) n s ahead later was now k f reads count leaves =
      let q = subst (λ o. Reads {A = A} o later.commands (Err f)) k.2 reads.reads in
      let goal : Fault → Type 0 = λ kind. Imports asks name old last (Some coming) was now (Err (record { command = n + 1; kind = kind; checkpoints = count })) in
      elim q.1 as (λ _. goal (of_command f)) [
        | inl e ↦
            let answer = told old last coming (behind k.0 k.1) was now (record { command = n + 1; kind = OutOfMemory; checkpoints = count }) k.3 (out_of_memory asks name old last k.0 n s was now k.4 count leaves k.1) in
            subst (λ g. goal (of_command g)) (sym e) answer
        | inr e ↦ told old last coming (behind k.0 k.1) was now (record { command = n + 1; kind = of_command f; checkpoints = count }) k.3 (fault_read asks name old last k.0 n s was now k.4 count leaves k.1 f e)
      ]

  pub at_end : (A : Type 0) (old : Records) (coming : Option Coming) (n : ℕ) (s : State) (ahead later : Seen) (was now : Option Taken) → IsAt old coming n s ahead was now
      → GivesNext {A = A} ahead later (Ok None) → EndsAs asks name old coming n s was now
  at_end A old None n s ahead later was now k reads =
      (k.0, reached_last asks name old k.0 n s was now k.1, subst (λ list. AreOfItems asks (only list)) (append-nil k.0) (k.2 (stops None) reads.explains))
  at_end A old (Some coming) n s ahead later was now k reads =
      let q = subst (λ o. Reads {A = A} o later.commands (Ok None)) k.2 reads.reads in
      let all = k.3 ∙ ap (behind k.0) q.0 in
      record {
        outcome = ap (replayed_on asks name old) all ∙ k.4.outcome (stops None);
        cut = ap (λ cs. replayed_on asks name old (cut_off cs.list)) all ∙ k.4.outcome (stops (Some fault.ReadFailed));
        reached = ap (λ cs. steps name (begun asks (history_of old)) cs.list) all ∙ ap (steps name (begun asks (history_of old))) (append-nil k.0) ∙ k.4.reached;
        count = ap (λ cs. length cs.list) all ∙ ap length (append-nil k.0) ∙ k.4.count;
        progress = k.4.progress;
        held = k.4.held;
      }

  -- ---- what is told of a refusal

  -- of a command that is refused
  pub told_stopped : {A B : Type 0} (old : Records) (coming : Option Coming) (n : ℕ) (s : State) (c : read.Command A) (ahead later : Seen) (was now : Option Taken)
      → IsAt old coming n s ahead was now → GivesNext ahead later (Ok (Some c)) → (e : Fault) (explanation : Explanation B) → TellsAll name {X = Unit {0}} s (shown_command c) (Err e) explanation
      → (count : ℕ) → ExplainsFault name asks old coming (record { command = n + 1; kind = e; checkpoints = count }) explanation
  told_stopped old None n s c ahead later was now k reads e explanation h count =
      let some = some_follow later.over later.known in
      (behind k.0 (with_command (shown_command c) some.0), k.2 (with_command (shown_command c) some.0) (reads.explains some.0 some.1), record { before = k.0; after = shown_command c ∷ some.0.list; all = refl; number = sym (ap (λ m. m + 1) k.1.count); state = s; reached = k.1.reached; tells = h })
  told_stopped {A} old (Some coming) n s c ahead later was now k reads e explanation h count =
      let q = subst (λ o. Reads {A = A} o later.commands (Ok (Some c))) k.2 reads.reads in
      record { before = k.0; after = shown_command c ∷ q.0.list; all = ap (λ cs. cs.list) (k.3 ∙ ap (behind k.0) q.1); number = sym (ap (λ m. m + 1) k.4.count); state = s; reached = k.4.reached; tells = h }

  -- where memory ran out, nothing needs to be told of the next command
  memory_told : {B : Type 0} (s : State) (left : List Command) (explanation : Explanation B) → TellsNothing explanation → TellsNext name s left OutOfMemory explanation
  memory_told s [] explanation blank = ((blank.change, blank.path), none_lost name s OutOfMemory explanation.loss blank.loss memory_forward, blank.asked)
  memory_told s (c ∷ cs) explanation blank = (
    subst (λ o. MatchOption o (HasNoneRefused name s c OutOfMemory × (explanation.path ≡ None)) (λ number. HasRefused name s c OutOfMemory number explanation.path)) (sym blank.change) (inl refl, blank.path),
    none_lost_by name s c OutOfMemory explanation.loss blank.loss (λ is. memory_forward),
    none_vain (AsksInVain name s c OutOfMemory) OutOfMemory explanation.asked blank.asked refl,
  )

  -- of the reader's refusal
  pub told_refused : (A : Type 0) {B : Type 0} (old : Records) (coming : Option Coming) (n : ℕ) (s : State) (ahead later : Seen) (was now : Option Taken) → IsAt old coming n s ahead was now
      → (f : CommandFault) → GivesNext {A = A} ahead later (Err f) → (explanation : Explanation B) → TellsNothing explanation → (count : ℕ)
      → ExplainsFault name asks old coming (record { command = n + 1; kind = of_command f; checkpoints = count }) explanation
  told_refused A old None n s ahead later was now k f reads explanation blank count =
      elim reads.explains as (λ _. ExplainsFault name asks old None (record { command = n + 1; kind = of_command f; checkpoints = count }) explanation) [
        | inl e ↦
            let some = some_follow ahead.over ahead.known in
            let memory : OutOfMemory ≡ of_command f = sym (ap of_command e) in
            (behind k.0 some.0, k.2 some.0 some.1, record { before = k.0; after = some.0.list; all = refl; number = sym (ap (λ m. m + 1) k.1.count); state = s; reached = k.1.reached; tells = subst (λ g. TellsNext name s some.0.list g explanation) memory (memory_told s some.0.list explanation blank) })
        | inr m ↦ (behind k.0 (stops (Some (of_command f))), k.2 (stops (Some (of_command f))) m, record { before = k.0; after = []; all = refl; number = sym (ap (λ m. m + 1) k.1.count); state = s; reached = k.1.reached; tells = ((blank.change, blank.path), none_lost name s (of_command f) explanation.loss blank.loss (read_forward f), blank.asked) })
      ]
  told_refused A old (Some coming) n s ahead later was now k f reads explanation blank count =
      let q = subst (λ o. Reads {A = A} o later.commands (Err f)) k.2 reads.reads in
      elim q.1 as (λ _. ExplainsFault name asks old (Some coming) (record { command = n + 1; kind = of_command f; checkpoints = count }) explanation) [
        | inl e ↦
            let memory : OutOfMemory ≡ of_command f = sym (ap of_command e) in
            record { before = k.0; after = k.1.list; all = ap (λ cs. cs.list) k.3; number = sym (ap (λ m. m + 1) k.4.count); state = s; reached = k.4.reached; tells = subst (λ g. TellsNext name s k.1.list g explanation) memory (memory_told s k.1.list explanation blank) }
        | inr e ↦ record { before = k.0; after = []; all = ap (λ cs. cs.list) (k.3 ∙ ap (behind k.0) e); number = sym (ap (λ m. m + 1) k.4.count); state = s; reached = k.4.reached; tells = ((blank.change, blank.path), none_lost name s (of_command f) explanation.loss blank.loss (read_forward f), blank.asked) }
      ]

  -- of a refusal behind the last command
  pub told_last : {B : Type 0} (old : Records) (coming : Option Coming) (n : ℕ) (s : State) (was now : Option Taken) → EndsAs asks name old coming n s was now → (kind : Fault) (explanation : Explanation B) → TellsNoChange explanation × TellsLoss name s kind explanation.loss × (explanation.asked ≡ None) → (count : ℕ)
      → ExplainsFault name asks old coming (record { command = n + 1; kind = kind; checkpoints = count }) explanation
  told_last old None n s was now k kind explanation blank count =
      (only k.0, k.2, record { before = k.0; after = []; all = sym (append-nil k.0); number = sym (ap (λ m. m + 1) k.1.count); state = s; reached = k.1.reached; tells = blank })
  told_last old (Some coming) n s was now k kind explanation blank count =
      record { before = (commands_asked_from asks coming).list; after = []; all = sym (append-nil (commands_asked_from asks coming).list); number = sym (ap (λ m. m + 1) k.count); state = s; reached = k.reached; tells = blank }

  -- ---- where the source tells nothing, all of that is of one replay

  -- a command is refused
  pub one_stopped : {A B : Type 0} (old last r new : Records) (tables : Tables A) (n : ℕ) (s : State) (c : read.Command A) (ahead later : Seen) (was mid now : Option Taken)
      → IsAt old None n s ahead was mid → GivesNext ahead later (Ok (Some c)) → (e : Fault) → Applies name r new tables s (shown_command c) mid now (Err e)
      → (count : ℕ) → Leaves last count s.kept → (explanation : Explanation B) → TellsAll name {X = Unit {0}} s (shown_command c) (Err e) explanation
      → IsOfOneReplay asks name old last was now (Err (record { command = n + 1; kind = e; checkpoints = count })) explanation
  one_stopped old last r new tables n s c ahead later was mid now k reads e h count leaves explanation told =
      let some = some_follow later.over later.known in (
        behind k.0 (with_command (shown_command c) some.0),
        k.2 (with_command (shown_command c) some.0) (reads.explains some.0 some.1),
        stopped asks name old last k.0 n s was mid k.1 count leaves (shown_command c) some.0 now r new tables e h,
        record { before = k.0; after = shown_command c ∷ some.0.list; all = refl; number = sym (ap (λ m. m + 1) k.1.count); state = s; reached = k.1.reached; tells = told },
      )

  -- the reader refuses the next one
  pub one_refused : (A : Type 0) {B : Type 0} (old last : Records) (n : ℕ) (s : State) (ahead later : Seen) (was now : Option Taken) → IsAt old None n s ahead was now
      → (f : CommandFault) → GivesNext {A = A} ahead later (Err f) → (count : ℕ) → Leaves last count s.kept → (explanation : Explanation B) → TellsNothing explanation
      → IsOfOneReplay asks name old last was now (Err (record { command = n + 1; kind = of_command f; checkpoints = count })) explanation
  one_refused A old last n s ahead later was now k f reads count leaves explanation blank =
      let goal : Fault → Type 0 = λ kind. IsOfOneReplay asks name old last was now (Err (record { command = n + 1; kind = kind; checkpoints = count })) explanation in
      let left = stops (Some (of_command f)) in
      elim reads.explains as (λ _. goal (of_command f)) [
        | inl e ↦
            let some = some_follow ahead.over ahead.known in
            subst (λ g. goal (of_command g)) (sym e) (
              behind k.0 some.0,
              k.2 some.0 some.1,
              out_of_memory asks name old last k.0 n s was now k.1 count leaves some.0,
              record { before = k.0; after = some.0.list; all = refl; number = sym (ap (λ m. m + 1) k.1.count); state = s; reached = k.1.reached; tells = memory_told s some.0.list explanation blank },
            )
        | inr m ↦ (
          behind k.0 left,
          k.2 left m,
          fault_read asks name old last k.0 n s was now k.1 count leaves left f refl,
          record { before = k.0; after = []; all = refl; number = sym (ap (λ m. m + 1) k.1.count); state = s; reached = k.1.reached; tells = ((blank.change, blank.path), none_lost name s (of_command f) explanation.loss blank.loss (read_forward f), blank.asked) },
        )
      ]

-- where nothing was replayed, tables that are empty stand
pub stand_empty : (name : Kind → Bytes → Bytes) {A : Type 0} (r : Records) (tables : Tables A) → AreEmpty tables → Stands name r tables (starting tables.is_forced (history_of r))
stand_empty name {A} r tables h = record {
  history = refl;
  marks = λ n. subst (AreBoth (IsOf name (history_of r).values) None) (sym (h.marks n)) tt;
  branches = subst (AreRows (IsTip name (history_of r).values) []) (sym h.branches) tt;
  tags = subst (AreRows (IsTagOf name (history_of r).values) []) (sym h.tags) tt;
  ref_names = refl;
  own = tt;
  forced = refl;
  published = none_published [] tables.branches h.branches;
}

-- a replay that begins so has no commit with a gitlink of forty zeros, where its history has none
pub starting_free : (is_forced : Bool) (h : History) → IsHistory h → HoldsSayable h → IsFreeState (starting is_forced h)
starting_free is_forced h is none =
    let s = start_free h is none in
    record { values = s.values; refs = s.refs; marks = s.marks; branches = s.branches; tags = s.tags; kept = s.kept }

-- a step keeps a state without gitlinks of forty zeros
pub step_keeps : (name : Kind → Bytes → Bytes) (s t : State) (c : Command) → step name s c ≡ Ok t → IsFreeState s → BringsSayable c → IsFreeState t
step_keeps name s t c e free brings = subst (λ r. IfOk r IsFreeState) e (step_free name s c free brings)

-- which values a history has hangs on the records alone
pub same_records_keep : (r s : Records) → s.records ≡ r.records → HoldsSayable (history_of r) → HoldsSayable (history_of s)
same_records_keep r s e none = subst (λ rs. HoldsSayable (history_of (record { records = rs; refs = [] }))) (sym e) none
