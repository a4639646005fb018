-- What is told of a commit, and of another command.
use Rattle.std.proofs.Common.{◌≡◌, ℕ, List, Option, Some, None, Result, Ok, Err, inl, inr, sym, subst, ◌∙◌}
use Rattle.std.specs.Prelude.{IfErr, MatchOption}
use Rattle.gx_model.specs.declared.objects.Kind.{Kind}
use Rattle.gx_model.specs.declared.faults.Fault.{Fault}
use Rattle.gx_model.specs.declared.faults.Fault.TheVariants.{OutOfMemory}
use Rattle.gx_model.specs.Faults.{IsFaultOf}
use Rattle.gx_model.specs.Texts.{Bytes}
use Rattle.gx_model.specs.Texts.Paths.{Path}
use Rattle.gx_model.specs.Histories.Values.{Commit}
use Rattle.gx_model.specs.Streams.Commands as command
use Rattle.gx_model.specs.Streams.Commands.{Command, CommitParts}
use Rattle.gx_model.specs.Replay.{State, all_committed, first_parent, starting_files}
use Rattle.gx_import.specs.Answers.{AddsAs}
use Rattle.gx_import.specs.Explaining.{HasNoneRefused, HasRefused, IsRefusedAt, Tells, TellsNoChange}
use Rattle.gx_import.specs.Telling.{TellsChanges}
use Rattle.gx_import.specs.declared.explanation.Explanation.{Explanation}
use Rattle.gx_import.proofs.AddedAnswers.{adds_so, fault_so}

module _ (name : Kind → Bytes → Bytes) where
  -- nothing is told, and no change is refused
  pub none_told : {A : Type 0} (s : State) (c : Command) (e : Fault) (told : Explanation A) → TellsNoChange told → HasNoneRefused name s c e → Tells name {X = Unit {0}} s c (Err e) told
  none_told s c e told blank none = subst (λ o. MatchOption o (HasNoneRefused name s c e × (told.path ≡ None)) (λ number. HasRefused name s c e number told.path)) (sym blank.0) (none, blank.1)

  -- a command that makes no changes
  abbrev pub MakesNoChanges : State → Command → Type 0
  MakesNoChanges s c = (e : Fault) (number : ℕ) (path : Option Path) → HasRefused name s c e number path → ⊥

  pub nothing_told : {X A : Type 0} (s : State) (c : Command) → MakesNoChanges s c → (told : Explanation A) → TellsNoChange told → (r : Result X Fault) → Tells name s c r told
  nothing_told s c free told blank (Ok x) = blank
  nothing_told s c free told blank (Err e) = none_told s c e told blank (inr (inr (free e)))

  -- a commit whose changes were made is refused only for want of memory
  pub late_told : {X A : Type 0} (s : State) (c : Command) (told : Explanation A) → TellsNoChange told → (r : Result X Fault) → IfErr r (λ e. e ≡ OutOfMemory) → Tells name s c r told
  late_told s c told blank (Ok x) h = blank
  late_told s c told blank (Err e) h = none_told s c e told blank (inl h)

  -- or because a value has the name of another one
  pub adding_told : {X Y A : Type 0} (s : State) (c : Command) (told : Explanation A) → TellsNoChange told → (clash : Type 0) (Is : Y → X → Type 0) (e : Fault) (y : Y) → AddsAs clash Is (Err e) (Ok y) → Tells name {X = Unit {0}} s c (Err e) told
  adding_told s c told blank clash Is e y h =
      none_told s c e told blank (elim (adds_so clash Is e (Ok y) h) as (λ _. HasNoneRefused name s c e) [
        | inl memory ↦ inl memory
        | inr (inl held) ↦ inr (inl held.0)
        | inr (inr given) ↦ absurd (cc given)
      ])

  module _ (s : State) (c : CommitParts) where
    -- the first parent is refused
    pub parent_told : {A : Type 0} (told : Explanation A) → TellsNoChange told → (e : Fault) → IsFaultOf e (first_parent name s c) → Tells name {X = Unit {0}} s (command.Commit c) (Err e) told
    parent_told told blank e h =
        none_told s (command.Commit c) e told blank (elim (fault_so e (first_parent name s c) h) as (λ _. HasNoneRefused name s (command.Commit c) e) [
          | inl memory ↦ inl memory
          | inr refused ↦ inr (inr (λ number path r. absurd (cc (sym refused ∙ r.parent))))
        ])

    -- or one that is merged
    pub merged_told : {A : Type 0} (told : Explanation A) → TellsNoChange told → (e : Fault) → IsFaultOf e (all_committed name c.ref s c.merges) → Tells name {X = Unit {0}} s (command.Commit c) (Err e) told
    merged_told told blank e h =
        none_told s (command.Commit c) e told blank (elim (fault_so e (all_committed name c.ref s c.merges) h) as (λ _. HasNoneRefused name s (command.Commit c) e) [
          | inl memory ↦ inl memory
          | inr refused ↦ inr (inr (λ number path r. absurd (cc (sym refused ∙ r.merges))))
        ])

    -- or a change
    pub change_told : {A : Type 0} (first : Option Commit) (others : List Commit) → first_parent name s c ≡ Ok first → all_committed name c.ref s c.merges ≡ Ok others → (told : Explanation A) (e : Fault)
        → TellsChanges {X = Unit {0}} name s (starting_files first) c.changes (Err e) told → Tells name {X = Unit {0}} s (command.Commit c) (Err e) told
    change_told first others parent merges told e h = by told.change h where
      by : (o : Option ℕ) → MatchOption o ((e ≡ OutOfMemory) × (told.path ≡ None)) (λ number. IsRefusedAt name s (starting_files first) c.changes e number told.path)
          → MatchOption o (HasNoneRefused name s (command.Commit c) e × (told.path ≡ None)) (λ number. HasRefused name s (command.Commit c) e number told.path)
      by None memory = (inl memory.0, memory.1)
      by (Some number) refused = record { first = first; others = others; parent = parent; merges = merges; refused = refused }
