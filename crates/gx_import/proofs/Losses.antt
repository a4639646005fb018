-- The ref that would lose a commit: where one is told, and where none is.
use Rattle.std.proofs.Common.{◌≡◌, Bool, true, false, Option, Some, None, Ok, Err, refl, inr, sym, ap, subst, ◌∙◌}
use Rattle.std.specs.Prelude.{◌≢◌, ◌||◌, IfErr, MatchOption, Result}
use Rattle.std.proofs.lemmas.Bool.{true≢false}
use Rattle.gx_model.specs.declared.objects.Kind.{Kind}
use Rattle.gx_model.specs.declared.objects.Kind.TheVariants as kinds
use Rattle.gx_model.specs.declared.faults.Fault.{Fault}
use Rattle.gx_model.specs.declared.faults.Fault.TheVariants.{NotFastForward, OutOfMemory}
use Rattle.gx_model.specs.Texts.{Bytes}
use Rattle.gx_model.specs.Histories.Values.{Commit, commit_value}
use Rattle.gx_model.specs.Objects.{IsNamer}
use Rattle.gx_model.specs.Records.{name_of}
use Rattle.gx_model.specs.Histories.{Records, Target}
use Rattle.gx_model.specs.Records.HistoryOf.{commit_of_value, value_of_name}
use Rattle.gx_model.specs.Records.Lookups.{commit_named}
use Rattle.gx_model.specs.Records.Sound.{IsSound, IsTarget}
use Rattle.gx_model.specs.Laws.RepositoryLaws.{values_of}
use Rattle.gx_model.specs.Revisions.Denotation.{ref_at}
use Rattle.gx_model.specs.Streams.Commands.{Checkpoint, Command}
use Rattle.gx_model.specs.Replay.{State, is_forward}
use Rattle.gx_model.proofs.Records.HeldValues.{commit_held, commit_stands, held_is, holds_held}
use Rattle.gx_model.proofs.Records.PeeledRefs.{old_holds, old_is}
use Rattle.gx_object.specs.declared.name.Name.{Name}
use Rattle.gx_command.specs.CommandFaults.{fault_of as of_command}
use Rattle.gx_command.specs.declared.fault.CommandFault.{CommandFault}
use Rattle.gx_command.specs.declared.fault.CommandFault.TheVariants as reader
use Rattle.gx_import.specs.Asking.{AsksInVain, TellsVainIn, is_of_reference}
use Rattle.gx_import.specs.Explaining.{Tells, TellsAll, TellsNoChange}
use Rattle.gx_import.specs.Losing.{IsLoss, LosesCommit, TellsLoss, TellsLossAt, TellsLossBy}
use Rattle.gx_import.specs.Objects.{IsCommitOf}
use Rattle.gx_import.specs.Rows.{AreBoth}
use Rattle.gx_import.specs.declared.explanation.Explanation.{Explanation}
use Rattle.gx_import.specs.declared.explanation.RefLoss.{RefLoss}
use Rattle.gx_import.proofs.AskedReferences.{none_vain}
use Rattle.gx_import.proofs.ForwardBranches.{IsBranchOf, target_of}
use Rattle.gx_import.proofs.ToldCommits.{none_told}

-- no fault of a reader is that of a lost commit
pub read_forward : (f : CommandFault) → of_command f ≢ NotFastForward
read_forward reader.OutOfMemory e = absurd (cc e)
read_forward why e = absurd (cc e)

-- nor is want of memory
pub memory_forward : OutOfMemory ≢ NotFastForward
memory_forward e = absurd (cc e)

module _ (name : Kind → Bytes → Bytes) {A : Type 0} (s : State) where
  -- no ref is told
  pub none_lost : (fault : Fault) (told : Option (RefLoss A)) → told ≡ None → fault ≢ NotFastForward → TellsLoss name s fault told
  none_lost fault told blank h = subst (λ o. TellsLoss name s fault o) (sym blank) h

  pub none_lost_by : (c : Command) (fault : Fault) (told : Option (RefLoss A)) → told ≡ None → (c ≡ Checkpoint → fault ≢ NotFastForward) → TellsLossBy name s c fault told
  none_lost_by c fault told blank h = subst (λ o. TellsLossBy name s c fault o) (sym blank) h

  -- one is told where not all branches are forward
  pub lost_so : (told : Option (RefLoss A)) → MatchOption told (false ≡ true) (λ loss. (false ≡ false) × LosesCommit name s loss) → TellsLoss name s NotFastForward told
  lost_so None e = absurd (true≢false (sym e))
  lost_so (Some loss) h = (refl, h.1)

  -- and none where they are
  pub forward_so_none : (told : Option (RefLoss A)) → MatchOption told (true ≡ true) (λ loss. (true ≡ false) × LosesCommit name s loss) → told ≡ None
  forward_so_none None e = refl
  forward_so_none (Some loss) h = absurd (true≢false h.0)

  -- a branch of this state that would lose a commit is told
  pub branch_lost : (told : Option (RefLoss A)) (branch : Bytes × Option Commit) → IsBranchOf s branch → s.is_forced ≡ false → MatchOption told ⊥ (IsLoss name branch.0 (ref_at s.history branch.0) branch.1)
      → MatchOption told (false ≡ true) (λ loss. (false ≡ false) × LosesCommit name s loss)
  branch_lost None branch stands unforced h = absurd h
  branch_lost (Some loss) branch stands unforced h = (refl, record { branch = branch; stands = stands; unforced = unforced; loss = h })

  -- the same of a ref that has the branch's name, and of what it holds
  pub branch_told : (told : Option (RefLoss A)) (ref : Bytes) (branch : Bytes × Option Commit) (held : Option Target) → ref ≡ branch.0 → held ≡ ref_at s.history branch.0 → IsBranchOf s branch → s.is_forced ≡ false
      → MatchOption told ⊥ (IsLoss name ref held branch.1) → MatchOption told (false ≡ true) (λ loss. (false ≡ false) × LosesCommit name s loss)
  branch_told told ref branch held named at stands unforced h =
      branch_lost told branch stands unforced
      (subst (λ o. MatchOption told ⊥ (IsLoss name branch.0 o branch.1)) at (subst (λ n. MatchOption told ⊥ (IsLoss name n held branch.1)) named h))

  -- a checkpoint publishes this state
  at_checkpoint : (fault : Fault) (told : Option (RefLoss A)) → TellsLoss name s fault told → TellsLossBy name s Checkpoint fault told
  at_checkpoint fault None h = λ _. h
  at_checkpoint fault (Some loss) h = (refl, h.0, h.1)

  -- all that is told of a checkpoint
  pub checkpoint_told : {X : Type 0} (told : Explanation A) → TellsNoChange told → told.asked ≡ None → (r : Result X Fault) → TellsLossAt name s r told.loss → IfErr r (λ e. is_of_reference e ≡ false) → TellsAll name s Checkpoint r told
  checkpoint_told told blank unasked (Ok x) h free = record { change = blank.0; path = blank.1; asked = unasked; loss = h }
  checkpoint_told told blank unasked (Err e) h free =
      (none_told name s Checkpoint e told blank (inr (inr (λ number path none. none))), at_checkpoint e told.loss h, none_vain (AsksInVain name s Checkpoint e) e told.asked unasked free)

  -- and of another command
  pub all_told : {X : Type 0} (c : Command) → (c ≡ Checkpoint → ⊥) → (told : Explanation A) (r : Result X Fault) → Tells name s c r told → told.loss ≡ None → TellsVainIn (AsksInVain name s c) r told.asked → TellsAll name s c r told
  all_told c other told (Ok x) h blank asked = record { change = h.0; path = h.1; asked = asked; loss = blank }
  all_told c other told (Err e) h blank asked = (h, none_lost_by c e told.loss blank (λ is. absurd (other is)), asked)

module _ (name : Kind → Bytes → Bytes) (namer : IsNamer name) (r : Records) (sound : IsSound name r) where
  -- the name of the commit that a ref's object gives
  old_named : (ref object old : Bytes) → IsTarget r.records ref object → Some old ≡ commit_named r.records object → old ≡ name_of name (commit_value (commit_of_value (value_of_name r.records old)))
  old_named ref object old t e =
      let held = holds_held name namer r sound kinds.Commit old (old_holds name namer r sound ref object old t e) in
      let l = held_is name namer r sound old (commit_held name namer r sound old held) in
      sym l.named ∙ ap (name_of name) (commit_stands name namer r sound old held).0

  -- a ref that holds an object, and would lose a commit
  pub loss_told : {A : Type 0} (ref : Bytes) (object : Name) (made : Option Commit) (new old : Name) (at : Bytes) → IsTarget r.records at object.bytes → Some old.bytes ≡ commit_named r.records object.bytes
      → AreBoth (IsCommitOf name (values_of r)) made (Some new) → is_forward (Some (target_of r object)) made ≡ false → (told : RefLoss A) → told.name.items ≡ ref → told.old ≡ old → told.new ≡ new
      → IsLoss name ref (Some (target_of r object)) made told
  loss_told ref object None new old at t e h lost told named was now = absurd h
  loss_told ref object (Some c) new old at t e h lost told named was now = record {
    old = target_of r object;
    new = c;
    held_is = refl;
    made_is = refl;
    loses = lost;
    ref_name = named;
    old_name = ap (λ n. n.bytes) was ∙ old_named at object.bytes old.bytes t e ∙ ap (λ d. name_of name (commit_value d)) (sym (old_is name namer r sound at object.bytes old.bytes t e));
    new_name = ap (λ n. n.bytes) now ∙ h.named;
  }

-- two tests that both fail
pub first_fails : (a b : Bool) → (a || b) ≡ false → a ≡ false
first_fails true b e = absurd (true≢false e)
first_fails false b e = refl

pub second_fails : (a b : Bool) → (a || b) ≡ false → b ≡ false
second_fails true b e = absurd (true≢false e)
second_fails false b e = e

-- a branch without a commit loses nothing
pub without_made : {X : Type 0} (Is : Commit → X → Type 0) (held : Option Target) (made : Option Commit) → AreBoth Is made None → is_forward held made ≡ true
without_made Is None None h = refl
without_made Is (Some target) None h = refl
without_made Is held (Some c) h = absurd h
