-- A reset sets a branch to the commit that it names, or to none.
use Rattle.std.proofs.Common.{◌≡◌, Option, Some, None, Result, Ok, Err, refl}
use Rattle.gx_model.specs.declared.objects.Kind.{Kind}
use Rattle.gx_model.specs.declared.faults.Fault.{Fault}
use Rattle.gx_model.specs.Faults.{◌>>=◌}
use Rattle.gx_model.specs.Texts.{Bytes}
use Rattle.gx_model.specs.Histories.Values.{Commit}
use Rattle.gx_model.specs.Streams.Commands.{CommitIsh}
use Rattle.gx_model.specs.Replay.{State, committed_for, on_branch, step_reset}
use Rattle.gx_import.specs.Steps.{optional_commit}

then_some : {X : Type 0} (r : Result Commit Fault) (f : Option Commit → Result X Fault) → (r >>= λ c. f (Some c)) ≡ ((r >>= λ c. Ok (Some c)) >>= f)
then_some (Ok c) f = refl
then_some (Err e) f = refl

pub reset_by : (name : Kind → Bytes → Bytes) (s : State) (branch : Bytes) (named : Option CommitIsh) → step_reset name s branch named ≡ (optional_commit name s branch named >>= λ c. Ok (on_branch branch c s))
reset_by name s branch None = refl
reset_by name s branch (Some x) = then_some (committed_for name branch s x) (λ c. Ok (on_branch branch c s))
