use Rattle.std.proofs.Common.{Some, Ok, ap}
use Rattle.std.proofs.lemmas.Result.{err_from_is_err_and}
use Rattle.gx_model.specs.Faults.{◌>>=◌}
use Rattle.gx_import.proofs.FaultSteps.{fault_then}
use Rattle.gx_import.proofs.commit.first_parent.Goals as goal

pub returns-in_ok-committed_for-in-Some : goal.returns-in_ok-committed_for-in-Some
returns-in_ok-committed_for-in-Some g c = λ s h.
    let k = rw c.as_slice-branch.ensures.value at (c.in_ok-committed_for-in-Some.ensures s h) in
    rw c.in-Some.is (Some k.0, ap (λ r. r >>= λ y. Ok (Some y)) k.1, k.2)

pub returns-in_err-committed_for-in-Some : goal.returns-in_err-committed_for-in-Some
returns-in_err-committed_for-in-Some g c = λ s h.
    let p = err_from_is_err_and c.from_residual.result c.from_residual.ensures.1 in
    let k = rw c.as_slice-branch.ensures.value at (c.in_err-committed_for-in-Some.ensures s h) in
    rw (c.in-Some.is, p.1, p.2) (fault_then c.in_err-committed_for-in-Some.field-0.0 _ (λ y. Ok (Some y)) k)
