use Rattle.std.proofs.Common.{ap, ◌∙◌, ◌-◌}
use Rattle.std.proofs.lemmas.Result.{err_from_is_err_and}
use Rattle.gx_model.specs.Faults.{◌>>=◌}
use Rattle.gx_model.specs.Revisions.Denotation.{nth_ancestor, nth_parent}
use Rattle.gx_rev.specs.Objects.{commit_at}
use Rattle.gx_rev.specs.RevFaults.{fault_of}
use Rattle.gx_model.proofs.Records.HeldValues.{next_ancestor}
use Rattle.gx_rev.proofs.Answers.{fails_first}
use Rattle.gx_rev.proofs.objects.ancestor_of.Goals as goal

pub returns-in_err-ancestor-clause-ancestor : goal.returns-in_err-ancestor-clause-ancestor
returns-in_err-ancestor-clause-ancestor g c =
    let p = err_from_is_err_and c.from_residual.result c.from_residual.ensures.1 in
    let at = commit_at c.args.repo.now.1 c.loop-left.ancestor in
    rw (p.1, p.2) (fails_first (fault_of c.in_err-ancestor.field-0.0) (nth_parent 1 at) (nth_ancestor (c.loop-left.left - 1)) (nth_ancestor c.args.number (commit_at c.args.repo.now.1 c.args.commit.now)) (c.loop-left.invariant.same ∙ next_ancestor c.loop-left.left at c.loop-left-test.true) c.in_err-ancestor.ensures.parent)

pub loop-left-preserved : goal.loop-left-preserved
loop-left-preserved g c =
    let at = commit_at c.args.repo.now.1 c.loop-left.ancestor in
    record {
      held = c.in_ok-ancestor.ensures.held;
      same = c.loop-left.invariant.same ∙ next_ancestor c.loop-left.left at c.loop-left-test.true ∙ ap (λ p. p >>= nth_ancestor (c.loop-left.left - 1)) c.in_ok-ancestor.ensures.parent;
    }
