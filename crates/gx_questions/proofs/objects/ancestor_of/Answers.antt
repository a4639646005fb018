use Rattle.std.proofs.lemmas.Result.{err_from_is_err_and}
use Rattle.gx_questions.proofs.Peeled.{none_up, one_up}
use Rattle.gx_questions.proofs.objects.ancestor_of.Goals as goal

pub returns-in_err-ancestor-clause-ancestor : goal.returns-in_err-ancestor-clause-ancestor
returns-in_err-ancestor-clause-ancestor g c =
    let p = err_from_is_err_and c.from_residual.result c.from_residual.ensures.1 in
    rw (p.1, p.2) (none_up (g.O.Objects.told c.args.objects.now) c.args.commit.now c.loop-left.ancestor c.args.number c.loop-left.left _ c.loop-left-test.true c.loop-left.invariant.same c.in_err-ancestor.ensures.parent)

pub loop-left-preserved : goal.loop-left-preserved
loop-left-preserved g c =
    record {
      held = c.in_ok-ancestor.ensures.held;
      same = one_up (g.O.Objects.told c.args.objects.now) c.args.commit.now c.loop-left.ancestor c.in_ok-ancestor.ancestor c.args.number c.loop-left.left c.loop-left-test.true c.loop-left.invariant.same c.in_ok-ancestor.ensures.parent;
    }
