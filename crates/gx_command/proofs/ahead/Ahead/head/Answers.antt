use Rattle.std.proofs.lemmas.Result.{err_from_is_err_and}
use Rattle.gx_command.proofs.TakenHeads.{head_none, head_refused, head_there}
use Rattle.gx_command.proofs.ExplainedItems.{no_head, refused_head, there_head}
use Rattle.gx_command.proofs.ahead.Ahead.head.Goals as goal

pub returns-in_err-start-clause-takes : goal.returns-in_err-start-clause-takes
returns-in_err-start-clause-takes g c =
    let p = err_from_is_err_and c.from_residual.result c.from_residual.ensures.1 in
    rw (p.1, p.2) (head_refused g.row.A.Denot c.args.is_early _ _ _ _ _ c.loop-head.invariant.same c.in_err-start.ensures.takes)

pub returns-in-None-clause-takes : goal.returns-in-None-clause-takes
returns-in-None-clause-takes g c =
    head_none g.row.A.Denot c.args.is_early _ _ _ c.loop-head.invariant.same (rw c.in-None.is at c.in_ok-start.ensures.takes)

pub returns-in-Some-Head-clause-takes : goal.returns-in-Some-Head-clause-takes
returns-in-Some-Head-clause-takes g c =
    head_there g.row.A.Denot c.args.is_early _ _ _ _ c.loop-head.invariant.same (rw c.in-Some-Head.field-0-is at (rw c.in-Some-Head.is at c.in_ok-start.ensures.takes))

pub returns-in_err-start-clause-explains : goal.returns-in_err-start-clause-explains
returns-in_err-start-clause-explains g c =
    let p = err_from_is_err_and c.from_residual.result c.from_residual.ensures.1 in
    rw (p.1, p.2) (refused_head g.row.A.Denot c.args.is_early _ _ (λ s. Unit {0}) c.loop-head.invariant.alike (λ s. Unit {0}) _ c.in_err-start.ensures.explains)

pub returns-in-None-clause-explains : goal.returns-in-None-clause-explains
returns-in-None-clause-explains g c =
    no_head g.row.A.Denot c.args.is_early _ _ _ c.loop-head.invariant.alike (rw c.in-None.is at c.in_ok-start.ensures.explains)

pub returns-in-Some-Head-clause-explains : goal.returns-in-Some-Head-clause-explains
returns-in-Some-Head-clause-explains g c =
    there_head g.row.A.Denot c.args.is_early _ _ _ c.loop-head.invariant.alike _ (rw c.in-Some-Head.field-0-is at (rw c.in-Some-Head.is at c.in_ok-start.ensures.explains))
