use Rattle.std.proofs.Common.{arith}
use Rattle.gx_import.proofs.CountedRows.{fewer_pass}
use Rattle.gx_import.proofs.branches.count_published.Goals as goal

pub overflow_add-count : goal.overflow_add-count
overflow_add-count g c = omega (arith, c.loop-tip.invariant, c.iter-tip-items.ensures.small, fewer_pass (λ row. row.1.was_published) c.args.branches.now)

pub returns-clause-small : goal.returns-clause-small
returns-clause-small g c = omega (arith, c.loop-tip.invariant, c.iter-tip-items.ensures.small, fewer_pass (λ row. row.1.was_published) c.args.branches.now)
