use Rattle.std.proofs.Common.{rules}
use Rattle.gx_command.proofs.CountedItems.{all_counted}
use Rattle.gx_command.proofs.PassedItems.{on_counted_all}
use Rattle.gx_command.proofs.ahead.Ahead.count_left.Goals as goal

pub returns-in-Ok-None-clause-counts : goal.returns-in-Ok-None-clause-counts
returns-in-Ok-None-clause-counts g c = all_counted _ _ _ _ _ (λ i h. search rules) c.loop-is_empty.invariant.counted (rw c.in-Ok-None.field-0-is at c.in-Ok-None.ensures.takes)

pub returns-in-Ok-None-clause-explains : goal.returns-in-Ok-None-clause-explains
returns-in-Ok-None-clause-explains g c =
    on_counted_all _ _ _ _ _ (λ i h. search rules) c.loop-is_empty.invariant.explained (rw c.in-Ok-None.field-0-is at c.in-Ok-None.ensures.explains)
