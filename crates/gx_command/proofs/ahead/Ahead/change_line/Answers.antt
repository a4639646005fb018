use Rattle.std.proofs.Common.{rules}
use Rattle.gx_command.proofs.TakenChanges.{takes_change}
use Rattle.gx_command.proofs.ExplainedItems.{explained_change}
use Rattle.gx_command.proofs.ahead.Ahead.change_line.Goals as goal

pub returns-clause-takes : goal.returns-clause-takes
returns-clause-takes g c = takes_change _ _ _ _ (λ i q h. search rules) c.take.ensures.takes

pub returns-clause-explains : goal.returns-clause-explains
returns-clause-explains g c = explained_change _ _ _ _ (λ i q h. search rules) c.take.ensures.explains
