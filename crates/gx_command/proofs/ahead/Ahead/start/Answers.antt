use Rattle.std.proofs.Common.{rules}
use Rattle.gx_command.proofs.TakenHeads.{takes_start}
use Rattle.gx_command.proofs.ExplainedItems.{explained_start}
use Rattle.gx_command.proofs.ahead.Ahead.start.Goals as goal

pub returns-clause-takes : goal.returns-clause-takes
returns-clause-takes g c = takes_start _ _ _ _ _ (λ i q h. search rules) c.take.ensures.takes

pub returns-clause-explains : goal.returns-clause-explains
returns-clause-explains g c = explained_start _ _ _ _ _ (λ i q h. search rules) c.take.ensures.explains
