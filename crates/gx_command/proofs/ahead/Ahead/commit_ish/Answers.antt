use Rattle.std.proofs.Common.{rules}
use Rattle.gx_command.proofs.TakenLines.{reads_line}
use Rattle.gx_command.proofs.ExplainedItems.{explained_line}
use Rattle.gx_command.proofs.ahead.Ahead.commit_ish.Goals as goal

pub returns-clause-reads : goal.returns-clause-reads
returns-clause-reads g c = reads_line _ _ _ _ _ _ _ (λ rest q h. search rules) c.optional.ensures.takes

pub returns-clause-explains : goal.returns-clause-explains
returns-clause-explains g c = explained_line _ _ _ _ _ _ _ (λ rest q h. search rules) c.optional.ensures.explains
