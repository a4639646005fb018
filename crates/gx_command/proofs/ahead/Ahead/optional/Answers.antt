use Rattle.std.proofs.Common.{rules}
use Rattle.gx_command.proofs.TakenLines.{takes_line}
use Rattle.gx_command.proofs.ExplainedItems.{explained_taken}
use Rattle.gx_command.proofs.HeldBlocks.{explained_line_kept, line_kept}
use Rattle.gx_command.proofs.ahead.Ahead.optional.Goals as goal

pub returns-clause-takes : goal.returns-clause-takes
returns-clause-takes g c = line_kept _ _ _ _ _ _ c.in_ok-hold_block.ensures.keeps.0 (takes_line _ _ _ _ _ _ (λ i q h. search rules) c.take.ensures.takes)

pub returns-clause-explains : goal.returns-clause-explains
returns-clause-explains g c = explained_line_kept _ _ _ _ _ _ c.in_ok-hold_block.ensures.keeps.2 (explained_taken _ _ _ _ _ _ (λ i q h. search rules) c.take.ensures.explains)
