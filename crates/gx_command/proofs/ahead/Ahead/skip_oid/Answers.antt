use Rattle.std.proofs.Common.{rules}
use Rattle.gx_model.specs.Streams.Lines.{any_text}
use Rattle.gx_command.proofs.TakenLines.{reads_plain_line}
use Rattle.gx_command.proofs.ExplainedItems.{explained_plain_line}
use Rattle.gx_command.proofs.ahead.Ahead.skip_oid.Goals as goal

pub returns-clause-reads : goal.returns-clause-reads
returns-clause-reads g c = reads_plain_line any_text _ _ _ _ _ (λ rest q h. search rules) c.optional.ensures.takes

pub returns-clause-explains : goal.returns-clause-explains
returns-clause-explains g c = explained_plain_line any_text _ _ _ _ _ (λ rest q h. search rules) c.optional.ensures.explains
