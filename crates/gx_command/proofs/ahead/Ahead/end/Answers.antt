use Rattle.std.proofs.Common.{rules}
use Rattle.gx_model.specs.Streams.Grammar.{item_after_in}
use Rattle.gx_command.proofs.ahead.Ahead.end.Goals as goal

pub returns-clause-reads : goal.returns-clause-reads
unfolding item_after_in
returns-clause-reads g c = search rules
