use Rattle.gx_cli.proofs.StoredImports.{after_none, after_some}
use Rattle.gx_cli.proofs.import.left.Goals as goal

pub returns-then-checkpoints-eq0 : goal.returns-then-checkpoints-eq0
returns-then-checkpoints-eq0 g c = after_none c.args.checkpoints c.args.repo c.if-checkpoints-eq0.true

pub returns-else-checkpoints-eq0 : goal.returns-else-checkpoints-eq0
returns-else-checkpoints-eq0 g c = after_some c.args.checkpoints c.args.repo c.if-checkpoints-eq0.false
