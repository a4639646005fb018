use Rattle.std.proofs.Common.{refl}
use Rattle.gx_text.proofs.ident.Ident.bytes.Goals as goal

pub returns-clause-bytes : goal.returns-clause-bytes
returns-clause-bytes c = refl

pub returns-clause-proper : goal.returns-clause-proper
returns-clause-proper c = c.args.self.now.proper
