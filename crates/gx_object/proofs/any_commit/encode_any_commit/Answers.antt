use Rattle.std.proofs.Common.{arith}
use Rattle.std.proofs.lemmas.Grind.{common_steps}
use Rattle.gx_object.proofs.any_commit.encode_any_commit.Goals as goal

pub returns : goal.returns
returns g c = grind (arith, common_steps)
