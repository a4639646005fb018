use Rattle.std.proofs.Common.{refl}
use Rattle.gx_text.proofs.memory.Bytes.new.Goals as goal

pub returns-clause-coming : goal.returns-clause-coming
returns-clause-coming c = refl
