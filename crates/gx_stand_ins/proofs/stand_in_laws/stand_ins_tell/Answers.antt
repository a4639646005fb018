use Rattle.gx_stand_ins.proofs.LedReplays.{told}
use Rattle.gx_stand_ins.proofs.stand_in_laws.stand_ins_tell.Goals as goal

pub returns : goal.returns
returns c = told
