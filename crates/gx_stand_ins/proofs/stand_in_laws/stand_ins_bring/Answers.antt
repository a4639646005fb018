use Rattle.gx_stand_ins.proofs.BroughtRecords.{bring}
use Rattle.gx_stand_ins.proofs.stand_in_laws.stand_ins_bring.Goals as goal

pub returns : goal.returns
returns c = bring
