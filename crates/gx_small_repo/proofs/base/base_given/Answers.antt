use Rattle.gx_rev.specs.RevFaults.{fault_of}
use Rattle.gx_small_repo.proofs.BaseNames.{base_named, base_refused}
use Rattle.gx_small_repo.proofs.base.base_given.Goals as goal

pub returns-in-Ok-clause-given : goal.returns-in-Ok-clause-given
returns-in-Ok-clause-given g c =
    base_named (g.O.Objects.name_of c.args.objects.now) c.sound_if_told.ensures.namer c.args.base.now (g.O.Objects.told c.args.objects.now) c.in-Ok.name c.sound_if_told.ensures.sound c.in-Ok.ensures.value c.in-Ok.ensures.held

pub returns-in-Err-Revision-clause-given : goal.returns-in-Err-Revision-clause-given
returns-in-Err-Revision-clause-given g c =
    base_refused (g.O.Objects.name_of c.args.objects.now) c.sound_if_told.ensures.namer c.args.base.now (g.O.Objects.told c.args.objects.now) (fault_of c.in-Err-Revision.fault) (rw c.in-Err-Revision.field-0-is at c.in-Err-Revision.ensures.value)
