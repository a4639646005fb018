use Rattle.gx_additions.proofs.Growths.{objects_growth}
use Rattle.gx_additions.proofs.Puts.{so_of_done, so_of_err}
use Rattle.gx_additions.proofs.appending.append_objects.Goals as goal

pub returns-clause-reads : goal.returns-clause-reads
returns-clause-reads g c old gives =
    let name = g.N.Namer.name_of c.args.repo.now.0 in
    let namer = g.met.N.Namer.is_namer c.args.repo.now.0 in
    c.append_addition.ensures.reads name namer old c.args.repo.now.1 (objects_growth name namer (g.D.ReadAt.text c.args.device.now) c.args.ending c.in_ok-added.added.segment.items c.in_ok-added.added.slot.items old c.args.repo.now.1 c.args.held gives c.sound.ensures c.in_ok-added.ensures.objects)

pub returns-clause-read : goal.returns-clause-read
returns-clause-read g c =
    let name = g.N.Namer.name_of c.args.repo.now.0 in
    let namer = g.met.N.Namer.is_namer c.args.repo.now.0 in
    so_of_done c.append_addition.result c.append_addition.ensures.read (λ read old gives. read name namer old c.args.repo.now.1 (objects_growth name namer (g.D.ReadAt.text c.args.device.now) c.args.ending c.in_ok-added.added.segment.items c.in_ok-added.added.slot.items old c.args.repo.now.1 c.args.held gives c.sound.ensures c.in_ok-added.ensures.objects))

pub returns-clause-unwritten : goal.returns-clause-unwritten
returns-clause-unwritten g c =
    let name = g.N.Namer.name_of c.args.repo.now.0 in
    let namer = g.met.N.Namer.is_namer c.args.repo.now.0 in
    so_of_err c.append_addition.result c.append_addition.ensures.unwritten (λ fault reads unwritten old gives. reads unwritten name namer old c.args.repo.now.1 (objects_growth name namer (g.D.ReadAt.text c.args.device.now) c.args.ending c.in_ok-added.added.segment.items c.in_ok-added.added.slot.items old c.args.repo.now.1 c.args.held gives c.sound.ensures c.in_ok-added.ensures.objects))

pub returns-clause-cut : goal.returns-clause-cut
returns-clause-cut g c =
    let name = g.N.Namer.name_of c.args.repo.now.0 in
    let namer = g.met.N.Namer.is_namer c.args.repo.now.0 in
    so_of_err c.append_addition.result c.append_addition.ensures.cut (λ fault cut unwritten old gives. cut unwritten name namer old c.args.repo.now.1 (objects_growth name namer (g.D.ReadAt.text c.args.device.now) c.args.ending c.in_ok-added.added.segment.items c.in_ok-added.added.slot.items old c.args.repo.now.1 c.args.held gives c.sound.ensures c.in_ok-added.ensures.objects))

pub returns-clause-cause : goal.returns-clause-cause
returns-clause-cause g c =
    let name = g.N.Namer.name_of c.args.repo.now.0 in
    let namer = g.met.N.Namer.is_namer c.args.repo.now.0 in
    so_of_err c.append_addition.result c.append_addition.ensures.cause (λ fault cause failed old gives. cause name namer old c.args.repo.now.1 (objects_growth name namer (g.D.ReadAt.text c.args.device.now) c.args.ending c.in_ok-added.added.segment.items c.in_ok-added.added.slot.items old c.args.repo.now.1 c.args.held gives c.sound.ensures c.in_ok-added.ensures.objects))
