use Rattle.gx_additions.proofs.Growths.{additions_growth}
use Rattle.gx_additions.proofs.Puts.{so_of_done, so_of_err}
use Rattle.gx_additions.proofs.appending.append_additions.Goals as goal

pub returns-clause-reads : goal.returns-clause-reads
returns-clause-reads g c name namer old new gives = c.append_addition.ensures.reads name namer old new (additions_growth name namer (g.D.ReadAt.text c.args.device.now) c.args.ending c.in_ok-added.added.segment.items c.in_ok-added.added.slot.items old new c.args.store.now.1 c.args.count c.args.refs.now gives c.in_ok-added.ensures.objects)

pub returns-clause-read : goal.returns-clause-read
returns-clause-read g c =
    so_of_done c.append_addition.result c.append_addition.ensures.read (λ read name namer old new gives. read name namer old new (additions_growth name namer (g.D.ReadAt.text c.args.device.now) c.args.ending c.in_ok-added.added.segment.items c.in_ok-added.added.slot.items old new c.args.store.now.1 c.args.count c.args.refs.now gives c.in_ok-added.ensures.objects))

pub returns-clause-unwritten : goal.returns-clause-unwritten
returns-clause-unwritten g c =
    so_of_err c.append_addition.result c.append_addition.ensures.unwritten (λ fault reads unwritten name namer old new gives. reads unwritten name namer old new (additions_growth name namer (g.D.ReadAt.text c.args.device.now) c.args.ending c.in_ok-added.added.segment.items c.in_ok-added.added.slot.items old new c.args.store.now.1 c.args.count c.args.refs.now gives c.in_ok-added.ensures.objects))

pub returns-clause-cut : goal.returns-clause-cut
returns-clause-cut g c =
    so_of_err c.append_addition.result c.append_addition.ensures.cut (λ fault cut unwritten name namer old new gives. cut unwritten name namer old new (additions_growth name namer (g.D.ReadAt.text c.args.device.now) c.args.ending c.in_ok-added.added.segment.items c.in_ok-added.added.slot.items old new c.args.store.now.1 c.args.count c.args.refs.now gives c.in_ok-added.ensures.objects))

pub returns-clause-cause : goal.returns-clause-cause
returns-clause-cause g c =
    so_of_err c.append_addition.result c.append_addition.ensures.cause (λ fault cause failed name namer old new gives. cause name namer old new (additions_growth name namer (g.D.ReadAt.text c.args.device.now) c.args.ending c.in_ok-added.added.segment.items c.in_ok-added.added.slot.items old new c.args.store.now.1 c.args.count c.args.refs.now gives c.in_ok-added.ensures.objects))
