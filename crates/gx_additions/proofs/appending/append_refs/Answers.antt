use Rattle.gx_model.specs.Laws.RepositoryLaws.{with_refs}
use Rattle.gx_additions.proofs.Growths.{refs_growth}
use Rattle.gx_additions.proofs.Puts.{so_of_done, so_of_err}
use Rattle.gx_additions.proofs.appending.append_refs.Goals as goal

pub returns-clause-reads : goal.returns-clause-reads
returns-clause-reads g c name namer repository named gives =
    c.append_addition.ensures.reads name namer repository (with_refs repository named)
    (refs_growth name (g.D.ReadAt.text c.args.device.now) c.args.ending c.args.count c.args.refs.now c.in_ok-added.added.segment.items c.in_ok-added.added.slot.items repository named gives (c.in_ok-added.ensures.segment named gives.lines) (c.in_ok-added.ensures.slot named gives.lines) c.in_ok-added.ensures.short)

pub returns-clause-read : goal.returns-clause-read
returns-clause-read g c = so_of_done c.append_addition.result c.append_addition.ensures.read (λ read name namer repository named gives.
    read name namer repository (with_refs repository named)
    (refs_growth name (g.D.ReadAt.text c.args.device.now) c.args.ending c.args.count c.args.refs.now c.in_ok-added.added.segment.items c.in_ok-added.added.slot.items repository named gives (c.in_ok-added.ensures.segment named gives.lines) (c.in_ok-added.ensures.slot named gives.lines) c.in_ok-added.ensures.short))

pub returns-clause-unwritten : goal.returns-clause-unwritten
returns-clause-unwritten g c = so_of_err c.append_addition.result c.append_addition.ensures.unwritten (λ fault reads unwritten name namer repository named gives.
    reads unwritten name namer repository (with_refs repository named)
    (refs_growth name (g.D.ReadAt.text c.args.device.now) c.args.ending c.args.count c.args.refs.now c.in_ok-added.added.segment.items c.in_ok-added.added.slot.items repository named gives (c.in_ok-added.ensures.segment named gives.lines) (c.in_ok-added.ensures.slot named gives.lines) c.in_ok-added.ensures.short))

pub returns-clause-cut : goal.returns-clause-cut
returns-clause-cut g c = so_of_err c.append_addition.result c.append_addition.ensures.cut (λ fault cut unwritten name namer repository named gives.
    cut unwritten name namer repository (with_refs repository named)
    (refs_growth name (g.D.ReadAt.text c.args.device.now) c.args.ending c.args.count c.args.refs.now c.in_ok-added.added.segment.items c.in_ok-added.added.slot.items repository named gives (c.in_ok-added.ensures.segment named gives.lines) (c.in_ok-added.ensures.slot named gives.lines) c.in_ok-added.ensures.short))

pub returns-clause-cause : goal.returns-clause-cause
returns-clause-cause g c = so_of_err c.append_addition.result c.append_addition.ensures.cause (λ fault cause failed name namer repository named gives.
    cause name namer repository (with_refs repository named)
    (refs_growth name (g.D.ReadAt.text c.args.device.now) c.args.ending c.args.count c.args.refs.now c.in_ok-added.added.segment.items c.in_ok-added.added.slot.items repository named gives (c.in_ok-added.ensures.segment named gives.lines) (c.in_ok-added.ensures.slot named gives.lines) c.in_ok-added.ensures.short))
