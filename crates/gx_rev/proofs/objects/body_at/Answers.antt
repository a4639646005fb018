use Rattle.gx_model.proofs.Records.Standing.{some_there}
use Rattle.gx_store.specs.Stores.{shown_record}
use Rattle.gx_rev.proofs.Bodies.{body_there}
use Rattle.gx_rev.proofs.objects.body_at.Goals as goal

pub unreachable-requires : goal.unreachable-requires
unreachable-requires g c =
    some_there (g.N.Namer.name_of c.args.repo.now.0) (g.met.N.Namer.is_namer c.args.repo.now.0) c.args.repo.now.1 c.store.ensures.sound c.args.place c.requires (rw c.store.ensures.held at c.in_default.ensures)

pub returns : goal.returns
returns g c =
    body_there (g.N.Namer.name_of c.args.repo.now.0) (g.met.N.Namer.is_namer c.args.repo.now.0) c.args.repo.now.1 c.store.ensures.sound c.args.place (shown_record (c.in-Some.field-0-0, c.in-Some.field-0-1, c.in-Some.bytes)) (rw c.store.ensures.held at c.in-Some.ensures)
