use Rattle.gx_model.proofs.Records.Standing.{name_there, some_there}
use Rattle.gx_store.specs.Stores.{shown_record}
use Rattle.gx_rev.proofs.reached.name_at.Goals as goal

pub unreachable-requires : goal.unreachable-requires
unreachable-requires g c =
    some_there (g.N.Namer.name_of c.args.repo.now.0) (g.met.N.Namer.is_namer c.args.repo.now.0) c.args.repo.now.1 c.store.ensures.sound c.args.place c.requires (rw c.store.ensures.held at c.in_default.ensures)

pub returns-clause-value : goal.returns-clause-value
returns-clause-value g c =
    (name_there (g.N.Namer.name_of c.args.repo.now.0) (g.met.N.Namer.is_namer c.args.repo.now.0) c.args.repo.now.1 c.store.ensures.sound c.args.place (shown_record (c.in-Some.name, c.in-Some.field-0-1, c.in-Some.field-0-2)) (rw c.store.ensures.held at c.in-Some.ensures)).0

pub returns-clause-held : goal.returns-clause-held
returns-clause-held g c =
    (name_there (g.N.Namer.name_of c.args.repo.now.0) (g.met.N.Namer.is_namer c.args.repo.now.0) c.args.repo.now.1 c.store.ensures.sound c.args.place (shown_record (c.in-Some.name, c.in-Some.field-0-1, c.in-Some.field-0-2)) (rw c.store.ensures.held at c.in-Some.ensures)).1
