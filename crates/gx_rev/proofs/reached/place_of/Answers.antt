use Rattle.std.proofs.Common.{◌≡◌, ◌∙◌, ap, Some, None}
use Rattle.std.specs.List.{slice_get}
use Rattle.gx_model.specs.Laws.RepositoryLaws.{values_of}
use Rattle.gx_model.proofs.Records.HeldPlaces.{held_place}
use Rattle.gx_rev.proofs.reached.place_of.Goals as goal

pub unreachable-requires : goal.unreachable-requires
unreachable-requires g c =
    let p = held_place (g.N.Namer.name_of c.args.repo.now.0) (g.met.N.Namer.is_namer c.args.repo.now.0) c.args.repo.now.1 c.store.ensures.sound c.args.name.now.bytes c.requires in
    let e = rw c.store.ensures.held at c.in_default.ensures in
    let f : None ≡ Some p.0 = e ∙ p.1 in cc f

pub returns : goal.returns
returns g c =
    let r = c.args.repo.now.1 in
    let p = held_place (g.N.Namer.name_of c.args.repo.now.0) (g.met.N.Namer.is_namer c.args.repo.now.0) r c.store.ensures.sound c.args.name.now.bytes c.requires in
    let e = rw c.store.ensures.held at c.in-Some.ensures in
    let f : Some c.in-Some.place ≡ Some p.0 = e ∙ p.1 in
    let same : c.in-Some.place ≡ p.0 = cc f in
    ap (slice_get (values_of r)) same ∙ p.2
