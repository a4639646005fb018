use Rattle.gx_model.proofs.Records.HeldValues.{parent_found, parent_none}
use Rattle.std.proofs.Common.{◌<◌, arith}
use Rattle.gx_rev.proofs.objects.parent_of.Goals as goal

pub returns-in-Some-clause-parent : goal.returns-in-Some-clause-parent
returns-in-Some-clause-parent g c =
    let some : 0 < c.args.number = omega arith in
    (parent_found (g.N.Namer.name_of c.args.repo.now.0) (g.met.N.Namer.is_namer c.args.repo.now.0) c.args.repo.now.1 c.sound.ensures c.args.commit.now.bytes c.in-Some.parent.bytes c.args.number c.requires some (rw c.view_of.ensures at c.in-Some.ensures)).0

pub returns-in-Some-clause-held : goal.returns-in-Some-clause-held
returns-in-Some-clause-held g c =
    let some : 0 < c.args.number = omega arith in
    (parent_found (g.N.Namer.name_of c.args.repo.now.0) (g.met.N.Namer.is_namer c.args.repo.now.0) c.args.repo.now.1 c.sound.ensures c.args.commit.now.bytes c.in-Some.parent.bytes c.args.number c.requires some (rw c.view_of.ensures at c.in-Some.ensures)).1

pub returns-in-None-clause-parent : goal.returns-in-None-clause-parent
returns-in-None-clause-parent g c =
    let some : 0 < c.args.number = omega arith in
    parent_none (g.N.Namer.name_of c.args.repo.now.0) (g.met.N.Namer.is_namer c.args.repo.now.0) c.args.repo.now.1 c.sound.ensures c.args.commit.now.bytes c.args.number some (rw c.view_of.ensures at c.in-None.ensures)
