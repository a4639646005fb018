use Rattle.std.proofs.Common.{None, Some}
use Rattle.gx_rev.proofs.ShownPaths.{walk_shown}
use Rattle.gx_rev.proofs.shown.show_path.Goals as goal

pub returns-in-None-clause-shown : goal.returns-in-None-clause-shown
returns-in-None-clause-shown g c =
    let w = walk_shown (g.N.Namer.name_of c.args.repo.now.0) (g.met.N.Namer.is_namer c.args.repo.now.0) c.args.repo.now.1 c.sound.ensures c.in_ok-tree.tree.bytes c.args.path.now None c.in_ok-tree.ensures.held c.in-None.ensures.place in
    rw c.in_ok-tree.ensures.files w.0

pub returns-in-Some-clause-shown : goal.returns-in-Some-clause-shown
returns-in-Some-clause-shown g c =
    let w = walk_shown (g.N.Namer.name_of c.args.repo.now.0) (g.met.N.Namer.is_namer c.args.repo.now.0) c.args.repo.now.1 c.sound.ensures c.in_ok-tree.tree.bytes c.args.path.now (Some (c.in-Some.mode, c.in-Some.name.bytes)) c.in_ok-tree.ensures.held c.in-Some.ensures.place in
    rw (c.in_ok-tree.ensures.files, c.shown_as.ensures) w.shown_is

pub returns-in-Some-clause-named : goal.returns-in-Some-clause-named
returns-in-Some-clause-named g c =
    let w = walk_shown (g.N.Namer.name_of c.args.repo.now.0) (g.met.N.Namer.is_namer c.args.repo.now.0) c.args.repo.now.1 c.sound.ensures c.in_ok-tree.tree.bytes c.args.path.now (Some (c.in-Some.mode, c.in-Some.name.bytes)) c.in_ok-tree.ensures.held c.in-Some.ensures.place in
    rw c.shown_as.ensures w.named
