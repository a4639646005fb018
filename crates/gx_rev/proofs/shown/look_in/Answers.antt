use Rattle.std.proofs.Common.{None, Some}
use Rattle.gx_rev.proofs.ShownPaths.{walk_shown}
use Rattle.gx_rev.proofs.shown.look_in.Goals as goal

pub read_file-requires : goal.read_file-requires
read_file-requires g c =
    (walk_shown (g.N.Namer.name_of c.args.repo.now.0) (g.met.N.Namer.is_namer c.args.repo.now.0) c.args.repo.now.1 c.sound.ensures c.args.tree.now.bytes c.args.path.now (Some (c.in-Some.mode, c.in-Some.name.bytes)) c.requires c.in-Some.ensures.place).named

pub returns-in-None-clause-file : goal.returns-in-None-clause-file
returns-in-None-clause-file g c =
    (walk_shown (g.N.Namer.name_of c.args.repo.now.0) (g.met.N.Namer.is_namer c.args.repo.now.0) c.args.repo.now.1 c.sound.ensures c.args.tree.now.bytes c.args.path.now None c.requires c.in-None.ensures.place).1

pub returns-in-Some-clause-file : goal.returns-in-Some-clause-file
returns-in-Some-clause-file g c =
    let w = walk_shown (g.N.Namer.name_of c.args.repo.now.0) (g.met.N.Namer.is_namer c.args.repo.now.0) c.args.repo.now.1 c.sound.ensures c.args.tree.now.bytes c.args.path.now (Some (c.in-Some.mode, c.in-Some.name.bytes)) c.requires c.in-Some.ensures.place in
    rw w.file_is c.read_file.ensures.file

pub returns-in-Some-clause-first : goal.returns-in-Some-clause-first
returns-in-Some-clause-first g c =
    let w = walk_shown (g.N.Namer.name_of c.args.repo.now.0) (g.met.N.Namer.is_namer c.args.repo.now.0) c.args.repo.now.1 c.sound.ensures c.args.tree.now.bytes c.args.path.now (Some (c.in-Some.mode, c.in-Some.name.bytes)) c.requires c.in-Some.ensures.place in
    rw w.file_is c.read_file.ensures.first
