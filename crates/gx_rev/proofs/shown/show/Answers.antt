use Rattle.std.proofs.Common.{sym}
use Rattle.gx_model.proofs.Records.HeldValues.{held_is}
use Rattle.gx_rev.proofs.shown.show.Goals as goal

pub returns-in-None-clause-named : goal.returns-in-None-clause-named
returns-in-None-clause-named g c =
    (c.kind_of.ensures, sym (held_is (g.N.Namer.name_of c.args.repo.now.0) (g.met.N.Namer.is_namer c.args.repo.now.0) c.args.repo.now.1 c.sound.ensures c.args.object.now.bytes c.requires).named, c.requires)
