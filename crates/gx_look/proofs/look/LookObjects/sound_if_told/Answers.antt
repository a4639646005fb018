use Rattle.gx_look.proofs.ToldNames.{told_sound}
use Rattle.gx_look.proofs.ToldPlaces.{order_tells}
use Rattle.gx_look.proofs.look.LookObjects.sound_if_told.Goals as goal

pub returns-clause-sound : goal.returns-clause-sound
returns-clause-sound g c = told_sound (g.N.Namer.name_of c.args.self.now.0) (g.met.N.Namer.is_namer c.args.self.now.0) c.args.self.now.1

pub returns-clause-order : goal.returns-clause-order
returns-clause-order g c = order_tells (g.N.Namer.name_of c.args.self.now.0) (g.met.N.Namer.is_namer c.args.self.now.0) c.args.self.now.1
