use Rattle.gx_objects.proofs.repository.RepoObjects.sound_if_told.Goals as goal

pub returns-clause-namer : goal.returns-clause-namer
returns-clause-namer g c = g.met.N.Namer.is_namer c.args.self.now.0

pub returns-clause-order : goal.returns-clause-order
returns-clause-order g c = λ i j l m. l
