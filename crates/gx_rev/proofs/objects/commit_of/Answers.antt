use Rattle.gx_model.proofs.Records.HeldValues.{peeled_none, peeled_to}
use Rattle.gx_rev.proofs.objects.commit_of.Goals as goal

pub returns-in-Some-clause-commit : goal.returns-in-Some-clause-commit
returns-in-Some-clause-commit g c =
    (peeled_to (g.N.Namer.name_of c.args.repo.now.0) (g.met.N.Namer.is_namer c.args.repo.now.0) c.args.repo.now.1 c.peel.ensures.sound c.args.name.now.bytes c.in-Some.commit.bytes c.requires c.in-Some.ensures.commit).0

pub returns-in-Some-clause-held : goal.returns-in-Some-clause-held
returns-in-Some-clause-held g c =
    (peeled_to (g.N.Namer.name_of c.args.repo.now.0) (g.met.N.Namer.is_namer c.args.repo.now.0) c.args.repo.now.1 c.peel.ensures.sound c.args.name.now.bytes c.in-Some.commit.bytes c.requires c.in-Some.ensures.commit).1

pub returns-in-None-clause-commit : goal.returns-in-None-clause-commit
returns-in-None-clause-commit g c =
    peeled_none (g.N.Namer.name_of c.args.repo.now.0) (g.met.N.Namer.is_namer c.args.repo.now.0) c.args.repo.now.1 c.peel.ensures.sound c.args.name.now.bytes c.requires c.in-None.ensures.commit
