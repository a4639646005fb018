use Rattle.gx_model.proofs.Records.HeldValues.{commit_held, peeled_to, peeled_value, unpeeled_value}
use Rattle.gx_rev.proofs.suffix.peeled.Goals as goal

pub returns-in-Some-clause-value : goal.returns-in-Some-clause-value
returns-in-Some-clause-value g c =
    peeled_value (g.N.Namer.name_of c.args.repo.now.0) (g.met.N.Namer.is_namer c.args.repo.now.0) c.args.repo.now.1 c.peel.ensures.sound c.args.name.now.bytes c.in-Some.commit.bytes c.requires c.in-Some.ensures.commit

pub returns-in-Some-clause-held : goal.returns-in-Some-clause-held
returns-in-Some-clause-held g c =
    let name = g.N.Namer.name_of c.args.repo.now.0 in
    let namer = g.met.N.Namer.is_namer c.args.repo.now.0 in
    commit_held name namer c.args.repo.now.1 c.peel.ensures.sound c.in-Some.commit.bytes (peeled_to name namer c.args.repo.now.1 c.peel.ensures.sound c.args.name.now.bytes c.in-Some.commit.bytes c.requires c.in-Some.ensures.commit).1

pub returns-in-None-clause-value : goal.returns-in-None-clause-value
returns-in-None-clause-value g c =
    unpeeled_value (g.N.Namer.name_of c.args.repo.now.0) (g.met.N.Namer.is_namer c.args.repo.now.0) c.args.repo.now.1 c.peel.ensures.sound c.args.name.now.bytes c.requires c.in-None.ensures.commit
