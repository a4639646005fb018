use Rattle.gx_import.proofs.HeldObjects.{commit_found, commit_lacking}
use Rattle.gx_import.proofs.object.commit_in.Goals as goal

pub returns-in-Some : goal.returns-in-Some
returns-in-Some g c = λ value is.
    commit_found (g.N.Namer.name_of c.args.repo.now.0) (g.met.N.Namer.is_namer c.args.repo.now.0) c.args.repo.now.1 c.peel.ensures.sound value c.args.object is c.in-Some.commit c.in-Some.ensures.commit

pub returns-in-None : goal.returns-in-None
returns-in-None g c = λ value is.
    commit_lacking (g.N.Namer.name_of c.args.repo.now.0) (g.met.N.Namer.is_namer c.args.repo.now.0) c.args.repo.now.1 c.peel.ensures.sound value c.args.object is c.in-None.ensures.commit
