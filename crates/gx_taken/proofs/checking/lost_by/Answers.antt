use Rattle.gx_taken.proofs.HeldObjects.{commit_holds}
use Rattle.gx_taken.proofs.checking.lost_by.Goals as goal

pub is_ancestor-requires-clause-old : goal.is_ancestor-requires-clause-old
is_ancestor-requires-clause-old g c =
    commit_holds (g.N.Namer.name_of c.args.repo.now.0) (g.met.N.Namer.is_namer c.args.repo.now.0) c.args.repo.now.1 c.peel.ensures.sound c.args.was.now.bytes c.in-Some.old.bytes c.in-Some.ensures.commit

pub is_ancestor-requires-clause-new : goal.is_ancestor-requires-clause-new
is_ancestor-requires-clause-new g c =
    commit_holds (g.N.Namer.name_of c.args.repo.now.0) (g.met.N.Namer.is_namer c.args.repo.now.0) c.args.repo.now.1 c.peel.ensures.sound c.args.next.now.bytes c.in-Some-peel.new.bytes c.in-Some-peel.ensures.commit
