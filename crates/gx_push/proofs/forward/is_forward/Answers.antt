use Rattle.gx_push.proofs.HeldCommits.{commit_holds}
use Rattle.gx_push.proofs.forward.is_forward.Goals as goal

pub is_ancestor-requires-clause-old : goal.is_ancestor-requires-clause-old
is_ancestor-requires-clause-old g c =
    commit_holds (g.N.Namer.name_of c.args.repo.now.0) (g.met.N.Namer.is_namer c.args.repo.now.0) c.args.repo.now.1 c.peel.ensures.sound c.args.old.now.bytes c.in-Some.lost.bytes c.in-Some.ensures.commit

pub is_ancestor-requires-clause-new : goal.is_ancestor-requires-clause-new
is_ancestor-requires-clause-new g c =
    commit_holds (g.N.Namer.name_of c.args.repo.now.0) (g.met.N.Namer.is_namer c.args.repo.now.0) c.args.repo.now.1 c.peel.ensures.sound c.args.new.now.bytes c.in-Some-peel.tip.bytes c.in-Some-peel.ensures.commit
