use Rattle.std.proofs.Common.{ap, sym, Ok}
use Rattle.gx_model.proofs.Records.HeldValues.{commit_stands}
use Rattle.gx_rev.proofs.suffix.ancestor_with.Goals as goal

pub returns-clause-value : goal.returns-clause-value
returns-clause-value g c =
    let s = commit_stands (g.N.Namer.name_of c.args.repo.now.0) (g.met.N.Namer.is_namer c.args.repo.now.0) c.args.repo.now.1 c.sound.ensures c.in_ok-ancestor.ancestor.bytes c.in_ok-ancestor.ensures.held in
    rw (c.in_ok-commit.ensures.commit, c.in_ok-ancestor.ensures.ancestor) (ap Ok (sym s.0))
