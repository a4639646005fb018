use Rattle.gx_rev.specs.Objects.{value_at}
use Rattle.gx_rev.proofs.OneKind.{tree_given, tree_is_held}
use Rattle.gx_rev.proofs.suffix.Suffix.eval.Goals as goal

pub returns-in-Tree-clause-value : goal.returns-in-Tree-clause-value
returns-in-Tree-clause-value g c =
    let r = c.args.repo.now.1 in
    rw c.in-Tree.is (tree_given (g.N.Namer.name_of c.args.repo.now.0) (g.met.N.Namer.is_namer c.args.repo.now.0) r c.sound.ensures (value_at r c.args.name.now) c.tree_of.result c.tree_of.ensures.files c.tree_of.ensures.held)

pub returns-in-Tree-clause-held : goal.returns-in-Tree-clause-held
returns-in-Tree-clause-held g c =
    tree_is_held (g.N.Namer.name_of c.args.repo.now.0) (g.met.N.Namer.is_namer c.args.repo.now.0) c.args.repo.now.1 c.sound.ensures c.tree_of.result c.tree_of.ensures.held
