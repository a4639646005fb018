use Rattle.std.proofs.Common.{subst, sym}
use Rattle.std.specs.List.{AllByRecursion}
use Rattle.gx_repo.specs.Earlier.{IsThere}
use Rattle.gx_repo.proofs.earlier.Hints.earlier.Goals as goal

pub held_tree-requires : goal.held_tree-requires
held_tree-requires g c =
    let h = c.nearer.ensures c.args.store.now.1 c.tree_at-first.ensures c.tree_at-last.ensures in
    (h.0, h.1)

pub returns : goal.returns
returns g c =
    let rs = c.args.store.now.1 in
    let h = c.nearer.ensures rs c.tree_at-first.ensures c.tree_at-last.ensures in
    subst (AllByRecursion (IsThere rs)) (sym (c.held_tree.ensures h.0 h.1)) h.2
