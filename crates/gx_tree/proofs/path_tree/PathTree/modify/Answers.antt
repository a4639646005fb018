use Rattle.std.proofs.Common.{◌<◌, length, sym, ap, ◌∙◌, arith, subst}
use Rattle.gx_model.specs.Objects.{is_name}
use Rattle.gx_model.specs.Objects.NameMaps.{IsNameMap}
use Rattle.gx_tree.specs.Named.{IsAtHome}
use Rattle.gx_tree.specs.Views.{root_tree}
use Rattle.gx_tree.proofs.NamedFiles.{names-modified}
use Rattle.gx_tree.proofs.path_tree.PathTree.modify.Goals as goal

pub returns-in_default-clause-home : goal.returns-in_default-clause-home
returns-in_default-clause-home g c name rs h = c.in_ok-of_item.ensures.home name rs tt

pub invariant_of-self-2 : goal.invariant_of-self-2
invariant_of-self-2 g c =
    let l : 0 < length c.args.path.now = omega arith in
    subst IsNameMap (sym c.in_ok-graft.ensures.files) (names-modified c.in-Some.root.files c.args.path.now (c.args.mode, c.args.name.bytes) l c.len.ensures.path (c.requires, ap is_name (sym c.as_slice.ensures) ∙ c.is_name.ensures) (subst (λ r. IsNameMap (root_tree r).files) c.in-Some.is c.self.invariant))

pub returns-clause-home : goal.returns-clause-home
returns-clause-home g c name rs h = c.in_ok-graft.ensures.home name rs (tt, subst (IsAtHome name rs) (sym c.self.view_is ∙ ap root_tree c.in-Some.is) h)
