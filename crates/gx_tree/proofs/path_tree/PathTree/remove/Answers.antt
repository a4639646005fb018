use Rattle.std.proofs.Common.{Ok, sym, ap, ◌∙◌, arith, subst}
use Rattle.gx_model.specs.Objects.NameMaps.{IsNameMap}
use Rattle.gx_tree.specs.Named.{IsAtHome}
use Rattle.gx_tree.specs.Standings.{standing_of}
use Rattle.gx_tree.specs.Views.{root_tree}
use Rattle.gx_tree.proofs.Below.{nothing_found, removed_missing}
use Rattle.gx_tree.proofs.EditSteps.{removed_root}
use Rattle.gx_tree.proofs.Homes.{files_same}
use Rattle.gx_tree.proofs.NamedFiles.{names-removed}
use Rattle.gx_tree.proofs.path_tree.PathTree.remove.Goals as goal

pub returns-then-is_none-clause-map : goal.returns-then-is_none-clause-map
returns-then-is_none-clause-map g c = ap Ok (removed_missing c.args.path.now c.args.self.now.files (nothing_found standing_of c.entry.result _ c.if-is_none.ensures c.entry.ensures))

pub returns-then-len-eq0-clause-map : goal.returns-then-len-eq0-clause-map
returns-then-len-eq0-clause-map g c = ap Ok (removed_root c.args.path.now c.args.self.now.files (omega arith) ∙ sym (files_same c.clear.ensures))

pub invariant_of-self-2 : goal.invariant_of-self-2
invariant_of-self-2 g c =
    subst IsNameMap (sym c.in_ok-remove.ensures.files) (names-removed c.in-Some.root.files c.args.path.now (subst (λ r. IsNameMap (root_tree r).files) c.in-Some.is c.self.invariant))

pub returns-clause-home : goal.returns-clause-home
returns-clause-home g c name rs h = c.remove.ensures.home name rs (subst (IsAtHome name rs) (sym c.self.view_is ∙ ap root_tree c.in-Some.is) h)
