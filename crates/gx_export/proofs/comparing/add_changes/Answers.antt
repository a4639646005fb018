use Rattle.std.proofs.Common.{◌∙◌, [], ap, sym, subst}
use Rattle.std.specs.List.{slice_get}
use Rattle.gx_model.specs.Changes.{base_files}
use Rattle.gx_model.specs.Histories.Values.{files_of, list_of, parents_of}
use Rattle.gx_model.specs.Records.{named_map}
use Rattle.gx_rev.specs.Objects.{commit_at}
use Rattle.gx_export.specs.Compared.{IsBelowIf}
use Rattle.gx_export.specs.FileTexts.{IsTreeBelow}
use Rattle.gx_object.specs.Parts.{bytes_if}
use Rattle.gx_export.proofs.BaseFiles.{base_below, gone_told, of_compared, own_told, parent_held, tree_held}
use Rattle.gx_export.proofs.comparing.add_changes.Goals as goal

pub tree_of-base-requires : goal.tree_of-base-requires
tree_of-base-requires g c =
    let first = c.parent.ensures ∙ ap (λ v. slice_get v.parents 0) c.view_of-view.ensures in
    parent_held (g.N.Namer.name_of c.args.repo.now.0) (g.met.N.Namer.is_namer c.args.repo.now.0) c.args.repo.now.1 c.sound.ensures c.args.commit.now.bytes c.requires.held c.parent.result first

pub compare_trees-requires-clause-held : goal.compare_trees-requires-clause-held
compare_trees-requires-clause-held g c =
    let name = g.N.Namer.name_of c.args.repo.now.0 in
    let namer = g.met.N.Namer.is_namer c.args.repo.now.0 in
    let r = c.args.repo.now.1 in
    let n = c.args.commit.now.bytes in
    let made = commit_at r c.args.commit.now in
    let first = c.parent.ensures ∙ ap (λ v. slice_get v.parents 0) c.view_of-view.ensures in
    let f = named_map name (base_files (list_of (parents_of made))) in
    let h = named_map name (files_of made) in
    let root = c.root-root.ensures in
    let tree = c.tree.ensures ∙ ap (λ v. v.tree) c.view_of-view.ensures in
    let old = subst (λ q. IsBelowIf name r 4095 q (bytes_if c.tree_of-base.result) f) (sym root) (subst (λ o. IsBelowIf name r 4095 [] o f) (sym c.tree_of-base.ensures) (base_below name namer r c.sound.ensures n c.requires.held c.parent.result first)) in
    let new = subst (λ q. IsTreeBelow name r 4095 q c.tree.result.bytes h) (sym root) (subst (λ t. IsTreeBelow name r 4095 [] t h) (sym tree) (tree_held name namer r c.sound.ensures n c.requires.held)) in
    (f, h, old, new)

pub compare_trees-requires-clause-written : goal.compare_trees-requires-clause-written
compare_trees-requires-clause-written g c =
    let w = c.requires.written in
    (w.0, w.1, c.begin.ensures.kept (g.N.Namer.name_of c.args.repo.now.0) c.args.repo.now.1 w.0 w.2)

pub returns : goal.returns
returns g c = λ ws h kept.
    let name = g.N.Namer.name_of c.args.repo.now.0 in
    let namer = g.met.N.Namer.is_namer c.args.repo.now.0 in
    let r = c.args.repo.now.1 in
    let n = c.args.commit.now.bytes in
    let made = commit_at r c.args.commit.now in
    let first = c.parent.ensures ∙ ap (λ v. slice_get v.parents 0) c.view_of-view.ensures in
    let f = named_map name (base_files (list_of (parents_of made))) in
    let files = named_map name (files_of made) in
    let root = c.root-root.ensures in
    let tree = c.tree.ensures ∙ ap (λ v. v.tree) c.view_of-view.ensures in
    let old = subst (λ q. IsBelowIf name r 4095 q (bytes_if c.tree_of-base.result) f) (sym root) (subst (λ o. IsBelowIf name r 4095 [] o f) (sym c.tree_of-base.ensures) (base_below name namer r c.sound.ensures n c.requires.held c.parent.result first)) in
    let new = subst (λ q. IsTreeBelow name r 4095 q c.tree.result.bytes files) (sym root) (subst (λ t. IsTreeBelow name r 4095 [] t files) (sym tree) (tree_held name namer r c.sound.ensures n c.requires.held)) in
    of_compared name r ws made c.root-root.result f files c.args.written.now c.compare_trees.new.written c.begin.new.self c.compare_trees.new.changes c.root-root.ensures
    (own_told name namer r c.sound.ensures n c.requires.held c.parent.result first) (gone_told name namer r c.sound.ensures n c.requires.held) c.begin.ensures.gone c.begin.ensures.text c.compare_trees.result
    (c.compare_trees.ensures f files old new ws h (c.begin.ensures.kept name r ws kept))
