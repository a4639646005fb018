use Rattle.std.proofs.Common.{◌∙◌, ap}
use Rattle.gx_model.specs.Objects.NameMaps.{IsHeldTree}
use Rattle.gx_model.specs.Records.{named_map}
use Rattle.gx_model.specs.Histories.Values.{files_of}
use Rattle.gx_model.proofs.Records.HeldTrees.{files_are_held}
use Rattle.gx_rev.specs.Objects.{commit_at}
use Rattle.gx_export.proofs.CommitTexts.{files_named_so}
use Rattle.gx_export.proofs.Gathering.{adds_gathered, kept_gathered, text_gathered, whole_tree}
use Rattle.gx_export.proofs.trees.add_files.Goals as goal

pub add_tree-requires-clause-held : goal.add_tree-requires-clause-held
add_tree-requires-clause-held g c =
    let name = g.N.Namer.name_of c.args.repo.now.0 in
    let r = c.args.repo.now.1 in
    let namer = g.met.N.Namer.is_namer c.args.repo.now.0 in
    let f = files_of (commit_at r c.args.commit.now) in
    let tree = c.tree.ensures ∙ ap (λ v. v.tree) c.view_of-view.ensures in
    let held : IsHeldTree name r.records c.tree.result.bytes (named_map name f) = rw tree (files_are_held name namer r c.sound.ensures c.args.commit.now.bytes c.requires.held) in
    (named_map name f, rw c.root-root.ensures (whole_tree name r c.tree.result.bytes (named_map name f) held (files_named_so name namer r c.sound.ensures c.args.commit.now.bytes c.requires.held).0.held))

pub returns-clause-adds : goal.returns-clause-adds
returns-clause-adds g c = λ ws h kept.
    let name = g.N.Namer.name_of c.args.repo.now.0 in
    let r = c.args.repo.now.1 in
    let namer = g.met.N.Namer.is_namer c.args.repo.now.0 in
    let f = files_of (commit_at r c.args.commit.now) in
    let tree = c.tree.ensures ∙ ap (λ v. v.tree) c.view_of-view.ensures in
    let held : IsHeldTree name r.records c.tree.result.bytes (named_map name f) = rw tree (files_are_held name namer r c.sound.ensures c.args.commit.now.bytes c.requires.held) in
    adds_gathered name r ws c.root-root.result (named_map name f) f c.args.written.now c.add_tree.new.written c.begin.new.self c.add_tree.new.lines c.add_tree.result c.root-root.ensures
    (files_named_so name namer r c.sound.ensures c.args.commit.now.bytes c.requires.held).1 (c.add_tree.ensures (named_map name f) held ws h (c.begin.ensures.kept name r ws kept))

pub returns-clause-text : goal.returns-clause-text
returns-clause-text g c = λ ws h kept.
    let name = g.N.Namer.name_of c.args.repo.now.0 in
    let r = c.args.repo.now.1 in
    let namer = g.met.N.Namer.is_namer c.args.repo.now.0 in
    let f = files_of (commit_at r c.args.commit.now) in
    let tree = c.tree.ensures ∙ ap (λ v. v.tree) c.view_of-view.ensures in
    let held : IsHeldTree name r.records c.tree.result.bytes (named_map name f) = rw tree (files_are_held name namer r c.sound.ensures c.args.commit.now.bytes c.requires.held) in
    text_gathered name r ws c.root-root.result (named_map name f) f c.args.written.now c.add_tree.new.written c.begin.new.self c.add_tree.new.lines c.add_tree.result c.root-root.ensures
    (files_named_so name namer r c.sound.ensures c.args.commit.now.bytes c.requires.held).1 c.begin.ensures.text (c.add_tree.ensures (named_map name f) held ws h (c.begin.ensures.kept name r ws kept))

pub add_tree-requires-clause-written : goal.add_tree-requires-clause-written
add_tree-requires-clause-written g c =
    let w = c.requires.written in
    (w.0, w.1, c.begin.ensures.kept (g.N.Namer.name_of c.args.repo.now.0) c.args.repo.now.1 w.0 w.2)

pub returns-clause-kept : goal.returns-clause-kept
returns-clause-kept g c = λ ws h kept.
    let name = g.N.Namer.name_of c.args.repo.now.0 in
    let r = c.args.repo.now.1 in
    let namer = g.met.N.Namer.is_namer c.args.repo.now.0 in
    let f = files_of (commit_at r c.args.commit.now) in
    let tree = c.tree.ensures ∙ ap (λ v. v.tree) c.view_of-view.ensures in
    let held : IsHeldTree name r.records c.tree.result.bytes (named_map name f) = rw tree (files_are_held name namer r c.sound.ensures c.args.commit.now.bytes c.requires.held) in
    kept_gathered name r ws c.root-root.result (named_map name f) f c.args.written.now c.add_tree.new.written c.begin.new.self c.add_tree.new.lines c.add_tree.result c.root-root.ensures
    (files_named_so name namer r c.sound.ensures c.args.commit.now.bytes c.requires.held).1 (c.add_tree.ensures (named_map name f) held ws h (c.begin.ensures.kept name r ws kept))
