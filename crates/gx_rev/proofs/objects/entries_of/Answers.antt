use Rattle.std.proofs.Common.{sym, ap, ◌∙◌}
use Rattle.gx_model.specs.declared.objects.Kind.TheVariants as kinds
use Rattle.gx_model.specs.Records.HistoryOf.{files_of_tree, value_of_name}
use Rattle.gx_model.proofs.ObjectTexts.TreePaths as paths
use Rattle.gx_model.proofs.Records.HeldValues.{got, kind_held}
use Rattle.gx_model.proofs.Records.HeldTrees.{tree_text_held}
use Rattle.gx_rev.proofs.PathSteps.{entries_got}
use Rattle.gx_rev.proofs.objects.entries_of.Goals as goal

pub held_tree-requires : goal.held_tree-requires
held_tree-requires g c =
    let name = g.N.Namer.name_of c.args.repo.now.0 in
    let namer = g.met.N.Namer.is_namer c.args.repo.now.0 in
    let r = c.args.repo.now.1 in
    let n = c.args.tree.now.bytes in
    let held = kind_held name namer r c.store.ensures.sound kinds.Tree n c.requires in
    let same = got name namer r c.store.ensures.sound n (c.in-Some.field-0-0, c.in-Some.body.now) held.0 (rw c.store.ensures.held at c.in-Some.ensures) in
    (paths.entries_of name namer (files_of_tree (value_of_name r.records n)), tree_text_held name namer r c.store.ensures.sound n c.in-Some.body.now c.requires (ap (λ o. o.1) same))

pub returns-clause-entries : goal.returns-clause-entries
returns-clause-entries g c =
    let name = g.N.Namer.name_of c.args.repo.now.0 in
    let namer = g.met.N.Namer.is_namer c.args.repo.now.0 in
    let r = c.args.repo.now.1 in
    let n = c.args.tree.now.bytes in
    let held = kind_held name namer r c.store.ensures.sound kinds.Tree n c.requires in
    let same = got name namer r c.store.ensures.sound n (c.in-Some.field-0-0, c.in-Some.body.now) held.0 (rw c.store.ensures.held at c.in-Some.ensures) in
    let es = paths.entries_of name namer (files_of_tree (value_of_name r.records n)) in
    let text = tree_text_held name namer r c.store.ensures.sound n c.in-Some.body.now c.requires (ap (λ o. o.1) same) in
    c.held_tree.ensures es text ∙ sym (entries_got r.records n c.in-Some.field-0-0 c.in-Some.body.now es (rw c.store.ensures.held at c.in-Some.ensures) text)

pub returns-clause-files : goal.returns-clause-files
returns-clause-files g c =
    let name = g.N.Namer.name_of c.args.repo.now.0 in
    let namer = g.met.N.Namer.is_namer c.args.repo.now.0 in
    let r = c.args.repo.now.1 in
    let n = c.args.tree.now.bytes in
    let held = kind_held name namer r c.store.ensures.sound kinds.Tree n c.requires in
    let same = got name namer r c.store.ensures.sound n (c.in-Some.field-0-0, c.in-Some.body.now) held.0 (rw c.store.ensures.held at c.in-Some.ensures) in
    c.held_tree.ensures (paths.entries_of name namer (files_of_tree (value_of_name r.records n))) (tree_text_held name namer r c.store.ensures.sound n c.in-Some.body.now c.requires (ap (λ o. o.1) same))
