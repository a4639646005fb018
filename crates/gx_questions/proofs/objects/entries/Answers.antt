use Rattle.std.proofs.lemmas.Result.{err_from_is_err_and}
use Rattle.gx_model.specs.declared.objects.Kind.TheVariants as kinds
use Rattle.gx_questions.proofs.Found.{entries_are, tree_reads, no_tree_kind, not_other}
use Rattle.gx_questions.proofs.objects.entries.Goals as goal

pub returns-in_err-decode_tree-in-Tree-clause-fault : goal.returns-in_err-decode_tree-in-Tree-clause-fault
returns-in_err-decode_tree-in-Tree-clause-fault g c =
    let p = err_from_is_err_and c.from_residual-in_err-decode_tree-in-Tree.result c.from_residual-in_err-decode_tree-in-Tree.ensures.1 in
    rw (p.1, p.2) (tree_reads (g.O.Objects.name_of c.args.objects.now) c.sound_if_told.ensures.namer (g.O.Objects.told c.args.objects.now) c.args.tree.now c.in_ok-object.object c.sound_if_told.ensures.sound c.requires.held c.in_ok-object.ensures.object c.in_err-decode_tree-in-Tree.ensures.only)

pub returns-in_ok-decode_tree-in-Tree-clause-entries : goal.returns-in_ok-decode_tree-in-Tree-clause-entries
returns-in_ok-decode_tree-in-Tree-clause-entries g c =
    entries_are (g.O.Objects.name_of c.args.objects.now) c.sound_if_told.ensures.namer (g.O.Objects.told c.args.objects.now) c.args.tree.now c.in_ok-object.object _ c.sound_if_told.ensures.sound c.requires.held c.in_ok-object.ensures.object c.in_ok-decode_tree-in-Tree.ensures.found c.in_ok-decode_tree-in-Tree.ensures.only

pub returns-in-Blob : goal.returns-in-Blob
returns-in-Blob g c =
    record { entries = tt; named = tt; fault = not_other (g.O.Objects.name_of c.args.objects.now) c.sound_if_told.ensures.namer (g.O.Objects.told c.args.objects.now) kinds.Tree c.args.tree.now c.in_ok-object.object c.sound_if_told.ensures.sound c.requires.held c.in_ok-object.ensures.object (no_tree_kind c.in_ok-object.object.kind c.in-Blob.is); sure = λ _. tt }
