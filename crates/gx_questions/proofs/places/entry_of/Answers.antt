use Rattle.std.proofs.lemmas.Result.{err_from_is_err_and}
use Rattle.gx_model.specs.declared.objects.Kind.TheVariants as kinds
use Rattle.gx_questions.proofs.Found.{no_tree_kind, not_other, tree_reads}
use Rattle.gx_questions.proofs.Paths.{entry_held, entry_named}
use Rattle.gx_questions.proofs.places.entry_of.Goals as goal

pub returns-in_err-find_entry-in-Tree-clause-fault : goal.returns-in_err-find_entry-in-Tree-clause-fault
returns-in_err-find_entry-in-Tree-clause-fault g c =
    let p = err_from_is_err_and c.from_residual-in_err-find_entry-in-Tree.result c.from_residual-in_err-find_entry-in-Tree.ensures.1 in
    rw (p.1, p.2) (tree_reads (g.O.Objects.name_of c.args.objects.now) c.sound_if_told.ensures.namer (g.O.Objects.told c.args.objects.now) c.args.tree.now c.in_ok-object.object c.sound_if_told.ensures.sound c.requires.held c.in_ok-object.ensures.object c.in_err-find_entry-in-Tree.ensures.fault)

pub returns-in_ok-find_entry-in-Tree-clause-entry : goal.returns-in_ok-find_entry-in-Tree-clause-entry
returns-in_ok-find_entry-in-Tree-clause-entry g c =
    entry_named (g.O.Objects.name_of c.args.objects.now) c.sound_if_told.ensures.namer (g.O.Objects.told c.args.objects.now) c.args.tree.now c.in_ok-object.object c.args.component.now c.in_ok-find_entry-in-Tree.field-0 c.sound_if_told.ensures.sound c.requires.held c.in_ok-object.ensures.object c.in_ok-find_entry-in-Tree.ensures.found

pub returns-in_ok-find_entry-in-Tree-clause-held : goal.returns-in_ok-find_entry-in-Tree-clause-held
returns-in_ok-find_entry-in-Tree-clause-held g c =
    entry_held (g.O.Objects.name_of c.args.objects.now) c.sound_if_told.ensures.namer (g.O.Objects.told c.args.objects.now) c.args.tree.now c.in_ok-object.object c.args.component.now c.in_ok-find_entry-in-Tree.field-0 c.sound_if_told.ensures.sound c.requires.held c.in_ok-object.ensures.object c.in_ok-find_entry-in-Tree.ensures.found

pub returns-in-Blob : goal.returns-in-Blob
returns-in-Blob g c =
    record { entry = tt; held = tt; fault = not_other (g.O.Objects.name_of c.args.objects.now) c.sound_if_told.ensures.namer (g.O.Objects.told c.args.objects.now) kinds.Tree c.args.tree.now c.in_ok-object.object c.sound_if_told.ensures.sound c.requires.held c.in_ok-object.ensures.object (no_tree_kind c.in_ok-object.object.kind c.in-Blob.is); sure = λ _. tt }
