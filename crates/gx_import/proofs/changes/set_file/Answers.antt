use Rattle.std.proofs.Common.{Ok}
use Rattle.std.proofs.lemmas.Result.{err_from_is_err_and}
use Rattle.gx_model.specs.Faults.{◌>>=◌}
use Rattle.gx_model.specs.Histories.Edits.{modified}
use Rattle.gx_model.specs.Histories.Files.{FileMap}
use Rattle.gx_model.specs.Laws.RepositoryLaws.{values_of}
use Rattle.gx_model.specs.Replay.{State, content}
use Rattle.gx_model.specs.Texts.{Bytes}
use Rattle.gx_command.specs.Views.{shown_data}
use Rattle.gx_object.specs.declared.name.Name.{Name}
use Rattle.gx_tree.specs.Faults.{fault_of as of_tree}
use Rattle.gx_import.specs.Additions.{Clash, content_added}
use Rattle.gx_import.proofs.TipHomes.{home_longer}
use Rattle.gx_import.proofs.EditedFiles.{modify_done}
use Rattle.gx_import.proofs.PartAnswers.{adds_refused}
use Rattle.gx_import.specs.Asking.{AsksByContent}
use Rattle.gx_import.proofs.AskedReferences.{none_vain, tree_free}
use Rattle.gx_import.proofs.changes.set_file.Goals as goal

pub returns-clause-steps : goal.returns-clause-steps
returns-clause-steps g c = λ s f h are.
    let name = g.N.Namer.name_of c.args.repo.now.0 in
    let k = c.in_ok-name.ensures.steps s h in
    modify_done name c.told_content.new.repo.1 c.args.tables.now s f c.args.files.now.files are c.args.mode (shown_data c.args.data_ref) c.args.path.now c.in_ok-name.name k.0 k.1 k.2.0 k.2.1 c.modify.new.self.files c.in_ok-modify.ensures.map c.name_map.ensures

pub returns-clause-home : goal.returns-clause-home
returns-clause-home g c = λ h.
    let name = g.N.Namer.name_of c.args.repo.now.0 in
    c.modify.ensures.home name c.told_content.new.repo.1.records (home_longer c.records_keep_home.ensures name c.args.repo.now.1.records c.told_content.new.repo.1.records c.args.files.now c.told_content.ensures.only.extends h)

pub returns-in_err-name-clause-steps : goal.returns-in_err-name-clause-steps
returns-in_err-name-clause-steps g c = λ s f h are.
    let name = g.N.Namer.name_of c.args.repo.now.0 in
    let p = err_from_is_err_and c.from_residual.result c.from_residual.ensures.1 in
    let d = shown_data c.args.data_ref in
    let clash = Clash name (values_of c.args.repo.now.1) (content_added d) in
    rw (p.1, p.2) (adds_refused {X = Name} {Y = State × Bytes} {Z = Unit {0}} {W = State × FileMap Bytes} clash clash (λ u x. Unit {0}) (λ u x. Unit {0}) (λ q. q) c.in_err-name.field-0.0 (content name s c.args.mode d)
    (λ r. modified f c.args.path.now (c.args.mode, r.1) >>= λ z. Ok (r.0, z)) (c.in_err-name.ensures.steps s h))

pub returns-in_err-name-clause-asked : goal.returns-in_err-name-clause-asked
returns-in_err-name-clause-asked g c = λ s h.
    let p = err_from_is_err_and c.from_residual.result c.from_residual.ensures.1 in
    rw (p.1, p.2) (c.in_err-name.ensures.asked s h)

pub returns-in_err-modify-clause-asked : goal.returns-in_err-modify-clause-asked
returns-in_err-modify-clause-asked g c = λ s h.
    let name = g.N.Namer.name_of c.args.repo.now.0 in
    let p = err_from_is_err_and c.from_residual-in_err-modify.result c.from_residual-in_err-modify.ensures.1 in
    let e = c.in_err-modify.field-0.0 in
    rw (p.1, p.2) (none_vain (AsksByContent name s c.args.mode (shown_data c.args.data_ref) (of_tree e)) (of_tree e) c.told_content.new.asked c.in_ok-name.ensures.unasked (tree_free e))

pub returns-clause-asked : goal.returns-clause-asked
returns-clause-asked g c = λ s h. c.in_ok-name.ensures.unasked
