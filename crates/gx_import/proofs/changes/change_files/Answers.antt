use Rattle.std.proofs.Common.{[], Ok, Err, sym, ap, subst, ◌∙◌}
use Rattle.std.proofs.lemmas.Result.{err_from_is_err_and}
use Rattle.gx_model.specs.Histories.Edits.{copied, removed, renamed}
use Rattle.gx_model.specs.Faults.{IsFaultOf}
use Rattle.gx_model.specs.Laws.RepositoryLaws.{values_of}
use Rattle.gx_model.specs.Histories.Files.{FileMap}
use Rattle.gx_model.specs.Texts.{Bytes}
use Rattle.gx_model.specs.Replay.{State, changed}
use Rattle.gx_command.specs.Views.{shown_change}
use Rattle.gx_tree.specs.Faults.{fault_of}
use Rattle.gx_tree.specs.Named.{NamedTree, IsAtHome}
use Rattle.gx_model.specs.Objects.NameMaps.{AreFiles, IsNameMap}
use Rattle.gx_import.specs.Additions.{Clash, blob_added}
use Rattle.gx_import.specs.Answers.{AddsAs}
use Rattle.gx_tree.specs.Faults.{fault_of as of_tree}
use Rattle.gx_import.specs.Asking.{AsksByOne}
use Rattle.gx_import.specs.Standing.{Follows}
use Rattle.gx_import.proofs.AskedReferences.{none_vain, tree_free}
use Rattle.gx_import.proofs.EditedFiles.{cleared_kept, copied_free, copied_names, edit_done, edit_refused, removed_kept, removed_names, renamed_free, renamed_names}
use Rattle.gx_import.proofs.KeptFiles.{IsKnownLeaf, copied_leaves, renamed_leaves}
use Rattle.gx_import.proofs.changes.change_files.Goals as goal
use Rattle.gx_import.proofs.changes.change_files.Goals.{in-Modify+in_ok-modify_files-in-Modify, in-Remove+in_ok-remove_files-in-Remove, in-Copy+in_ok-copy_files-in-Copy, in-Rename+in_ok-rename_files-in-Rename, in-Clear}

pub returns-in_err-copy_files-in-Copy-clause-steps : goal.returns-in_err-copy_files-in-Copy-clause-steps
returns-in_err-copy_files-in-Copy-clause-steps g c = λ s f h are.
    let name = g.N.Namer.name_of c.args.repo.now.0 in
    let v = c.from_residual-in_err-copy_files-in-Copy in
    let p = err_from_is_err_and v.result v.ensures.1 in
    let e = c.in_err-copy_files-in-Copy.field-0.0 in
    let from = c.in-Copy.source in
    let to = c.in-Copy.destination in
    let refused = subst (IsFaultOf (fault_of e)) (copied_names name f c.args.files.now.files from to are.named) c.in_err-copy_files-in-Copy.ensures.map in
    let Is : State × FileMap Bytes → Unit {0} → Type 0 = λ r x. Follows name c.args.repo.now.1 c.args.tables.now s r.0 × AreFiles name r.0.history.values r.1 c.copy_files.new.files.files in
    let answer : AddsAs (Clash name (values_of c.args.repo.now.1) (blob_added (shown_change c.args.change))) Is (Err (of_tree e)) (changed name s f (shown_change c.args.change)) =
    rw c.in-Copy.is (edit_refused name (Clash name (values_of c.args.repo.now.1) []) Is e (copied f from to) s (copied_free f from to) refused)
    in rw (p.1, p.2) answer

pub returns-in_err-rename_files-in-Rename-clause-steps : goal.returns-in_err-rename_files-in-Rename-clause-steps
returns-in_err-rename_files-in-Rename-clause-steps g c = λ s f h are.
    let name = g.N.Namer.name_of c.args.repo.now.0 in
    let v = c.from_residual-in_err-rename_files-in-Rename in
    let p = err_from_is_err_and v.result v.ensures.1 in
    let e = c.in_err-rename_files-in-Rename.field-0.0 in
    let from = c.in-Rename.source in
    let to = c.in-Rename.destination in
    let refused = subst (IsFaultOf (fault_of e)) (renamed_names name f c.args.files.now.files from to are.named) c.in_err-rename_files-in-Rename.ensures.map in
    let Is : State × FileMap Bytes → Unit {0} → Type 0 = λ r x. Follows name c.args.repo.now.1 c.args.tables.now s r.0 × AreFiles name r.0.history.values r.1 c.rename_files.new.files.files in
    let answer : AddsAs (Clash name (values_of c.args.repo.now.1) (blob_added (shown_change c.args.change))) Is (Err (of_tree e)) (changed name s f (shown_change c.args.change)) =
    rw c.in-Rename.is (edit_refused name (Clash name (values_of c.args.repo.now.1) []) Is e (renamed f from to) s (renamed_free f from to) refused)
    in rw (p.1, p.2) answer

pub returns-clause-steps : goal.returns-clause-steps
returns-clause-steps g c = λ s f h are.
    let name = g.N.Namer.name_of c.args.repo.now.0 in
    let r = c.args.repo.now.1 in
    let tables = c.args.tables.now in
    let names = c.args.files.now.files in
    elim c.match-change.branch [
      | in-Modify+in_ok-modify_files-in-Modify w ↦ rw (w.in-Modify.is, w.repo-is, w.files-is) (w.in_ok-modify_files-in-Modify.ensures.steps s f h are)
      | in-Remove+in_ok-remove_files-in-Remove w ↦
          rw (w.in-Remove.is, w.repo-is, w.files-is)
          (edit_done name r tables s h f names are (Ok (removed f w.in-Remove.path)) (removed_kept (IsKnownLeaf s.history.values) f w.in-Remove.path) w.remove_files.new.files.files (sym (removed_names name f names w.in-Remove.path are.named) ∙ w.in_ok-remove_files-in-Remove.ensures.map) (subst (λ t. IsNameMap t.files) w.files-is c.name_map.ensures))
      | in-Copy+in_ok-copy_files-in-Copy w ↦
          rw (w.in-Copy.is, w.repo-is, w.files-is)
          (edit_done name r tables s h f names are (copied f w.in-Copy.source w.in-Copy.destination) (copied_leaves (IsKnownLeaf s.history.values) f w.in-Copy.source w.in-Copy.destination) w.copy_files.new.files.files
          (sym (copied_names name f names w.in-Copy.source w.in-Copy.destination are.named) ∙ w.in_ok-copy_files-in-Copy.ensures.map) (subst (λ t. IsNameMap t.files) w.files-is c.name_map.ensures))
      | in-Rename+in_ok-rename_files-in-Rename w ↦
          rw (w.in-Rename.is, w.repo-is, w.files-is)
          (edit_done name r tables s h f names are (renamed f w.in-Rename.source w.in-Rename.destination) (renamed_leaves (IsKnownLeaf s.history.values) f w.in-Rename.source w.in-Rename.destination) w.rename_files.new.files.files
          (sym (renamed_names name f names w.in-Rename.source w.in-Rename.destination are.named) ∙ w.in_ok-rename_files-in-Rename.ensures.map) (subst (λ t. IsNameMap t.files) w.files-is c.name_map.ensures))
      | in-Clear w ↦ rw (w.in-Clear.is, w.repo-is, w.files-is) (edit_done name r tables s h f names are (Ok []) (cleared_kept (IsKnownLeaf s.history.values) f) w.clear.new.self.files (ap (λ (t : NamedTree). Ok t.files) (sym w.clear.ensures)) (subst (λ t. IsNameMap t.files) w.files-is c.name_map.ensures))
    ]

pub returns-clause-home : goal.returns-clause-home
returns-clause-home g c = λ h.
    let name = g.N.Namer.name_of c.args.repo.now.0 in
    let rs = c.args.repo.now.1.records in
    elim c.match-change.branch [
      | in-Modify+in_ok-modify_files-in-Modify w ↦ rw (w.repo-is, w.files-is) (w.in_ok-modify_files-in-Modify.ensures.home h)
      | in-Remove+in_ok-remove_files-in-Remove w ↦ rw (w.repo-is, w.files-is) (w.remove_files.ensures.home name rs h)
      | in-Copy+in_ok-copy_files-in-Copy w ↦ rw (w.repo-is, w.files-is) (w.copy_files.ensures.home name rs h)
      | in-Rename+in_ok-rename_files-in-Rename w ↦ rw (w.repo-is, w.files-is) (w.rename_files.ensures.home name rs h)
      | in-Clear w ↦ rw (w.repo-is, w.files-is) (subst (IsAtHome name rs) (sym w.clear.ensures) tt)
    ]

pub returns-in_err-modify_files-in-Modify-clause-steps : goal.returns-in_err-modify_files-in-Modify-clause-steps
returns-in_err-modify_files-in-Modify-clause-steps g c = λ s f h are.
    let p = err_from_is_err_and c.from_residual.result c.from_residual.ensures.1 in
    rw (c.in-Modify.is, p.1, p.2) (c.in_err-modify_files-in-Modify.ensures.steps s f h are)

-- ---- what is asked for

pub returns-in_err-modify_files-in-Modify-clause-asked : goal.returns-in_err-modify_files-in-Modify-clause-asked
returns-in_err-modify_files-in-Modify-clause-asked g c = λ s h.
    let p = err_from_is_err_and c.from_residual.result c.from_residual.ensures.1 in
    rw (c.in-Modify.is, p.1, p.2) (c.in_err-modify_files-in-Modify.ensures.asked s h)

pub returns-in_err-remove_files-in-Remove-clause-asked : goal.returns-in_err-remove_files-in-Remove-clause-asked
returns-in_err-remove_files-in-Remove-clause-asked g c = λ s h.
    let name = g.N.Namer.name_of c.args.repo.now.0 in
    let v = c.from_residual-in_err-remove_files-in-Remove in
    let p = err_from_is_err_and v.result v.ensures.1 in
    let e = c.in_err-remove_files-in-Remove.field-0.0 in
    rw (p.1, p.2) (none_vain (AsksByOne name s (shown_change c.args.change) (of_tree e)) (of_tree e) c.remove_files.new.told.asked (c.remove_files.ensures.asked ∙ c.requires.unasked) (tree_free e))

pub returns-in_err-copy_files-in-Copy-clause-asked : goal.returns-in_err-copy_files-in-Copy-clause-asked
returns-in_err-copy_files-in-Copy-clause-asked g c = λ s h.
    let name = g.N.Namer.name_of c.args.repo.now.0 in
    let v = c.from_residual-in_err-copy_files-in-Copy in
    let p = err_from_is_err_and v.result v.ensures.1 in
    let e = c.in_err-copy_files-in-Copy.field-0.0 in
    rw (p.1, p.2) (none_vain (AsksByOne name s (shown_change c.args.change) (of_tree e)) (of_tree e) c.copy_files.new.told.asked (c.copy_files.ensures.asked ∙ c.requires.unasked) (tree_free e))

pub returns-in_err-rename_files-in-Rename-clause-asked : goal.returns-in_err-rename_files-in-Rename-clause-asked
returns-in_err-rename_files-in-Rename-clause-asked g c = λ s h.
    let name = g.N.Namer.name_of c.args.repo.now.0 in
    let v = c.from_residual-in_err-rename_files-in-Rename in
    let p = err_from_is_err_and v.result v.ensures.1 in
    let e = c.in_err-rename_files-in-Rename.field-0.0 in
    rw (p.1, p.2) (none_vain (AsksByOne name s (shown_change c.args.change) (of_tree e)) (of_tree e) c.rename_files.new.told.asked (c.rename_files.ensures.asked ∙ c.requires.unasked) (tree_free e))
