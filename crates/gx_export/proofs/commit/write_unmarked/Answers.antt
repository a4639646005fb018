use Rattle.std.proofs.Common.{◌∙◌, ◌++◌, length, sym, subst, Err}
use Rattle.std.proofs.lemmas.Result.{err_from_is_err_and}
use Rattle.gx_model.specs.Export.{carrier, blob_commands, contents, with_blobs, items_text}
use Rattle.gx_model.specs.Histories.Values.{files_of, list_of, parents_of, text_of}
use Rattle.gx_rev.specs.Objects.{commit_at}
use Rattle.gx_export.specs.Marks.{Adds}
use Rattle.gx_export.specs.Outputs.{Writes}
use Rattle.gx_export.specs.Parts.{commits_called}
use Rattle.gx_export.specs.Texts.{commit_lines, items_of, root_items}
use Rattle.gx_export.proofs.CommitTexts.{items_told, one_commit_parts, shown_as, some_unmarked}
use Rattle.gx_export.proofs.Numbering.{adds_later}
use Rattle.gx_export.proofs.Writing.{items_sooner, on_any}
use Rattle.gx_export.proofs.commit.write_unmarked.Goals as goal

pub returns-in_err-add_files-clause-adds : goal.returns-in_err-add_files-clause-adds
returns-in_err-add_files-clause-adds g c = λ ws h kept.
    let made = commit_at c.args.repo.now.1 c.args.commit.now in
    let ps = list_of (parents_of made) in
    let us = with_blobs ws (contents (files_of made)) in
    let blobs = items_of (blob_commands ws (contents (files_of made))) in
    let behind = root_items carrier (length ps) ++ commit_lines us (text_of made) ps (files_of made) in
    let p = err_from_is_err_and c.from_residual.result c.from_residual.ensures.1 in
    let fault = c.in_err-add_files.field-0.0 in
    rw (p.1, p.2) (subst (λ is. Writes c.args.written.now.output c.add_files.new.written.output (items_text is) (Err fault)) (sym (one_commit_parts ws made)) (items_sooner c.args.written.now.output c.add_files.new.written.output blobs behind fault (c.in_err-add_files.ensures.adds ws h kept)))

pub write_behind_blobs-requires : goal.write_behind_blobs-requires
write_behind_blobs-requires g c =
    let name = g.N.Namer.name_of c.args.repo.now.0 in
    let namer = g.met.N.Namer.is_namer c.args.repo.now.0 in
    let w = c.requires.written in
    record {
      parents = (shown_as name namer c.args.repo.now.1 c.sound.ensures c.args.commit.now.bytes c.view_of-view.result c.requires.held c.view_of-view.ensures).holds;
      written = (with_blobs w.0 (contents (files_of (commit_at c.args.repo.now.1 c.args.commit.now))), (c.in_ok-add_files.ensures.adds w.0 w.1 w.2).0);
    }

pub returns-clause-adds : goal.returns-clause-adds
returns-clause-adds g c = λ ws h kept.
    let name = g.N.Namer.name_of c.args.repo.now.0 in
    let namer = g.met.N.Namer.is_namer c.args.repo.now.0 in
    let r = c.args.repo.now.1 in
    let made = commit_at r c.args.commit.now in
    let old = c.args.written.now in
    let mid = c.add_files.new.written in
    let new = c.write_behind_blobs.new.written in
    let result = c.write_behind_blobs.result in
    let ps = list_of (parents_of made) in
    let us = with_blobs ws (contents (files_of made)) in
    let behind = root_items carrier (length ps) ++ commit_lines us (text_of made) ps (files_of made) in
    let s = shown_as name namer r c.sound.ensures c.args.commit.now.bytes c.view_of-view.result c.requires.held c.view_of-view.ensures in
    let first = c.in_ok-add_files.ensures.adds ws h kept in
    let text = c.deref.ensures.value ∙ c.in_ok-add_files.ensures.text ws h kept in
    let told = subst (λ is. Adds r us is mid new result) (items_told name namer r c.sound.ensures made c.view_of-view.result s us) (c.write_behind_blobs.ensures.adds us (files_of made) first.0 text) in
    subst (λ is. Adds r us is old new result) (sym (one_commit_parts ws made)) (adds_later r us us (items_of (blob_commands ws (contents (files_of made)))) behind old mid new result first told)

pub returns-clause-kept : goal.returns-clause-kept
returns-clause-kept g c = λ ws h kept. on_any c.write_behind_blobs.result _ (c.in_ok-add_files.ensures.kept ws h kept)

pub returns-clause-room : goal.returns-clause-room
returns-clause-room g c =
    let r = c.args.repo.now.1 in
    let made = commit_at r c.args.commit.now in
    let view = c.view_of-view.result in
    let w = c.requires.written in
    let us = with_blobs w.0 (contents (files_of made)) in
    let first = c.in_ok-add_files.ensures.adds w.0 w.1 w.2 in
    let text = c.deref.ensures.value ∙ c.in_ok-add_files.ensures.text w.0 w.1 w.2 in
    some_unmarked r us (length view.parents) view.text (commits_called r view.parents) (files_of made) c.add_files.new.written c.write_behind_blobs.new.written
    c.write_behind_blobs.result first.0 (c.write_behind_blobs.ensures.adds us (files_of made) first.0 text)
