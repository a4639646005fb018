use Rattle.std.proofs.Common.{◌++◌, length, sym, subst, Err}
use Rattle.std.proofs.lemmas.Result.{err_from_is_err_and}
use Rattle.gx_model.specs.Changes.{named_in, own_files}
use Rattle.gx_model.specs.Export.{blob_commands, contents, items_text, with_blobs}
use Rattle.gx_model.specs.Histories.Values.{list_of, parents_of, text_of}
use Rattle.gx_rev.specs.Objects.{commit_at}
use Rattle.gx_export.specs.Marks.{Adds}
use Rattle.gx_export.specs.Outputs.{Writes}
use Rattle.gx_export.specs.Parts.{commits_called}
use Rattle.gx_export.specs.ChangedParts.{lines_on}
use Rattle.gx_export.specs.Texts.{items_of, root_items}
use Rattle.gx_export.proofs.ChangedTexts.{gone_of, items_told_on, lines_found, one_on_parts, some_unmarked_on}
use Rattle.gx_export.proofs.CommitTexts.{shown_as}
use Rattle.gx_export.proofs.Numbering.{adds_later}
use Rattle.gx_export.proofs.Writing.{items_sooner, on_any}
use Rattle.gx_export.proofs.changed_commit.write_unmarked.Goals as goal

pub returns-in_err-add_changes-clause-adds : goal.returns-in_err-add_changes-clause-adds
returns-in_err-add_changes-clause-adds g c = λ ws h kept.
    let made = commit_at c.args.repo.now.1 c.args.commit.now in
    let ps = list_of (parents_of made) in
    let us = with_blobs ws (contents (own_files made)) in
    let blobs = items_of (blob_commands ws (contents (own_files made))) in
    let behind = root_items c.args.branch.now (length ps) ++ lines_on c.args.branch.now (named_in (g.N.Namer.name_of c.args.repo.now.0) us) us (text_of made) ps (gone_of made) (own_files made) in
    let p = err_from_is_err_and c.from_residual.result c.from_residual.ensures.1 in
    let fault = c.in_err-add_changes.field-0.0 in
    rw (p.1, p.2) (subst (λ is. Writes c.args.written.now.output c.add_changes.new.written.output (items_text is) (Err fault)) (sym (one_on_parts (g.N.Namer.name_of c.args.repo.now.0) c.args.branch.now ws made)) (items_sooner c.args.written.now.output c.add_changes.new.written.output blobs behind fault (c.in_err-add_changes.ensures ws h kept)))

pub write_behind_blobs-requires : goal.write_behind_blobs-requires
write_behind_blobs-requires g c =
    let name = g.N.Namer.name_of c.args.repo.now.0 in
    let namer = g.met.N.Namer.is_namer c.args.repo.now.0 in
    let w = c.requires.written in
    record {
      parents = (shown_as name namer c.args.repo.now.1 c.sound.ensures c.args.commit.now.bytes c.view_of-view.result c.requires.held c.view_of-view.ensures).holds;
      written = (with_blobs w.0 (contents (own_files (commit_at c.args.repo.now.1 c.args.commit.now))), (c.in_ok-add_changes.ensures w.0 w.1 w.2).adds.0);
    }

pub returns-clause-adds : goal.returns-clause-adds
returns-clause-adds g c = λ ws h kept.
    let name = g.N.Namer.name_of c.args.repo.now.0 in
    let namer = g.met.N.Namer.is_namer c.args.repo.now.0 in
    let r = c.args.repo.now.1 in
    let made = commit_at r c.args.commit.now in
    let old = c.args.written.now in
    let mid = c.add_changes.new.written in
    let new = c.write_behind_blobs.new.written in
    let result = c.write_behind_blobs.result in
    let ps = list_of (parents_of made) in
    let us = with_blobs ws (contents (own_files made)) in
    let behind = root_items c.args.branch.now (length ps) ++ lines_on c.args.branch.now (named_in (g.N.Namer.name_of c.args.repo.now.0) us) us (text_of made) ps (gone_of made) (own_files made) in
    let s = shown_as name namer r c.sound.ensures c.args.commit.now.bytes c.view_of-view.result c.requires.held c.view_of-view.ensures in
    let found = c.in_ok-add_changes.ensures ws h kept in
    let first = found.adds in
    let told = subst (λ is. Adds r us is mid new result) (items_told_on name namer r c.sound.ensures c.args.branch.now made c.view_of-view.result s us) (c.write_behind_blobs.ensures.adds us (gone_of made) (own_files made) first.0 (lines_found us made c.add_changes.new.changes found.gone found.files)) in
    subst (λ is. Adds r us is old new result) (sym (one_on_parts (g.N.Namer.name_of c.args.repo.now.0) c.args.branch.now ws made)) (adds_later r us us (items_of (blob_commands ws (contents (own_files made)))) behind old mid new result first told)

pub returns-clause-kept : goal.returns-clause-kept
returns-clause-kept g c = λ ws h kept. on_any c.write_behind_blobs.result _ ((c.in_ok-add_changes.ensures ws h kept).kept)

pub returns-clause-room : goal.returns-clause-room
returns-clause-room g c =
    let r = c.args.repo.now.1 in
    let made = commit_at r c.args.commit.now in
    let view = c.view_of-view.result in
    let w = c.requires.written in
    let us = with_blobs w.0 (contents (own_files made)) in
    let found = c.in_ok-add_changes.ensures w.0 w.1 w.2 in
    let first = found.adds in
    some_unmarked_on r c.args.branch.now (named_in (g.N.Namer.name_of c.args.repo.now.0) us) us (length view.parents) view.text (commits_called r view.parents) (gone_of made) (own_files made) c.add_changes.new.written c.write_behind_blobs.new.written
    c.write_behind_blobs.result first.0 (c.write_behind_blobs.ensures.adds us (gone_of made) (own_files made) first.0 (lines_found us made c.add_changes.new.changes found.gone found.files))
