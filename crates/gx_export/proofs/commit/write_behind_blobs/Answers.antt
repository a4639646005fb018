use Rattle.std.proofs.Common.{length, Ok}
use Rattle.std.proofs.lemmas.Result.{err_from_is_err_and}
use Rattle.gx_model.specs.Export.{carrier}
use Rattle.gx_export.specs.Parts.{commits_called}
use Rattle.gx_export.specs.Texts.{commit_lines, root_items}
use Rattle.gx_export.proofs.Numbering.{adds_bytes, adds_later}
use Rattle.gx_export.proofs.Writing.{items_sooner}
use Rattle.gx_export.proofs.commit.write_behind_blobs.Goals as goal

pub returns-in_err-write_root-clause-adds : goal.returns-in_err-write_root-clause-adds
returns-in_err-write_root-clause-adds g c = λ ws files h e.
    let parts = c.args.commit.now in
    let lines = commit_lines ws parts.text (commits_called c.args.repo.now.1 parts.parents) files in
    let p = err_from_is_err_and c.from_residual.result c.from_residual.ensures.1 in
    rw (p.1, p.2) (items_sooner c.args.written.now.output c.write_root.new.output (root_items carrier (length parts.parents)) lines c.in_err-write_root.field-0.0 c.in_err-write_root.ensures.text)

pub write_lines-requires : goal.write_lines-requires
write_lines-requires g c =
    let w = c.requires.written in
    let root = root_items carrier (length c.args.commit.now.parents) in
    record { parents = c.requires.parents; written = (w.0, (adds_bytes c.args.repo.now.1 w.0 root c.args.written.now c.write_root.new.output (Ok tt) w.1 c.in_ok-write_root.ensures.text).0) }

pub returns-clause-adds : goal.returns-clause-adds
returns-clause-adds g c = λ ws files h e.
    let r = c.args.repo.now.1 in
    let parts = c.args.commit.now in
    let old = c.args.written.now in
    let mid = record old { output = c.write_root.new.output } in
    let root = root_items carrier (length parts.parents) in
    let lines = commit_lines ws parts.text (commits_called r parts.parents) files in
    let first = adds_bytes r ws root old c.write_root.new.output (Ok tt) h c.in_ok-write_root.ensures.text in
    adds_later r ws ws root lines old mid c.write_lines.new.written c.write_lines.result first (c.write_lines.ensures.adds ws files first.0 e)
