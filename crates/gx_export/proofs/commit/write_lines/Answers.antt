use Rattle.std.proofs.Common.{◌++◌, suc, length, Ok, Err}
use Rattle.std.proofs.lemmas.Result.{err_from_is_err_and}
use Rattle.gx_model.specs.Export.{carrier}
use Rattle.gx_export.specs.Parts.{commits_called}
use Rattle.gx_export.specs.Texts.{change_lines, head_items, parent_items}
use Rattle.gx_export.proofs.Numbering.{adds_bytes, adds_head, adds_later}
use Rattle.gx_export.proofs.Writing.{items_sooner}
use Rattle.gx_export.proofs.commit.write_lines.Goals as goal

pub returns-in_err-write_commit_head-clause-adds : goal.returns-in_err-write_commit_head-clause-adds
returns-in_err-write_commit_head-clause-adds g c = λ ws files h e.
    let r = c.args.repo.now.1 in
    let parts = c.args.commit.now in
    let old = c.args.written.now in
    let behind = parent_items ws (commits_called r parts.parents) ++ change_lines ws files in
    let p = err_from_is_err_and c.from_residual.result c.from_residual.ensures.1 in
    let fault = c.in_err-write_commit_head.field-0.0 in
    rw (p.1, p.2) (items_sooner c.args.written.now.output c.write_commit_head.new.output (head_items carrier (suc (length ws)) parts.text) behind fault (adds_head r ws carrier parts.text old c.write_commit_head.new.output (Err fault) h c.in_err-write_commit_head.ensures.text))

pub write_parents-requires : goal.write_parents-requires
write_parents-requires g c =
    let w = c.requires.written in
    record { parents = c.requires.parents; written = (w.0, (adds_head c.args.repo.now.1 w.0 carrier c.args.commit.now.text c.args.written.now c.write_commit_head.new.output (Ok tt) w.1 c.in_ok-write_commit_head.ensures.text).0) }

pub returns-in_err-write_parents-clause-adds : goal.returns-in_err-write_parents-clause-adds
returns-in_err-write_parents-clause-adds g c = λ ws files h e.
    let r = c.args.repo.now.1 in
    let parts = c.args.commit.now in
    let old = c.args.written.now in
    let mid = record old { output = c.write_commit_head.new.output } in
    let parents = parent_items ws (commits_called r parts.parents) in
    let changes = change_lines ws files in
    let head = adds_head r ws carrier parts.text old c.write_commit_head.new.output (Ok tt) h c.in_ok-write_commit_head.ensures.text in
    let p = err_from_is_err_and c.from_residual-in_err-write_parents.result c.from_residual-in_err-write_parents.ensures.1 in
    let fault = c.in_err-write_parents.field-0.0 in
    rw (p.1, p.2) (adds_later r ws ws (head_items carrier (suc (length ws)) parts.text) (parents ++ changes) old mid c.write_parents.new.written (Err fault) head (items_sooner c.write_commit_head.new.output c.write_parents.new.written.output parents changes fault (c.in_err-write_parents.ensures.adds ws head.0)))

pub returns-clause-adds : goal.returns-clause-adds
returns-clause-adds g c = λ ws files h e.
    let r = c.args.repo.now.1 in
    let parts = c.args.commit.now in
    let old = c.args.written.now in
    let mid = record old { output = c.write_commit_head.new.output } in
    let last = c.write_parents.new.written in
    let new = record last { output = c.write_files.new.output } in
    let parents = parent_items ws (commits_called r parts.parents) in
    let changes = change_lines ws files in
    let head = adds_head r ws carrier parts.text old c.write_commit_head.new.output (Ok tt) h c.in_ok-write_commit_head.ensures.text in
    let elders = c.in_ok-write_parents.ensures.adds ws head.0 in
    adds_later r ws ws (head_items carrier (suc (length ws)) parts.text) (parents ++ changes) old mid new c.write_files.result head
    (adds_later r ws ws parents changes mid last new c.write_files.result elders (adds_bytes r ws changes last c.write_files.new.output c.write_files.result elders.0 (c.write_files.ensures.text ws files e)))
