use Rattle.std.proofs.Common.{◌++◌, suc, length, Ok, Err}
use Rattle.std.proofs.lemmas.Result.{err_from_is_err_and}
use Rattle.gx_model.specs.Changes.{named_in}
use Rattle.gx_export.specs.Parts.{commits_called}
use Rattle.gx_export.specs.ChangedParts.{differing_lines}
use Rattle.gx_export.specs.Texts.{head_items, parents_by}
use Rattle.gx_export.proofs.Numbering.{adds_bytes, adds_head, adds_later}
use Rattle.gx_export.proofs.Writing.{items_sooner}
use Rattle.gx_export.proofs.changed_commit.write_lines.Goals as goal

pub returns-in_err-write_commit_head-clause-adds : goal.returns-in_err-write_commit_head-clause-adds
returns-in_err-write_commit_head-clause-adds g c = λ ws gone own h e.
    let r = c.args.repo.now.1 in
    let parts = c.args.commit.now in
    let old = c.args.written.now in
    let behind = parents_by (named_in (g.N.Namer.name_of c.args.repo.now.0) ws) (commits_called r parts.parents) ++ differing_lines ws gone own in
    let p = err_from_is_err_and c.from_residual.result c.from_residual.ensures.1 in
    let fault = c.in_err-write_commit_head.field-0.0 in
    rw (p.1, p.2) (items_sooner c.args.written.now.output c.write_commit_head.new.output (head_items c.args.branch.now (suc (length ws)) parts.text) behind fault (adds_head r ws c.args.branch.now parts.text old c.write_commit_head.new.output (Err fault) h c.in_err-write_commit_head.ensures.text))

pub write_named_parents-requires : goal.write_named_parents-requires
write_named_parents-requires g c =
    let w = c.requires.written in
    record { parents = c.requires.parents; written = (w.0, (adds_head c.args.repo.now.1 w.0 c.args.branch.now c.args.commit.now.text c.args.written.now c.write_commit_head.new.output (Ok tt) w.1 c.in_ok-write_commit_head.ensures.text).0) }

pub returns-in_err-write_named_parents-clause-adds : goal.returns-in_err-write_named_parents-clause-adds
returns-in_err-write_named_parents-clause-adds g c = λ ws gone own h e.
    let r = c.args.repo.now.1 in
    let parts = c.args.commit.now in
    let old = c.args.written.now in
    let mid = record old { output = c.write_commit_head.new.output } in
    let parents = parents_by (named_in (g.N.Namer.name_of c.args.repo.now.0) ws) (commits_called r parts.parents) in
    let changes = differing_lines ws gone own in
    let head = adds_head r ws c.args.branch.now parts.text old c.write_commit_head.new.output (Ok tt) h c.in_ok-write_commit_head.ensures.text in
    let p = err_from_is_err_and c.from_residual-in_err-write_named_parents.result c.from_residual-in_err-write_named_parents.ensures.1 in
    let fault = c.in_err-write_named_parents.field-0.0 in
    rw (p.1, p.2) (adds_later r ws ws (head_items c.args.branch.now (suc (length ws)) parts.text) (parents ++ changes) old mid c.write_named_parents.new.written (Err fault) head (items_sooner c.write_commit_head.new.output c.write_named_parents.new.written.output parents changes fault (c.in_err-write_named_parents.ensures.adds ws head.0)))

pub returns-clause-adds : goal.returns-clause-adds
returns-clause-adds g c = λ ws gone own h e.
    let r = c.args.repo.now.1 in
    let parts = c.args.commit.now in
    let old = c.args.written.now in
    let mid = record old { output = c.write_commit_head.new.output } in
    let last = c.write_named_parents.new.written in
    let new = record last { output = c.write_differing.new.output } in
    let parents = parents_by (named_in (g.N.Namer.name_of c.args.repo.now.0) ws) (commits_called r parts.parents) in
    let changes = differing_lines ws gone own in
    let head = adds_head r ws c.args.branch.now parts.text old c.write_commit_head.new.output (Ok tt) h c.in_ok-write_commit_head.ensures.text in
    let elders = c.in_ok-write_named_parents.ensures.adds ws head.0 in
    adds_later r ws ws (head_items c.args.branch.now (suc (length ws)) parts.text) (parents ++ changes) old mid new c.write_differing.result head
    (adds_later r ws ws parents changes mid last new c.write_differing.result elders (adds_bytes r ws changes last c.write_differing.new.output c.write_differing.result elders.0 (c.write_differing.ensures.text ws gone own e)))
