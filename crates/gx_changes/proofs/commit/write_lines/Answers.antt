use Rattle.std.proofs.Common.{length, suc}
use Rattle.std.proofs.lemmas.Result.{err_from_is_err_and}
use Rattle.gx_model.specs.Changes.{named_in}
use Rattle.gx_export.specs.ChangedParts.{differing_lines}
use Rattle.gx_export.specs.Parts.{commits_called}
use Rattle.gx_export.specs.Texts.{head_items, parents_by, root_items}
use Rattle.gx_sending.specs.Files.{contents_at}
use Rattle.gx_changes.proofs.CommitLines.{head_stops, parents_stop, rest_out}
use Rattle.gx_changes.proofs.commit.write_lines.Goals as goal

pub returns-in_err-write_head : goal.returns-in_err-write_head
returns-in_err-write_head g c =
    let p = err_from_is_err_and c.from_residual.result c.from_residual.ensures.1 in
    let branch = c.args.branch.now in
    let commit = c.args.commit.now in
    let found = c.args.found.now in
    rw (p.1, p.2) (λ name r ws h s hold.
    head_stops r ws (root_items branch (length commit.parents)) (head_items branch (suc (length ws)) commit.text) (parents_by (named_in name ws) (commits_called r commit.parents)) (differing_lines ws found.gone.items (contents_at r found.files.items))
    c.args.written.now c.write_head.new.written c.in_err-write_head.field-0.0 (c.in_err-write_head.ensures r ws h))

pub returns-in_err-write_parents : goal.returns-in_err-write_parents
returns-in_err-write_parents g c =
    let p = err_from_is_err_and c.from_residual-in_err-write_parents.result c.from_residual-in_err-write_parents.ensures.1 in
    let branch = c.args.branch.now in
    let commit = c.args.commit.now in
    let found = c.args.found.now in
    rw (p.1, p.2) (λ name r ws h s hold.
    let head = c.in_ok-write_head.ensures r ws h in
    parents_stop r ws (root_items branch (length commit.parents)) (head_items branch (suc (length ws)) commit.text) (parents_by (named_in name ws) (commits_called r commit.parents)) (differing_lines ws found.gone.items (contents_at r found.files.items))
    c.args.written.now c.write_head.new.written head c.write_parents.new.written c.in_err-write_parents.field-0.0 (c.in_err-write_parents.ensures name r ws s.namer s.sound head.written hold))

pub returns : goal.returns
returns g c = λ name r ws h s hold.
    let branch = c.args.branch.now in
    let commit = c.args.commit.now in
    let found = c.args.found.now in
    let head = c.in_ok-write_head.ensures r ws h in
    let parents = c.in_ok-write_parents.ensures name r ws s.namer s.sound head.written hold in
    rest_out r ws (root_items branch (length commit.parents)) (head_items branch (suc (length ws)) commit.text) (parents_by (named_in name ws) (commits_called r commit.parents)) (differing_lines ws found.gone.items (contents_at r found.files.items))
    c.args.written.now c.write_head.new.written head c.write_parents.new.written c.write_differences.new.written c.write_differences.result parents (c.write_differences.ensures name r ws parents.written s)
