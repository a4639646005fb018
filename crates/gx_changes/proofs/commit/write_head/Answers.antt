use Rattle.std.proofs.Common.{length}
use Rattle.std.proofs.lemmas.Result.{err_from_is_err_and}
use Rattle.gx_changes.proofs.CommitLines.{head_fails, head_out, root_fails}
use Rattle.gx_changes.proofs.commit.write_head.Goals as goal

pub returns-in_err-write_root : goal.returns-in_err-write_root
returns-in_err-write_root g c =
    let p = err_from_is_err_and c.from_residual.result c.from_residual.ensures.1 in
    let commit = c.args.commit.now in
    rw (p.1, p.2) (root_fails c.args.branch.now (length commit.parents) commit.text c.args.written.now c.write_root.new.output c.in_err-write_root.field-0.0 c.in_err-write_root.ensures.text)

pub returns-in_err-write_commit_head : goal.returns-in_err-write_commit_head
returns-in_err-write_commit_head g c =
    let p = err_from_is_err_and c.from_residual-in_err-write_commit_head.result c.from_residual-in_err-write_commit_head.ensures.1 in
    let commit = c.args.commit.now in
    rw (p.1, p.2) (head_fails c.args.branch.now (length commit.parents) commit.text c.args.written.now c.write_root.new.output c.in_ok-write_root.ensures.text c.next_mark-mark.result c.next_mark-mark.ensures c.write_commit_head.new.output c.in_err-write_commit_head.field-0.0 c.in_err-write_commit_head.ensures.text)

pub returns : goal.returns
returns g c =
    let commit = c.args.commit.now in
    head_out c.args.branch.now (length commit.parents) commit.text c.args.written.now c.write_root.new.output c.in_ok-write_root.ensures.text c.next_mark-mark.result c.next_mark-mark.ensures c.write_commit_head.new.output c.in_ok-write_commit_head.ensures.text
