use Rattle.std.proofs.Common.{◌<◌, ◌≤◌, length, arith}
use Rattle.std.proofs.lemmas.Result.{err_from_is_err_and}
use Rattle.gx_export.proofs.CommitLines.{none_at}
use Rattle.gx_sending.proofs.Sending.{adds_nothing}
use Rattle.gx_changes.proofs.Parents.{all_parents, next_parent, parent_fails}
use Rattle.gx_changes.proofs.commit.write_parents.Goals as goal
use Rattle.gx_changes.proofs.commit.write_parents.Goals.{in-Some+in_ok-write_parent, in_default}

pub loop-number-init : goal.loop-number-init
loop-number-init g c = λ name r ws n s h p. adds_nothing r ws c.args.written.now h

pub returns-in_err-write_parent : goal.returns-in_err-write_parent
returns-in_err-write_parent g c =
    let p = err_from_is_err_and c.from_residual.result c.from_residual.ensures.1 in
    rw (p.1, p.2) (parent_fails c.args.commit.now c.args.written.now c.loop-number.number c.loop-number.written c.loop-number.invariant c.in-Some.parent c.in-Some.ensures c.commit_ish-named.result c.commit_ish-named.ensures c.parent_word.result.now c.parent_word.ensures.first c.parent_word.ensures.other
    c.write_parent.new.output c.in_err-write_parent.field-0.0 c.in_err-write_parent.ensures.text)

pub loop-number-preserved : goal.loop-number-preserved
loop-number-preserved g c =
    elim c.match-parent.branch [
      | in-Some+in_ok-write_parent w ↦
          rw w.written-is (next_parent c.args.commit.now c.args.written.now c.loop-number.number c.loop-number.written c.loop-number.invariant w.in-Some.parent w.in-Some.ensures w.commit_ish-named.result w.commit_ish-named.ensures w.parent_word.result.now w.parent_word.ensures.first w.parent_word.ensures.other
          w.write_parent.new.output w.in_ok-write_parent.ensures.text)
      | in_default w ↦
          let within : c.loop-number.number < length c.args.commit.now.parents = omega (arith, c.loop-number-test.true, c.parent_count-number-end.ensures) in
          absurd (none_at c.args.commit.now.parents c.loop-number.number within w.in_default.ensures)
    ]

pub returns : goal.returns
returns g c =
    let all : length c.args.commit.now.parents ≤ c.loop-number.number = omega (arith, c.loop-number-test.false, c.parent_count-number-end.ensures) in
    all_parents c.args.commit.now c.args.written.now c.loop-number.number c.loop-number.written c.loop-number.invariant all
