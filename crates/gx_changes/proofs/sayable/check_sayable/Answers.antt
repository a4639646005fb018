use Rattle.std.proofs.Common.{◌≡◌, ◌-◌, ◌<◌, [], arith, length, get_or}
use Rattle.std.proofs.lemmas.Result.{err_from_is_err_and}
use Rattle.gx_object.specs.declared.name.Name.{Name}
use Rattle.gx_changes.proofs.SayableCommits.{one_unsaid}
use Rattle.gx_changes.proofs.Told.{got}
use Rattle.gx_changes.proofs.sayable.check_sayable.Goals as goal

pub returns-in_err-check_commit : goal.returns-in_err-check_commit
returns-in_err-check_commit g c =
    let commits = c.args.commits.now in
    let left = c.loop-left.left in
    let some = c.loop-left-test.true in
    let bound = c.loop-left.invariant.within in
    let within : left - 1 < length commits = omega (arith, some, bound) in
    let none : Name = record { bytes = [] } in
    let p = err_from_is_err_and c.from_residual.result c.from_residual.ensures.1 in
    rw (p.1, p.2) (one_unsaid commits (left - 1) (get_or commits (left - 1) none) within (got commits (left - 1) none within) (g.O.Objects.told c.args.objects.now) c.in_err-check_commit.field-0.0 c.in_err-check_commit.ensures)
