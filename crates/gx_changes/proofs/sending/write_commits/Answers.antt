use Rattle.std.proofs.Common.{◌≡◌, ◌-◌, ◌<◌, ◌≤◌, ℕ, suc, [], arith, length, get_or, subst}
use Rattle.std.specs.Prelude.{IfSome}
use Rattle.std.proofs.lemmas.Result.{err_from_is_err_and}
use Rattle.gx_object.specs.declared.name.Name.{Name}
use Rattle.gx_changes.proofs.Texts.{SentFrom, one_more_told, one_stops_told}
use Rattle.gx_changes.proofs.Told.{got}
use Rattle.gx_changes.proofs.sending.write_commits.Goals as goal

pub loop-left-preserved : goal.loop-left-preserved
loop-left-preserved g c =
    let o = c.args.objects.now in
    let name = g.O.Objects.name_of o in
    let told = g.O.Objects.told o in
    let commits = c.args.commits.now in
    let left = c.loop-left.left in
    let some = c.loop-left-test.true in
    let bound = c.loop-left.invariant.within in
    let within : left - 1 < length commits = omega (arith, some, bound) in
    let step : left ≡ suc (left - 1) = omega (arith, some) in
    let none : Name = record { bytes = [] } in
    let before = subst (λ n. IfSome told (SentFrom name commits c.args.branches.now c.args.written.now c.loop-left.written n)) step c.loop-left.invariant.sent in
    record {
      within = omega (arith, bound);
      sent = one_more_told name commits c.args.branches.now c.args.written.now (left - 1) (get_or commits (left - 1) none) within (got commits (left - 1) none within) c.of-branch.result.now c.of-branch.ensures c.loop-left.written c.write_commit.new.written told before c.in_ok-write_commit.ensures.adds;
    }

pub returns-in_err-write_commit-clause-adds : goal.returns-in_err-write_commit-clause-adds
returns-in_err-write_commit-clause-adds g c =
    let o = c.args.objects.now in
    let name = g.O.Objects.name_of o in
    let told = g.O.Objects.told o in
    let commits = c.args.commits.now in
    let left = c.loop-left.left in
    let some = c.loop-left-test.true in
    let bound = c.loop-left.invariant.within in
    let within : left - 1 < length commits = omega (arith, some, bound) in
    let step : left ≡ suc (left - 1) = omega (arith, some) in
    let none : Name = record { bytes = [] } in
    let before = subst (λ n. IfSome told (SentFrom name commits c.args.branches.now c.args.written.now c.loop-left.written n)) step c.loop-left.invariant.sent in
    let p = err_from_is_err_and c.from_residual.result c.from_residual.ensures.1 in
    rw (p.1, p.2) (one_stops_told name commits c.args.branches.now c.args.written.now (left - 1) (get_or commits (left - 1) none) within (got commits (left - 1) none within) c.of-branch.result.now c.of-branch.ensures c.loop-left.written c.write_commit.new.written told
    c.in_err-write_commit.field-0.0 before c.in_err-write_commit.ensures.adds)
