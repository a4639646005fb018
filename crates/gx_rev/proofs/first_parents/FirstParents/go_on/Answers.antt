use Rattle.std.proofs.Common.{◌≡◌, ◌<◌, ◌+◌, ◌-◌, Some, arith, length, subst, sym}
use Rattle.std.proofs.lemmas.Result.{err_from_is_err_and}
use Rattle.std.specs.List.{slice_get}
use Rattle.gx_model.specs.Revisions.Denotation.{nth_ancestor, nth_parent}
use Rattle.gx_rev.specs.FirstParents.{IsFirstParentWalk}
use Rattle.gx_rev.specs.Objects.{commit_at}
use Rattle.gx_rev.specs.RevFaults.{fault_of}
use Rattle.gx_rev.proofs.Answers.{fails_first}
use Rattle.gx_rev.proofs.FirstParentWalks.{front_stays, got_at, not_empty, walk_more, walk_on}
use Rattle.gx_rev.proofs.first_parents.FirstParents.go_on.Goals as goal

pub parent_of-requires : goal.parent_of-requires
parent_of-requires g c =
    let r = c.args.repo.now.1 in
    let first = c.args.commit.now in
    let names = c.loop-self.self.names.items in
    let inv = c.loop-self.invariant in
    let n = c.len-in-loop-self.result - 1 in
    let last = c.index.result.now in
    let some = not_empty names first inv.first in
    let long = c.len-in-loop-self.ensures in
    let at = got_at names n last (omega (arith, some, long)) c.index.ensures in
    (inv.walk first last n inv.first at).0

pub returns-in_err-parent-clause-ancestor : goal.returns-in_err-parent-clause-ancestor
returns-in_err-parent-clause-ancestor g c =
    let r = c.args.repo.now.1 in
    let first = c.args.commit.now in
    let names = c.loop-self.self.names.items in
    let inv = c.loop-self.invariant in
    let n = c.len-in-loop-self.result - 1 in
    let last = c.index.result.now in
    let some = not_empty names first inv.first in
    let long = c.len-in-loop-self.ensures in
    let at = got_at names n last (omega (arith, some, long)) c.index.ensures in
    let number = c.args.number in
    let p = err_from_is_err_and c.from_residual.result c.from_residual.ensures.1 in
    let within : n < number = omega (arith, some, long, c.len.ensures, c.loop-self-test.true) in
    rw (p.1, p.2) (fails_first (fault_of c.in_err-parent.field-0.0) (nth_parent 1 (commit_at r last)) (nth_ancestor (number - n - 1)) (nth_ancestor number (commit_at r first)) (walk_on r names first last n number inv.first at within inv.walk) c.in_err-parent.ensures.parent)

pub loop-self-preserved : goal.loop-self-preserved
loop-self-preserved g c =
    let r = c.args.repo.now.1 in
    let first = c.args.commit.now in
    let names = c.loop-self.self.names.items in
    let inv = c.loop-self.invariant in
    let n = c.len-in-loop-self.result - 1 in
    let last = c.index.result.now in
    let some = not_empty names first inv.first in
    let long = c.len-in-loop-self.ensures in
    let at = got_at names n last (omega (arith, some, long)) c.index.ensures in
    let parent = c.in_ok-parent.parent in
    let count : length names ≡ n + 1 = omega (arith, some, long) in
    record {
      walk = subst (IsFirstParentWalk r) (sym c.in_ok-push.ensures.items) (walk_more r names first last parent n inv.first at count c.in_ok-parent.ensures.held c.in_ok-parent.ensures.parent inv.walk);
      first = subst (λ xs. slice_get xs 0 ≡ Some first) (sym c.in_ok-push.ensures.items) (front_stays names first parent inv.first);
    }

pub returns-in_err-push-clause-walk : goal.returns-in_err-push-clause-walk
returns-in_err-push-clause-walk g c = subst (IsFirstParentWalk c.args.repo.now.1) (sym c.in_err-push.ensures.items) c.loop-self.invariant.walk

pub returns-clause-ancestor : goal.returns-clause-ancestor
returns-clause-ancestor g c =
    let names = c.loop-self.self.names.items in
    let at = got_at names c.args.number c.index-2.result.now (omega (arith, c.len.ensures, c.loop-self-test.false)) c.index-2.ensures in
    (c.loop-self.invariant.walk c.args.commit.now c.index-2.result.now c.args.number c.loop-self.invariant.first at).1

pub returns-clause-held : goal.returns-clause-held
returns-clause-held g c =
    let names = c.loop-self.self.names.items in
    let at = got_at names c.args.number c.index-2.result.now (omega (arith, c.len.ensures, c.loop-self-test.false)) c.index-2.ensures in
    (c.loop-self.invariant.walk c.args.commit.now c.index-2.result.now c.args.number c.loop-self.invariant.first at).0
