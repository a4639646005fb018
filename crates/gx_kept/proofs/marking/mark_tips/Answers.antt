use Rattle.std.proofs.Common.{◌≡◌, length, refl, sym, subst, arith}
use Rattle.std.specs.List.{AllByRecursion}
use Rattle.std.proofs.lemmas.Result.{err_from_is_err_and}
use Rattle.gx_repo.specs.Pruning.{objects_held}
use Rattle.gx_kept.specs.Marking.{IsBelow}
use Rattle.gx_kept.proofs.MarkedTips.{fault_is, rest_shorter, tip_marked, tip_refused, tips_begun, tips_done}
use Rattle.gx_kept.proofs.marking.mark_tips.Goals as goal

pub loop-change-init : goal.loop-change-init
loop-change-init g c = (refl, λ refs are e. tips_begun c.args.listing.now refs c.args.marks.now c.args.lines.now are e)

pub returns-in_err-mark_below-clause-marks : goal.returns-in_err-mark_below-clause-marks
returns-in_err-mark_below-clause-marks g c =
    let p = err_from_is_err_and c.from_residual.result c.from_residual.ensures.1 in
    rw p.1 (λ refs are e. tt)

pub returns-in_err-mark_below-clause-refused : goal.returns-in_err-mark_below-clause-refused
returns-in_err-mark_below-clause-refused g c =
    let p = err_from_is_err_and c.from_residual.result c.from_residual.ensures.1 in
    let listed = c.args.listing.now in
    let change = c.in-Ok.change in
    let count : length listed ≡ c.len.result = sym c.len.ensures in
    rw p.1 (λ refs are e all. tip_refused listed refs c.args.marks.now c.loop-change.rest.now c.loop-change.marks (c.loop-change.invariant.1 refs are e) (change.name.now, change.target.bytes) c.in-Ok.behind.now c.in-Ok.ensures.change c.len.result
    c.in_err-mark_below.ensures.refused (subst (λ n. AllByRecursion (IsBelow listed n) (objects_held refs)) count all))

pub loop-change-preserved : goal.loop-change-preserved
loop-change-preserved g c =
    let change = c.in-Ok.change in (
      omega (arith, c.loop-change.invariant.0, c.mark_below.ensures.same_room),
      λ refs are e. tip_marked c.args.listing.now refs c.args.marks.now c.loop-change.rest.now c.loop-change.marks (c.loop-change.invariant.1 refs are e) (change.name.now, change.target.bytes) c.in-Ok.behind.now c.in-Ok.ensures.change
          c.mark_below.new.marks c.in_ok-mark_below.ensures.marks,
    )

pub loop-change-smaller : goal.loop-change-smaller
loop-change-smaller g c = rest_shorter c.loop-change.rest.now _ c.in-Ok.ensures.change

pub returns-clause-marks : goal.returns-clause-marks
returns-clause-marks g c = λ refs are e.
    tips_done c.args.listing.now refs c.args.marks.now c.loop-change.rest.now c.loop-change.marks (c.loop-change.invariant.1 refs are e) _ (fault_is _ _ c.in_default.ensures.memory c.in_default.ensures.change)
