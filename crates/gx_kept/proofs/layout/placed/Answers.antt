use Rattle.std.proofs.Common.{arith, subst, sym}
use Rattle.std.specs.Prelude.{◌+◌}
use Rattle.gx_listed.specs.Listings.{Listed}
use Rattle.gx_kept.proofs.LaidMarks.{AreLaid, first_is, none_laid, one_laid, past_laid, placed_is, some_at}
use Rattle.gx_kept.proofs.layout.placed.Goals as goal
use Rattle.gx_kept.proofs.layout.placed.Goals.{then-marks-number+in-Some-get+in-Some-record_end+in_ok-push, else-marks-number}

pub loop-number-init : goal.loop-number-init
loop-number-init g c = λ records heads.
    subst (λ rows. AreLaid c.args.listing.now c.args.marks.now c.in-Some.first records 0 rows c.in-Some.first) (sym c.new-rows.ensures.items)
    (none_laid c.args.listing.now c.args.marks.now c.in-Some.first records heads)

pub loop-number-preserved : goal.loop-number-preserved
loop-number-preserved g c =
    let listed = c.args.listing.now in
    let marks = c.args.marks.now in
    let first = c.in-Some.first in
    let l = c.loop-number in
    let there = some_at listed l.number (omega (arith, c.loop-number-test.true, c.len-number-end.ensures)) in
    elim c.if-marks-number.branch [
      | then-marks-number+in-Some-get+in-Some-record_end+in_ok-push w ↦
          let one : Listed = (w.in-Some-get.name, w.in-Some-get.standing) in
          let behind = w.in-Some-record_end.behind in
          rw (w.rows-is, w.place-is) (λ records heads.
          subst (λ rows. AreLaid listed marks first records (l.number + 1) rows behind) (sym w.in_ok-push.ensures.items)
          (one_laid listed marks first records l.number l.rows.items l.place (l.invariant records heads) one (sym w.in-Some-get.ensures) behind w.if-marks-number.true w.in-Some-record_end.ensures))
      | else-marks-number w ↦
          rw (w.rows-is, w.place-is) (λ records heads.
          past_laid listed marks first records l.number l.rows.items l.place (l.invariant records heads) there.0 there.1 w.if-marks-number.false)
    ]

pub returns : goal.returns
returns g c = λ records heads.
    let listed = c.args.listing.now in
    let marks = c.args.marks.now in
    let first = first_is listed marks records c.in-Some.first c.count_marks.result c.requires.long heads c.count_marks.ensures c.in-Some.ensures in
    placed_is listed marks records c.in-Some.first c.loop-number.number c.loop-number.rows.items c.loop-number.place first (c.loop-number.invariant records heads) (omega (arith, c.loop-number-test.false, c.len-number-end.ensures))
