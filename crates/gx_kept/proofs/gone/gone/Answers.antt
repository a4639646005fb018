use Rattle.std.proofs.Common.{◌≡◌, ◌+◌, ◌*◌, ◌≤◌, arith, rules}
use Rattle.gx_kept.proofs.GoneObjects.{all_gone, all_weighed, none_gone, one_gone, one_stays}
use Rattle.gx_kept.proofs.ListedRecords.{one_listed}
use Rattle.gx_kept.proofs.gone.gone.Goals.{else-not-marks-number, then-not-marks-number+in-Some}
use Rattle.gx_kept.proofs.gone.gone.Goals as goal

pub loop-number-init : goal.loop-number-init
loop-number-init g c = (none_gone c.args.listing.now c.args.marks.now, omega arith, omega arith)

pub loop-number-preserved : goal.loop-number-preserved
loop-number-preserved g c =
    let listed = c.args.listing.now in
    let marks = c.args.marks.now in
    let i = c.loop-number.number in
    let objects = c.loop-number.objects in
    let bytes = c.loop-number.bytes in
    let there = one_listed listed i (omega (arith, c.loop-number-test.true, c.len-number-end.ensures)) in
    elim c.if-not-marks-number.branch [
      | then-not-marks-number+in-Some w ↦ rw (w.objects-is, w.bytes-is) (
        one_gone listed marks i objects bytes c.loop-number.invariant.0 _ w.in-Some.ensures w.if-not-marks-number.true,
        omega (arith, c.loop-number.invariant.1),
        search (rules, c.loop-number.invariant.2),
      )
      | else-not-marks-number w ↦ rw (w.objects-is, w.bytes-is) (one_stays listed marks i objects bytes c.loop-number.invariant.0 there.0 there.1 w.if-not-marks-number.false, omega (arith, c.loop-number.invariant.1), omega (arith, c.loop-number.invariant.2))
    ]

pub returns-clause-objects : goal.returns-clause-objects
returns-clause-objects g c =
    all_gone c.args.listing.now c.args.marks.now c.loop-number.number c.loop-number.objects c.loop-number.bytes c.loop-number.invariant.0 (omega (arith, c.loop-number-test.false, c.len-number-end.ensures)) (omega (arith, c.loop-number.auto.number-end, c.len-number-end.ensures))

pub returns-clause-bytes : goal.returns-clause-bytes
returns-clause-bytes g c =
    all_weighed c.args.listing.now c.args.marks.now c.loop-number.number c.loop-number.objects c.loop-number.bytes c.loop-number.invariant.0 (omega (arith, c.loop-number-test.false, c.len-number-end.ensures)) (omega (arith, c.loop-number.auto.number-end, c.len-number-end.ensures))
