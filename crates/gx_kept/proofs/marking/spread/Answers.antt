use Rattle.std.proofs.Common.{◌≡◌, ◌+◌, ◌-◌, length, refl, sym, subst, arith}
use Rattle.std.specs.Prelude.{IfSome}
use Rattle.gx_kept.proofs.Spreading.{SpreadFrom, all_listed, spread_begun, spread_done, spread_more, spread_same, within_told}
use Rattle.gx_kept.proofs.marking.spread.Goals as goal

pub loop-left-init : goal.loop-left-init
loop-left-init g c =
    let told = g.O.Objects.told c.args.objects.now in
    let same = all_listed (g.O.Objects.stands c.args.objects.now) told c.args.listing.now c.requires.listed in
    (refl, omega arith, spread_begun told (length c.args.marks.now) c.args.marks.now (subst (λ n. IfSome told (λ r. n ≡ length r.records)) (sym c.requires.long) same))

pub loop-left-preserved-in-Continue-1 : goal.loop-left-preserved-in-Continue-1
loop-left-preserved-in-Continue-1 g c =
    let told = g.O.Objects.told c.args.objects.now in
    let same = all_listed (g.O.Objects.stands c.args.objects.now) told c.args.listing.now c.requires.listed in
    let k = c.loop-left.left - 1 in
    let next : c.loop-left.left ≡ k + 1 = omega (arith, c.loop-left-test.true) in
    let within = within_told told (length c.args.listing.now) k same (omega (arith, c.loop-left.invariant.0, c.loop-left.invariant.1, c.loop-left-test.true, c.requires.long)) in
    let so_far = subst (λ n. IfSome told (SpreadFrom c.args.marks.now n c.loop-left.marks)) next c.loop-left.invariant.2 in (
      omega (arith, c.loop-left.invariant.0, c.mark_named_by.ensures.same_room),
      omega (arith, c.loop-left.invariant.1, c.mark_named_by.ensures.same_room),
      spread_more told c.args.marks.now k c.loop-left.marks so_far within c.mark_named_by.new.marks c.if-marks-left.true c.in_ok-mark_named_by.ensures.marks,
    )

pub loop-left-preserved : goal.loop-left-preserved
loop-left-preserved g c =
    let told = g.O.Objects.told c.args.objects.now in
    let same = all_listed (g.O.Objects.stands c.args.objects.now) told c.args.listing.now c.requires.listed in
    let k = c.loop-left.left - 1 in
    let next : c.loop-left.left ≡ k + 1 = omega (arith, c.loop-left-test.true) in
    let within = within_told told (length c.args.listing.now) k same (omega (arith, c.loop-left.invariant.0, c.loop-left.invariant.1, c.loop-left-test.true, c.requires.long)) in
    let so_far = subst (λ n. IfSome told (SpreadFrom c.args.marks.now n c.loop-left.marks)) next c.loop-left.invariant.2 in
    (c.loop-left.invariant.0, omega (arith, c.loop-left.invariant.1), spread_same told c.args.marks.now k c.loop-left.marks so_far within c.if-marks-left.false)

pub returns-clause-spreads : goal.returns-clause-spreads
returns-clause-spreads g c =
    let told = g.O.Objects.told c.args.objects.now in
    let none : c.loop-left.left ≡ 0 = omega (arith, c.loop-left-test.false) in
    spread_done told c.args.marks.now c.loop-left.marks (subst (λ n. IfSome told (SpreadFrom c.args.marks.now n c.loop-left.marks)) none c.loop-left.invariant.2)
