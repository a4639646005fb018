use Rattle.std.proofs.Common.{◌≤◌, ◌+◌, List, [], arith, get_or, subst, sym}
use Rattle.std.proofs.lemmas.Result.{err_from_is_err_and}
use Rattle.gx_growing.specs.GrowingText.{Row}
use Rattle.gx_listed.specs.Listings.{Listed}
use Rattle.gx_look.proofs.FollowingRecords.{StandUpTo, all_apart, all_left, one_apart, one_inside, one_passed}
use Rattle.gx_look.proofs.ListedTexts.{ListsFront, all_listed, none_listed, one_listed, one_refused, one_twice}
use Rattle.gx_look.proofs.listing.list_rows.Goals as goal

pub loop-row-init : goal.loop-row-init
loop-row-init g c =
    let told = g.S.ReadAt.text c.args.source.now in
    let none : StandUpTo 0 0 [] = omega arith in (
      subst (λ (listed : List Listed). ListsFront told c.args.ends c.args.rows.now 0 listed) (sym c.new-listing.ensures) (none_listed told c.args.ends c.args.rows.now),
      all_left told c.args.ends c.args.rows.now,
      subst (λ (listed : List Listed). StandUpTo 0 0 listed) (sym c.new-listing.ensures) none,
    )

pub returns-then-row-end-clause-fault : goal.returns-then-row-end-clause-fault
returns-then-row-end-clause-fault g c =
    let nothing : Row = ([], 0) in
    one_inside (g.S.ReadAt.text c.args.source.now) c.args.ends c.args.rows.now c.loop-row.row-index nothing c.loop-row.end c.loop-row-test.true c.loop-row.invariant.1 c.if-row-end.true _

pub returns-in_err-standing-clause-fault : goal.returns-in_err-standing-clause-fault
returns-in_err-standing-clause-fault g c =
    let nothing : Row = ([], 0) in
    let p = err_from_is_err_and c.from_residual.result c.from_residual.ensures.1 in
    rw (p.1, p.2) (one_refused (g.S.ReadAt.text c.args.source.now) c.args.ends c.args.rows.now c.loop-row.row-index nothing c.loop-row.listing c.loop-row-test.true c.loop-row.invariant.0 c.in_err-standing.field-0.0 c.in_err-standing.ensures.standing)

pub returns-then-not-branch-clause-fault : goal.returns-then-not-branch-clause-fault
returns-then-not-branch-clause-fault g c =
    let nothing : Row = ([], 0) in
    one_twice (g.S.ReadAt.text c.args.source.now) c.args.ends c.args.rows.now c.loop-row.row-index nothing c.loop-row.listing c.loop-row-test.true c.loop-row.invariant.0 (rw c.if-not-branch.true at c.in_ok-push.ensures.pushes).1 _

pub loop-row-preserved : goal.loop-row-preserved
loop-row-preserved g c =
    let told = g.S.ReadAt.text c.args.source.now in
    let ends = c.args.ends in
    let rows = c.args.rows.now in
    let i = c.loop-row.row-index in
    let nothing : Row = ([], 0) in
    let within = c.loop-row-test.true in
    let before = c.loop-row.invariant in
    let standing = c.in_ok-standing.standing in
    let behind = c.in_ok-standing.behind in
    let told_of = c.in_ok-standing.ensures.standing in
    let size = c.in_ok-standing.ensures.behind in
    let pushed = (rw c.if-not-branch.false at c.in_ok-push.ensures.pushes).0 in
    let one : Listed = (record { bytes = (get_or rows i nothing).0 }, standing) in
    let place = size.0 in
    let long = size.1 in
    let later : c.loop-row.end ≤ standing.place = omega (arith, place, c.if-row-end.false) in
    let fits : standing.place + standing.length ≤ behind = omega (arith, place, long) in (
      one_listed told ends rows i nothing c.loop-row.listing within before.0 standing behind c.push.new.self told_of pushed,
      one_passed told ends rows i nothing c.loop-row.end within before.1 standing behind told_of,
      subst (λ (listed : List Listed). StandUpTo behind 0 listed) (sym pushed) (one_apart c.loop-row.end behind one 0 c.loop-row.listing later fits before.2),
    )

pub returns-clause-listed : goal.returns-clause-listed
returns-clause-listed g c = all_listed (g.S.ReadAt.text c.args.source.now) c.args.ends c.args.rows.now c.loop-row.row-index c.loop-row.listing c.loop-row-test.false c.loop-row.invariant.0

pub returns-clause-apart : goal.returns-clause-apart
returns-clause-apart g c = all_apart c.loop-row.end 0 c.loop-row.listing c.loop-row.invariant.2
