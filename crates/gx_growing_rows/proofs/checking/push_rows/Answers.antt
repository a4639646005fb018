use Rattle.std.proofs.Common.{Some, ap, arith, length, length-drop, subst, sym}
use Rattle.std.proofs.lemmas.Bool.{false≢true}
use Rattle.gx_growing_rows.proofs.RisingRows.{RowsLeft, all_left, none_left, row_low, row_pushed}
use Rattle.gx_growing_rows.proofs.checking.push_rows.Goals as goal

pub loop-row-init : goal.loop-row-init
loop-row-init g c = λ count long. all_left count c.args.rows.now c.args.live.now.items long

pub returns-then-not-is_above : goal.returns-then-not-is_above
returns-then-not-is_above g c = λ count long.
    let e = c.in-Some.ensures in (
      sym (row_low count c.args.rows.now c.args.live.now.items c.loop-row.last c.loop-row.rest.now c.loop-row.live.items (c.loop-row.invariant count long) e.0
          c.in-Some.row c.in-Some.behind.now e.1 e.2 (sym c.if-not-is_above.ensures)),
      λ f. absurd (false≢true f),
    )

pub loop-row-smaller : goal.loop-row-smaller
loop-row-smaller g c =
    let e = c.in-Some.ensures in
    omega (arith, e.0, ap length e.2, length-drop 28 c.loop-row.rest.now)

pub loop-row-preserved : goal.loop-row-preserved
loop-row-preserved g c = λ count long.
    let e = c.in-Some.ensures in
    subst (λ rows. RowsLeft count c.args.rows.now c.args.live.now.items (Some c.in-Some.row.0) c.in-Some.behind.now rows) (sym c.in_ok-push.ensures.items)
    (row_pushed count c.args.rows.now c.args.live.now.items c.loop-row.last c.loop-row.rest.now c.loop-row.live.items (c.loop-row.invariant count long) e.0
    c.in-Some.row c.in-Some.behind.now e.1 e.2 (sym c.if-not-is_above.ensures))

pub returns : goal.returns
returns g c = λ count long.
    let p = none_left count c.args.rows.now c.args.live.now.items c.loop-row.last c.loop-row.rest.now c.loop-row.live.items (c.loop-row.invariant count long) c.in_default.ensures in
    (sym p.0, λ e. p.1)
