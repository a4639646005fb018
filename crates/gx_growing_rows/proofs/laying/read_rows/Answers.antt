use Rattle.std.proofs.Common.{◌≡◌, ℕ, ◌≤◌, List, [], ◌∷◌, ◌++◌, ap, arith, drop, length, length-drop, subst, sym, take}
use Rattle.std.specs.Int.{w64, from_be_bytes}
use Rattle.gx_model.specs.Texts.{Bytes}
use Rattle.gx_growing.specs.GrowingText.{Row, part, rows_in}
use Rattle.gx_growing_rows.proofs.RisingRows.{AreLeft, all_pushed, more_left, one_pushed}
use Rattle.gx_growing_rows.proofs.laying.read_rows.Goals as goal

pub loop-row-init : goal.loop-row-init
loop-row-init g c = λ count long. (count, record { long = long; pushed = ap (λ rows. rows ++ rows_in count c.args.bytes.now) c.new-rows.ensures.items })

pub loop-row-smaller : goal.loop-row-smaller
loop-row-smaller g c =
    let e = c.in-Some.ensures in
    omega (arith, e.0, ap length e.2, length-drop 28 c.loop-row.rest.now)

next : (count left : ℕ) (bytes rest behind : Bytes) (rows more : List Row) (row : Row) → AreLeft count bytes [] left rest rows → 28 ≤ length rest
    → row ≡ (take 20 rest, from_be_bytes w64 (part rest 20 8)) → behind ≡ drop 28 rest → more ≡ rows ++ row ∷ [] → (m : ℕ) × AreLeft count bytes [] m behind more
next count left bytes rest behind rows more row a some is after pushed =
    let n = more_left count bytes [] left rest rows a some in
    (n.0, subst (AreLeft count bytes [] n.0 behind) (sym pushed) (one_pushed count bytes [] left rest rows a some row behind is after))

pub loop-row-preserved : goal.loop-row-preserved
loop-row-preserved g c = λ count long.
    let e = c.in-Some.ensures in
    let left = c.loop-row.invariant count long in
    next count left.0 c.args.bytes.now c.loop-row.rest.now c.in-Some.behind.now c.loop-row.rows.items _ c.in-Some.row left.1 e.0 e.1 e.2 c.in_ok-push.ensures.items

pub returns : goal.returns
returns g c = λ count long.
    let left = c.loop-row.invariant count long in
    (all_pushed count c.args.bytes.now [] left.0 c.loop-row.rest.now c.loop-row.rows.items left.1 c.in_default.ensures).1
