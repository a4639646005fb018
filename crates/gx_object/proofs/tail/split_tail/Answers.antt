use Rattle.std.proofs.Common.{◌≡◌, ◌<◌, ◌∷◌, length, length-append, sym, ap, arith}
use Rattle.std.proofs.lemmas.Bool.Decides.{nat_tests}
use Rattle.gx_model.proofs.Texts.Cuts.{cut_spelled}
use Rattle.gx_object.proofs.Tails.{empty_line, more_ahead, no_end, nothing_left}
use Rattle.gx_object.proofs.tail.split_tail.Goals as goal

pub returns-then-is_empty : goal.returns-then-is_empty
returns-then-is_empty c =
    let none : length c.in-Some.line.now ≡ 0 = grind (arith, nat_tests) in
    sym (empty_line c.args.bytes.now c.loop-line.rest.now c.in-Some.line.now c.in-Some.after.now c.loop-line.invariant (sym c.in-Some.ensures) none)

pub loop-line-smaller : goal.loop-line-smaller
loop-line-smaller c =
    let line = c.in-Some.line.now in
    let after = c.in-Some.after.now in
    let whole = ap length (cut_spelled 10 c.loop-line.rest.now (line, after) (sym c.in-Some.ensures)) in
    let long = length-append line (10 ∷ after) in
    omega (arith, whole, long)

pub loop-line-preserved : goal.loop-line-preserved
loop-line-preserved c =
    let some : 0 < length c.in-Some.line.now = grind (arith, nat_tests) in
    more_ahead c.args.bytes.now c.loop-line.rest.now c.in-Some.line.now c.in-Some.after.now c.loop-line.invariant (sym c.in-Some.ensures) some

pub returns-then-is_empty-2 : goal.returns-then-is_empty-2
returns-then-is_empty-2 c =
    let none : length c.loop-line.rest.now ≡ 0 = grind (arith, nat_tests) in
    sym (nothing_left c.args.bytes.now c.loop-line.rest.now c.loop-line.invariant none)

pub returns-else-is_empty-2 : goal.returns-else-is_empty-2
returns-else-is_empty-2 c =
    let some : 0 < length c.loop-line.rest.now = grind (arith, nat_tests) in
    sym (no_end c.args.bytes.now c.loop-line.rest.now c.loop-line.invariant (sym c.in_default.ensures) some)
