use Rattle.std.proofs.Common.{◌≤◌, ◌<◌, ◌^◌, refl, subst, arith}
use Rattle.gx_kept.proofs.bundling.count_sent.Goals as goal

pub returns-then-count-clause-many : goal.returns-then-count-clause-many
returns-then-count-clause-many c =
    let large : 2 ^ 32 ≤ c.count_marks-count.result = omega (arith, c.if-count.true) in
    (refl, subst (λ n. 2 ^ 32 ≤ n) c.count_marks-count.ensures large)

pub returns-clause-few : goal.returns-clause-few
returns-clause-few c =
    let small : c.count_marks-count.result < 2 ^ 32 = omega (arith, c.if-count.false) in
    subst (λ n. n < 2 ^ 32) c.count_marks-count.ensures small
