use Rattle.std.proofs.Common.{◌≡◌, ◌+◌, ◌%◌, length, sum, take, drop, ap, subst, ◌∙◌, arith}
use Rattle.std.proofs.lemmas.Bool.Decides.{nat_tests}
use Rattle.std.proofs.lemmas.List.{nil_from_length, take-append-drop}
use Rattle.gx_pack.specs.Zlib.{adler32, sum_of_sums}
use Rattle.gx_pack.proofs.Checksums.{first_both, second_both}
use Rattle.gx_pack.proofs.adler.adler32.Goals as goal

pub loop-left-preserved : goal.loop-left-preserved
loop-left-preserved c =
    let whole = c.args.bytes.now in
    let left = c.loop-left.left.now in
    let n = c.min.result in
    let a = c.loop-left.first in
    let b = c.loop-left.second in
    let parts = take-append-drop n left in
    let first = first_both a (take n left) (drop n left) ∙ ap (λ t. (a + sum t) % 65521) parts ∙ c.loop-left.invariant.2 in
    let second = second_both a b (take n left) (drop n left) ∙ ap (λ t. (b + sum_of_sums a t) % 65521) parts ∙ c.loop-left.invariant.3 in
    let one : c.with_piece-sums.result.0 ≡ (a + sum (take n left)) % 65521 = c.with_piece-sums.ensures.first ∙ ap (λ t. (a + sum t) % 65521) c.split_at.ensures.front in
    let two : c.with_piece-sums.result.1 ≡ (b + sum_of_sums a (take n left)) % 65521 = c.with_piece-sums.ensures.second ∙ ap (λ t. (b + sum_of_sums a t) % 65521) c.split_at.ensures.front in
    let rest = c.split_at.ensures.back in
    let first_now : (c.with_piece-sums.result.0 + sum c.split_at.result.1.now) % 65521 ≡ (1 + sum whole) % 65521 = rw (one, rest) first in
    let second_now : (c.with_piece-sums.result.1 + sum_of_sums c.with_piece-sums.result.0 c.split_at.result.1.now) % 65521 ≡ sum_of_sums 1 whole % 65521 = rw (two, one, rest) second in
    (omega (arith, one), omega (arith, two), first_now, second_now)

pub returns : goal.returns
unfolding adler32 sum_of_sums
returns c =
    let left = c.loop-left.left.now in
    let old = c.loop-left.invariant in
    let none : length left ≡ 0 = grind (arith, nat_tests) in
    let empty = nil_from_length left none in
    let first : (c.loop-left.first + 0) % 65521 ≡ (1 + sum c.args.bytes.now) % 65521 = subst (λ t. (c.loop-left.first + sum t) % 65521 ≡ (1 + sum c.args.bytes.now) % 65521) empty old.2 in
    let second : (c.loop-left.second + 0) % 65521 ≡ sum_of_sums 1 c.args.bytes.now % 65521 =
    subst (λ t. (c.loop-left.second + sum_of_sums c.loop-left.first t) % 65521 ≡ sum_of_sums 1 c.args.bytes.now % 65521) empty old.3 in
    omega (arith, old.0, old.1, first, second)
