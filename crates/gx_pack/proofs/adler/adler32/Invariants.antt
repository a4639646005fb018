use Rattle.std.proofs.Common.{◌≡◌, ◌+◌, ◌%◌, ◌<◌, length, sum}
use Rattle.gx_pack.specs.Zlib.{sum_of_sums}
use Rattle.gx_pack.proofs.adler.adler32.Given as goal

abbrev pub invariant-loop-left : goal.invariant-loop-left
invariant-loop-left l =
    (l.first < 65521) × (l.second < 65521) × ((l.first + sum l.left) % 65521 ≡ (1 + sum l.bytes) % 65521)
    × ((l.second + sum_of_sums l.first l.left) % 65521 ≡ sum_of_sums 1 l.bytes % 65521)

abbrev pub decreases-loop-left : goal.decreases-loop-left
decreases-loop-left l = length l.left
