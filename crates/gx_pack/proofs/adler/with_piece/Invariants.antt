use Rattle.std.proofs.Common.{◌≡◌, ◌+◌, ◌*◌, ◌≤◌, sum, take}
use Rattle.gx_pack.specs.Zlib.{sum_of_sums}
use Rattle.gx_pack.proofs.adler.with_piece.Given as goal

abbrev pub invariant-loop-byte : goal.invariant-loop-byte
invariant-loop-byte l =
    (l.a ≡ l.first + sum (take l.byte-index l.piece)) × (l.b ≡ l.second + sum_of_sums l.first (take l.byte-index l.piece))
    × (l.a ≤ 65520 + 255 * l.byte-index) × (l.b ≤ 65520 + 16777216 * l.byte-index)
