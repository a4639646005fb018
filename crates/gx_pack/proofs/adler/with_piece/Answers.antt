use Rattle.std.proofs.Common.{arith}
use Rattle.gx_pack.proofs.Checksums.{sum_next, sums_next}
use Rattle.gx_pack.specs.Zlib.{sum_of_sums}
use Rattle.gx_pack.proofs.adler.with_piece.Goals as goal

pub loop-byte-init : goal.loop-byte-init
unfolding sum_of_sums
loop-byte-init c = (omega arith, omega arith, omega (arith, c.requires.first), omega (arith, c.requires.second))

pub loop-byte-preserved : goal.loop-byte-preserved
loop-byte-preserved c =
    let xs = c.args.piece.now in
    let i = c.loop-byte.byte-index in
    let old = c.loop-byte.invariant in
    let a = old.0 in
    let b = old.1 in
    let one = sum_next xs i c.loop-byte-test.true in
    let two = sums_next c.args.first xs i c.loop-byte-test.true in
    (omega (arith, a, one), omega (arith, a, b, two), omega (arith, old.2), omega (arith, old.2, old.3, c.requires.piece))
