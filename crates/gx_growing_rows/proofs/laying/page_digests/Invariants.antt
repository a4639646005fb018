use Rattle.std.proofs.Common.{◌≡◌, ◌++◌, length}
use Rattle.sha2.specs.Sha256.{sha256}
use Rattle.gx_growing.specs.GrowingText.{page_digests}
use Rattle.gx_growing_rows.proofs.laying.page_digests.Given as goal

abbrev pub invariant-loop-rest : goal.invariant-loop-rest
invariant-loop-rest g l = l.digests.items ++ page_digests sha256 l.rest ≡ page_digests sha256 l.fn.rows

abbrev pub decreases-loop-rest : goal.decreases-loop-rest
decreases-loop-rest g l = length l.rest
