use Rattle.std.proofs.Common.{◌≡◌, length}
use Rattle.sha2.specs.Sha256.{sha256}
use Rattle.gx_model.specs.Texts.{same_bytes}
use Rattle.gx_growing.specs.GrowingText.{page_digests}
use Rattle.gx_growing_parts.proofs.pages.are_pages.Given as goal

abbrev pub invariant-loop-rows : goal.invariant-loop-rows
invariant-loop-rows l = same_bytes l.fn.digests (page_digests sha256 l.fn.rows) ≡ same_bytes l.digests (page_digests sha256 l.rows)

abbrev pub decreases-loop-rows : goal.decreases-loop-rows
decreases-loop-rows l = length l.rows
