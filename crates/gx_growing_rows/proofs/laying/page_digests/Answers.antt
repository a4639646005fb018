use Rattle.std.proofs.Common.{◌∙◌, ◌++◌, ap, append_assoc, arith, drop, length, length-drop, sym}
use Rattle.sha2.specs.Sha256.{sha256}
use Rattle.gx_growing.specs.GrowingText.{page_digests}
use Rattle.gx_growing_parts.proofs.PageDigests.{pages_more, some_bytes}
use Rattle.gx_growing_rows.proofs.laying.page_digests.Goals as goal

pub loop-rest-smaller : goal.loop-rest-smaller
loop-rest-smaller g c =
    let rest = c.loop-rest.rest.now in
    omega (arith, some_bytes rest c.loop-rest-test.ensures, ap length c.first_page.ensures.behind, length-drop 16380 rest)

pub loop-rest-preserved : goal.loop-rest-preserved
loop-rest-preserved g c =
    let rest = c.loop-rest.rest.now in
    let old = c.loop-rest.digests.items in
    let digest = c.digest_of.ensures ∙ ap sha256 c.first_page.ensures.page in
    let others = page_digests sha256 (drop 16380 rest) in
    (λ i. c.in_ok-extend_from_slice.ensures.items i ++ page_digests sha256 (c.first_page.ensures.behind i))
    ∙ append_assoc old c.digest_of.result others
    ∙ ap (λ d. old ++ (d ++ others)) digest
    ∙ ap (λ t. old ++ t) (sym (pages_more sha256 rest (some_bytes rest c.loop-rest-test.ensures)))
    ∙ c.loop-rest.invariant
