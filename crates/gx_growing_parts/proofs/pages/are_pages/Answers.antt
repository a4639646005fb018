use Rattle.std.proofs.Common.{ap, arith, length, length-drop, sym, take, ◌∙◌}
use Rattle.gx_model.specs.Texts.{same_bytes}
use Rattle.gx_growing.specs.GrowingText.{page_digests}
use Rattle.sha2.specs.Sha256.{sha256}
use Rattle.sha2.proofs.Facts256.{length-sha256}
use Rattle.gx_growing_parts.proofs.PageDigests.{other_from, page_differs, page_read, same_from, some_bytes, too_short}
use Rattle.gx_growing_parts.proofs.pages.are_pages.Goals as goal

pub returns-in_default : goal.returns-in_default
returns-in_default c =
    let rows = c.loop-rows.rows.now in
    sym (c.loop-rows.invariant ∙ too_short sha256 rows c.loop-rows.digests.now (some_bytes rows c.loop-rows-test.ensures) (length-sha256 (take 16380 rows)) c.in_default.ensures.cases)

pub returns-then-ne : goal.returns-then-ne
returns-then-ne c =
    let rows = c.loop-rows.rows.now in
    sym (c.loop-rows.invariant ∙ page_differs sha256 rows c.loop-rows.digests.now (some_bytes rows c.loop-rows-test.ensures) (length-sha256 (take 16380 rows)) (omega (arith, c.in-Some.ensures.cases)) (λ e. other_from c.in-Some.stated.now c.digest_of.result c.if-ne.ensures (c.in-Some.ensures.cases.0 ∙ e ∙ sym (c.digest_of.ensures ∙ ap sha256 c.first_page.ensures.page))))

pub loop-rows-preserved : goal.loop-rows-preserved
loop-rows-preserved c =
    let rows = c.loop-rows.rows.now in
    let others = sym c.in-Some.ensures.cases.1 in
    let behind = sym c.first_page.ensures.behind in
    let stated = sym c.in-Some.ensures.cases.0 ∙ same_from c.in-Some.stated.now c.digest_of.result c.if-ne.ensures ∙ c.digest_of.ensures ∙ ap sha256 c.first_page.ensures.page in
    c.loop-rows.invariant ∙ page_read sha256 rows c.loop-rows.digests.now (some_bytes rows c.loop-rows-test.ensures) stated
    ∙ (λ i. same_bytes (others i) (page_digests sha256 (behind i)))

pub loop-rows-smaller : goal.loop-rows-smaller
loop-rows-smaller c =
    let rows = c.loop-rows.rows.now in
    omega (arith, some_bytes rows c.loop-rows-test.ensures, ap length c.first_page.ensures.behind, length-drop 16380 rows)
