use Rattle.std.proofs.Common.{◌≤◌, ◌+◌, ◌*◌, ap, arith, drop, length, take, ◌∙◌}
use Rattle.gx_growing.specs.GrowingText.{table_length}
use Rattle.gx_growing_parts.proofs.CutTables.{digests_cut, rows_cut, within}
use Rattle.gx_growing_parts.proofs.pages.table_at.Goals as goal

pub returns : goal.returns
returns c =
    let text = c.args.text.now in
    let place = c.args.place in
    let count = c.args.count in
    let table = c.split_at-2.ensures.front ∙ (λ i. take (c.in_ok-length.ensures i) (c.split_at.ensures.back i)) in
    let ends : place + table_length count ≤ length text = omega (arith, c.if-place-text.false, c.if-text-place.false, c.in_ok-length.ensures) in (
      within text place count c.if-place.false ends,
      c.split_at-3.ensures.front ∙ ap (take (28 * count)) table ∙ rows_cut text place count,
      c.split_at-3.ensures.back ∙ ap (drop (28 * count)) table ∙ digests_cut text place count,
    )
