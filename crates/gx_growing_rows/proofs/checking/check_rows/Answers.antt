use Rattle.std.proofs.Common.{◌∙◌, ap, length, map, sym}
use Rattle.std.specs.Prelude.{◌&&◌}
use Rattle.std.specs.List.{list_all}
use Rattle.sha2.specs.Sha256.{sha256}
use Rattle.gx_growing.specs.GrowingReading.{is_standing, same_rows}
use Rattle.gx_growing.specs.GrowingText.{live_rows, sorted_rows}
use Rattle.gx_growing_parts.specs.Placing.{rows_of}
use Rattle.gx_growing_parts.specs.Shown.{shown_run}
use Rattle.gx_growing_rows.proofs.GatheredRows.{compared, rows_fall}
use Rattle.gx_growing_rows.proofs.LaidOut.{rows_few}
use Rattle.gx_growing_rows.proofs.SortedRows.{sorted_is}
use Rattle.gx_growing_rows.proofs.checking.check_rows.Goals as goal

pub returns-then-not-branch : goal.returns-then-not-branch
returns-then-not-branch g c =
    let runs = map shown_run c.args.runs.now in
    let rows = rows_of c.args.store.now.1 c.args.places.now in
    let few = rows_few c.args.store.now.1 c.args.places.now in
    rows_fall (list_all (is_standing sha256 c.args.text.now) runs) (length c.args.places.now) (live_rows c.args.text.now runs) rows few (rw c.if-not-branch.true at c.in_ok-gather_rows.ensures)

pub returns : goal.returns
returns g c =
    let runs = map shown_run c.args.runs.now in
    let gathered = rw c.if-not-branch.false at c.in_ok-gather_rows.ensures in
    let live = c.as_slice.ensures.value ∙ sorted_is c.gather_rows.new.live.items c.sort_unstable-2.new.self.items c.sort_unstable-2.ensures.permutation c.sort_unstable-2.ensures.sorted ∙ ap sorted_rows gathered.1 in
    let placed = c.as_slice-2.ensures.value ∙ sorted_is c.in_ok-placed.placed.items c.sort_unstable.new.self.items c.sort_unstable.ensures.permutation c.sort_unstable.ensures.sorted ∙ ap sorted_rows c.in_ok-placed.ensures in
    c.eq.ensures ∙ compared c.as_slice.result.now c.as_slice-2.result.now ∙ (λ i. same_rows (live i) (placed i))
    ∙ ap (λ b. b && same_rows (sorted_rows (live_rows c.args.text.now runs)) (sorted_rows (rows_of c.args.store.now.1 c.args.places.now))) (sym gathered.0)
