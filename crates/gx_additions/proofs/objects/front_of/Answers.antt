use Rattle.std.proofs.Common.{◌∙◌, ap, arith, drop, length, length-drop}
use Rattle.std.specs.List.{flat_map}
use Rattle.gx_growing.specs.GrowingText.{row_text, rows_in}
use Rattle.gx_growing_rows.specs.NextTable.{next_rows}
use Rattle.gx_additions.proofs.Brought.{begun}
use Rattle.gx_additions.proofs.objects.front_of.Goals as goal

pub returns-clause-front : goal.returns-clause-front
returns-clause-front g c =
    let records = drop c.args.from c.args.store.now.1 in
    let read = c.as_slice.ensures.value in
    begun c.args.ending records c.split_runs.result.0.now c.split_runs.result.1.now c.in_ok-rows.rows.items c.in-Some.count c.in_ok-table.table c.in_ok-made.made.0.items c.in_ok-made.made.1
    (g.S.ReadAt.text c.args.source.now) c.split_runs.ensures.runs c.in_ok-rows.ensures.rows (λ n long. c.in_ok-table.ensures.place n (ap length read ∙ long))
    (λ n long. c.in_ok-table.ensures.rows n (ap length read ∙ long) ∙ (λ i. flat_map row_text (next_rows c.args.ending.ends records (rows_in n (read i))))) c.in_ok-table.ensures.digests
    (omega (arith, c.in-Some.ensures, c.len-2.ensures, c.saturating_sub-new.ensures, c.len.ensures.count, length-drop c.args.from c.args.store.now.1)) c.in_ok-made.ensures
