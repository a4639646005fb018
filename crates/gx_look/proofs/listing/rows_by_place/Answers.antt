use Rattle.std.proofs.Common.{List, [], rules, subst, sym}
use Rattle.std.proofs.lemmas.List.Sorted.{IsNonDecreasingBy-from_sort_by_key}
use Rattle.std.proofs.lemmas.Result.{err_from_is_err_and}
use Rattle.gx_growing.specs.GrowingText.{Row}
use Rattle.gx_growing_parts.specs.declared.runs.Run.{Run}
use Rattle.gx_look.proofs.ListedRows.{AreLive, more_live, none_live, rows_are, runs_end}
use Rattle.gx_look.proofs.listing.rows_by_place.Goals as goal

pub loop-run-init : goal.loop-run-init
loop-run-init g c =
    let told = g.S.ReadAt.text c.args.source.now in
    subst (λ (rows : List Row). AreLive told [] rows) (sym c.new-rows.ensures.items) (none_live told)

pub loop-run-preserved : goal.loop-run-preserved
loop-run-preserved g c =
    let nothing : Run = record { place = 0; count = 0; digest = [] } in
    more_live (g.S.ReadAt.text c.args.source.now) c.args.runs.now c.loop-run.run-index nothing c.loop-run.rows.items c.push_rows.new.rows.items c.loop-run-test.true c.loop-run.invariant c.in_ok-push_rows.ensures.rows

pub returns-in_err-push_rows-clause-fault : goal.returns-in_err-push_rows-clause-fault
returns-in_err-push_rows-clause-fault g c =
    let nothing : Run = record { place = 0; count = 0; digest = [] } in
    let p = err_from_is_err_and c.from_residual.result c.from_residual.ensures.1 in
    rw (p.1, p.2) (runs_end (g.S.ReadAt.text c.args.source.now) c.args.runs.now c.loop-run.run-index nothing c.in_err-push_rows.field-0.0 c.loop-run-test.true c.in_err-push_rows.ensures.fault)

pub returns-clause-rows : goal.returns-clause-rows
returns-clause-rows g c =
    rows_are (g.S.ReadAt.text c.args.source.now) c.args.runs.now c.loop-run.run-index c.loop-run.rows.items c.sort_unstable_by_key.new.self.items c.loop-run-test.false c.loop-run.invariant c.sort_unstable_by_key.ensures.permutation
    (IsNonDecreasingBy-from_sort_by_key (λ (row : Row). row.1) _ c.sort_unstable_by_key.ensures.sorted (λ a r q k. search rules))
