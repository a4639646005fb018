use Rattle.std.proofs.Common.{◌≡◌, ◌++◌, ◌+◌, ◌∷◌, ◌∙◌, [], ap, get_or, map, subst, sym, take}
use Rattle.std.proofs.lemmas.List.{map-append, take_more}
use Rattle.gx_growing_parts.specs.Shown.{shown_run}
use Rattle.gx_growing_parts.specs.declared.runs.Run.{Run as GivenRun}
use Rattle.gx_additions.specs.Merging.{ReadsRows}
use Rattle.gx_additions.proofs.MergedRows.{one_read}
use Rattle.gx_additions.proofs.merging.read_rows.Goals as goal

pub loop-run-preserved : goal.loop-run-preserved
loop-run-preserved g c =
    let none : GivenRun = record { place = 0; count = 0; digest = [] } in
    let runs = c.args.runs.now in
    let at = c.loop-run.run-index in
    let told = g.S.ReadAt.text c.args.source.now in
    let run = get_or runs at none in
    let more : map shown_run (take (at + 1) runs) ≡ map shown_run (take at runs) ++ shown_run run ∷ [] = ap (map shown_run) (take_more runs at none c.loop-run-test.true) ∙ map-append shown_run (take at runs) (run ∷ []) in
    subst (λ rs. ReadsRows told rs c.read_run.new.rows.items) (sym more)
    (one_read told (map shown_run (take at runs)) (shown_run run) c.loop-run.rows.items c.read_run.new.rows.items c.loop-run.invariant c.in_ok-read_run.ensures.rows)
