use Rattle.std.proofs.Common.{◌∙◌, ◌++◌, ap, codes, drop, length, map, sym}
use Rattle.std.specs.List.{flat_map}
use Rattle.std.proofs.lemmas.List.{drop_all, length-map}
use Rattle.gx_model.specs.Objects.{line}
use Rattle.gx_model.specs.Texts.Numbers.{number_text}
use Rattle.gx_growing.specs.GrowingText.{run_text}
use Rattle.gx_growing_parts.specs.Shown.{shown_run}
use Rattle.gx_growing_parts.specs.declared.runs.Run.{Run as GivenRun}
use Rattle.gx_additions.proofs.Puts.{last_put, seen_put}
use Rattle.gx_additions.proofs.parts.put_runs.Goals as goal

pub returns : goal.returns
returns g c =
    let runs = c.args.runs.now in
    let old = c.args.bytes.now.items in
    let at = c.loop-run.run-index in
    let counted = line (codes "runs") (number_text (length runs)) in
    let text = λ (run : GivenRun). run_text (shown_run run) in
    last_put text (old ++ (counted ++ flat_map text runs)) c.loop-run.bytes.items (drop at runs) (drop_all at runs c.loop-run-test.false) c.loop-run.invariant
    ∙ ap (λ z. old ++ (counted ++ z)) (seen_put run_text shown_run runs)
    ∙ ap (λ n. old ++ (line (codes "runs") (number_text n) ++ flat_map run_text (map shown_run runs))) (sym (length-map runs shown_run))
