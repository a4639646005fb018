use Rattle.std.proofs.Common.{◌≡◌, ◌++◌, codes, drop, length}
use Rattle.std.specs.List.{flat_map}
use Rattle.gx_model.specs.Objects.{line}
use Rattle.gx_model.specs.Texts.Numbers.{number_text}
use Rattle.gx_growing.specs.GrowingText.{run_text}
use Rattle.gx_growing_parts.specs.Shown.{shown_run}
use Rattle.gx_additions.proofs.parts.put_runs.Given as goal

abbrev pub invariant-loop-run : goal.invariant-loop-run
invariant-loop-run g l =
    l.bytes.items ++ flat_map (λ run. run_text (shown_run run)) (drop l.run-index l.runs)
    ≡ l.fn.bytes.items ++ (line (codes "runs") (number_text (length l.runs)) ++ flat_map (λ run. run_text (shown_run run)) l.runs)
