use Rattle.std.proofs.Common.{◌≡◌, take}
use Rattle.std.specs.Prelude.{◌==◌}
use Rattle.std.specs.List.{count_by}
use Rattle.gx_differences.specs.Listed.{shown_difference}
use Rattle.gx_diff.specs.Lines.{status_of}
use Rattle.gx_diff.proofs.counts.count_of.Given as goal

abbrev pub invariant-loop-difference : goal.invariant-loop-difference
invariant-loop-difference g l = l.count ≡ count_by (λ d. status_of (shown_difference d) == l.letter) (take l.difference-index l.found)
