use Rattle.std.proofs.Common.{◌≡◌, ◌≤◌, length, take}
use Rattle.std.specs.List.{filter}
use Rattle.gx_kept.proofs.gone.count_marks.Given as goal

abbrev pub invariant-loop-mark : goal.invariant-loop-mark
invariant-loop-mark l = (l.count ≡ length (filter (λ mark. mark) (take l.mark-index l.marks))) × (l.count ≤ l.mark-index)
