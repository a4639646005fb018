use Rattle.std.proofs.Common.{◌≡◌, ◌+◌, length, map}
use Rattle.std.specs.List.{filter}
use Rattle.gx_import.specs.Rows.{row_of}
use Rattle.gx_import.proofs.branches.count_published.Given as goal

abbrev pub invariant-loop-tip : goal.invariant-loop-tip
invariant-loop-tip g l =
    l.count + length (filter (λ row. row.1.was_published) (map row_of l.tip-iterator)) ≡ length (filter (λ row. row.1.was_published) l.branches)
