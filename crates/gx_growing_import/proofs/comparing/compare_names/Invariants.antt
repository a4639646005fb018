use Rattle.std.proofs.Common.{take}
use Rattle.std.specs.List.{AllByRecursion}
use Rattle.gx_ref_lines.specs.Refs.{shown_refs}
use Rattle.gx_growing_import.specs.Alike.{IsSameRefIn}
use Rattle.gx_growing_import.proofs.comparing.compare_names.Given as goal

abbrev pub invariant-loop-name : goal.invariant-loop-name
invariant-loop-name g l = AllByRecursion (λ name. IsSameRefIn (shown_refs l.lines.refs.items) l.small.1.refs name.items) (take l.name-index l.name-items)
