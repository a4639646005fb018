use Rattle.std.specs.List.{AllByRecursion}
use Rattle.gx_ref_lines.specs.Refs.{shown_refs}
use Rattle.gx_growing_import.specs.Alike.{IsSameRefIn}
use Rattle.gx_growing_import.proofs.comparing.compare_branches.Given as goal

abbrev pub invariant-loop-branch : goal.invariant-loop-branch
invariant-loop-branch g l = AllByRecursion (λ branch. IsSameRefIn (shown_refs l.lines.refs.items) l.small.1.refs branch.now.items) l.yielded
