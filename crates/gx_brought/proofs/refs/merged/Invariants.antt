use Rattle.std.proofs.Common.{◌≤◌, drop, length}
use Rattle.gx_model.specs.Records.Publishing.{with_changes}
use Rattle.gx_ref_lines.specs.Refs.{shown_refs}
use Rattle.gx_brought.proofs.MergedRefs.{AreMerged}
use Rattle.gx_brought.proofs.refs.merged.Given as goal

abbrev pub invariant-loop-name : goal.invariant-loop-name
invariant-loop-name g l =
    (goal.iterator-loop-name g).can_next l.name-iterator
    × (goal.iterator-loop-name g).is_finite l.name-iterator
    × (l.at ≤ length l.refs)
    × AreMerged (with_changes (shown_refs l.refs) l.small.1.refs) (shown_refs (drop l.at l.refs)) l.name-iterator l.next.lines.items l.next.count
