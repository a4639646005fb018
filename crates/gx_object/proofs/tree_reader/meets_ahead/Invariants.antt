use Rattle.std.proofs.Common.{◌≡◌, length, true}
use Rattle.std.specs.Option.{is_some}
use Rattle.gx_object.specs.Order.{meets}
use Rattle.gx_object.specs.Trees.{entries_left, entries_of}
use Rattle.gx_object.proofs.tree_reader.meets_ahead.Given as goal

abbrev pub invariant-loop-entry : goal.invariant-loop-entry
invariant-loop-entry l = is_some (entries_of l.bytes) ≡ true → (is_some (entries_of l.rest) ≡ true) × (meets l.component (entries_left l.rest) ≡ meets l.component (entries_left l.bytes))

abbrev pub decreases-loop-entry : goal.decreases-loop-entry
decreases-loop-entry l = length l.rest
