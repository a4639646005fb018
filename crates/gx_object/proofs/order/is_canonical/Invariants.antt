use Rattle.std.proofs.Common.{◌≡◌, ◌≤◌, length, map}
use Rattle.gx_object.specs.Entries.{shown}
use Rattle.gx_object.specs.Order.{are_ordered}
use Rattle.gx_object.proofs.Steps.{past}
use Rattle.gx_object.proofs.order.is_canonical.Given as goal

abbrev pub invariant-loop-next : goal.invariant-loop-next
invariant-loop-next l = record {
  within : l.files.above ≤ length l.before.component.now;
  tells : past l.files.above l.files.is_file (shown l.before) (map shown l.rest) ≡ are_ordered (map shown l.entries);
}

abbrev pub decreases-loop-next : goal.decreases-loop-next
decreases-loop-next l = length l.rest
