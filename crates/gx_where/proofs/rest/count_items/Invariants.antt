use Rattle.std.proofs.Common.{◌≡◌, ◌≤◌, ◌+◌, false, length}
use Rattle.gx_model.specs.Streams.Items.{items_of}
use Rattle.gx_where.proofs.rest.count_items.Given as goal

abbrev pub invariant-loop-next : goal.invariant-loop-next
invariant-loop-next l = record {
  counted : l.count + length (items_of l.rest false).items ≡ length (items_of l.text false).items;
  within : l.count + length l.rest ≤ length l.text;
}

abbrev pub decreases-loop-next : goal.decreases-loop-next
decreases-loop-next l = length l.rest
