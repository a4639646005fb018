use Rattle.std.proofs.Common.{◌≡◌, false, length}
use Rattle.gx_model.specs.Streams.Items.{items_of}
use Rattle.gx_stream.specs.FirstItems.{IsEndOf}
use Rattle.gx_where.specs.Rests.{Reaches, without_first}
use Rattle.gx_where.proofs.rest.rest_behind.Given as goal

abbrev pub invariant-loop-next : goal.invariant-loop-next
invariant-loop-next l = record {
  end : IsEndOf l.text l.rest;
  reached : Reaches l.text l.rest;
  items : without_first l.left (items_of l.rest false) ≡ without_first l.count (items_of l.text false);
}

abbrev pub decreases-loop-next : goal.decreases-loop-next
decreases-loop-next l = length l.rest
