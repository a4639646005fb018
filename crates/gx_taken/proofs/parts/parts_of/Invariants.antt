use Rattle.gx_taken.proofs.SplitOffers.{AreSplitOff}
use Rattle.gx_taken.proofs.parts.parts_of.Given as goal

abbrev pub invariant-loop-item : goal.invariant-loop-item
invariant-loop-item g l = AreSplitOff {A = g.row.A.Denot} l.fn.items.items l.item-iterator.rest.items l.objects.items l.labels.items l.refs.items
