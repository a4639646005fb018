use Rattle.gx_plain.proofs.Checks.{AreLeft}
use Rattle.gx_plain.proofs.checking.tree_room.Given as goal

abbrev pub invariant-loop-entry : goal.invariant-loop-entry
invariant-loop-entry g l = AreLeft l.listing l.rooms l.body l.widest l.reader.entries

abbrev pub decreases-loop-entry : goal.decreases-loop-entry
decreases-loop-entry g l = l.reader.most
