use Rattle.gx_repo.specs.Earlier.{AreLeftHeld}
use Rattle.gx_repo.proofs.ReadTrees.{IsLeft}
use Rattle.gx_repo.proofs.checking.tree_room.Given as goal

abbrev pub invariant-loop-entry : goal.invariant-loop-entry
invariant-loop-entry g l = IsLeft l.store.1 l.body l.widest l.reader.entries × AreLeftHeld l.store.1 l.earlier

abbrev pub decreases-loop-entry : goal.decreases-loop-entry
decreases-loop-entry g l = l.reader.most
