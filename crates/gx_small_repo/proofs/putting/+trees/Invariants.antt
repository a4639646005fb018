use Rattle.std.proofs.Common.{◌≡◌, ◌+◌, ◌*◌}
use Rattle.gx_small_repo.specs.Small.{IsSmallOfTold}
use Rattle.gx_small_repo.proofs.HeldEntries.{AreHeld}
use Rattle.gx_small_repo.proofs.putting.+trees.Given as goal

abbrev pub decreases-put_tree : goal.decreases-put_tree
decreases-put_tree g l = 2 * l.most + 1

abbrev pub decreases-put_entry : goal.decreases-put_entry
decreases-put_entry g l = 2 * l.most

abbrev pub invariant-put_tree-loop-entry : goal.invariant-put_tree-loop-entry
invariant-put_tree-loop-entry g l = record {
  small : IsSmallOfTold (g.O.Objects.told l.origin.objects.now) l.repo.1;
  namer : l.repo.0 ≡ l.fn.repo.0;
  held : AreHeld (g.O.Objects.told l.origin.objects.now) l.entry-iterator;
}
