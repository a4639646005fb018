use Rattle.std.proofs.Common.{◌≡◌, ◌+◌, ◌-◌, Some, length}
use Rattle.std.specs.List.{slice_get}
use Rattle.gx_rev.specs.FirstParents.{IsFirstParentWalk}
use Rattle.gx_rev.proofs.first_parents.FirstParents.go_on.Given as goal

abbrev pub invariant-loop-self : goal.invariant-loop-self
invariant-loop-self g l = record {
  walk : IsFirstParentWalk l.repo.1 l.self.names.items;
  first : slice_get l.self.names.items 0 ≡ Some l.commit;
}

abbrev pub decreases-loop-self : goal.decreases-loop-self
decreases-loop-self g l = l.number + 1 - length l.self.names.items
