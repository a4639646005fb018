use Rattle.std.proofs.Common.{◌≡◌, List, None, length}
use Rattle.std.specs.List.{AllByRecursion}
use Rattle.gx_model.specs.Histories.{Record}
use Rattle.gx_repo.specs.Earlier.{AreLeftHeld, IsThere}
use Rattle.gx_repo.proofs.earlier.Earlier.pass_before.Given as goal

abbrev pub invariant-loop-next : goal.invariant-loop-next
invariant-loop-next l = (l.self.next ≡ None) × ((records : List Record) → AreLeftHeld records l.fn.self → AllByRecursion (IsThere records) l.self.rest)

abbrev pub decreases-loop-next : goal.decreases-loop-next
decreases-loop-next l = length l.self.rest
