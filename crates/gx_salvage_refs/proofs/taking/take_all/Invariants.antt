use Rattle.std.proofs.Common.{◌≡◌, ◌+◌, ◌≤◌, [], length}
use Rattle.std.specs.Prelude.{IfSome}
use Rattle.gx_salvage_refs.specs.Saved.{body_bytes}
use Rattle.gx_salvage_refs.specs.Taking.{AreUnsaved}
use Rattle.gx_salvage_refs.proofs.Settling.{IsLeft}
use Rattle.gx_salvage_refs.proofs.taking.take_all.Given as goal

abbrev pub invariant-loop-place : goal.invariant-loop-place
invariant-loop-place g l = record {
  namer : l.repo.0 ≡ l.fn.repo.0;
  refs : l.repo.1.refs ≡ [];
  bad : AreUnsaved (g.O.Objects.name_of l.objects) (g.O.Objects.told l.objects) l.repo.1.records l.bad;
  left : IfSome (g.O.Objects.told l.objects) (λ r. IsLeft r (g.O.Objects.stands l.objects) l.fn.visited.items l.fn.bad l.repo.1.records l.bad l.left.items);
  within : body_bytes l.repo.1.records + l.bytes ≤ l.most;
}

abbrev pub decreases-loop-place : goal.decreases-loop-place
decreases-loop-place g l = length l.left.items
