use Rattle.std.proofs.Common.{◌≡◌, drop}
use Rattle.gx_model.specs.Records.Walks.{walked}
use Rattle.gx_rev.specs.Places.{IsHeldPlace}
use Rattle.gx_rev.proofs.PathSteps.{walked_on}
use Rattle.gx_rev.proofs.places.walk_down.Given as goal

abbrev pub invariant-loop-place : goal.invariant-loop-place
invariant-loop-place g l = record {
  held : IsHeldPlace l.repo.1 (l.mode, l.name);
  same : walked l.repo.1.records l.fn.tree.bytes l.path ≡ walked_on l.repo.1.records (l.mode, l.name.bytes) (drop l.place l.path);
}
