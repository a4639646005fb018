use Rattle.std.proofs.Common.{◌≡◌, ◌*◌, ◌≤◌, take}
use Rattle.gx_repo.specs.Pruning.{weight}
use Rattle.gx_repo.proofs.pruning.weight.Given as goal

abbrev pub invariant-loop-place : goal.invariant-loop-place
invariant-loop-place g l = (l.bytes ≡ weight (take l.place l.store.1)) × (l.bytes ≤ l.place * 18446744073709551616)
