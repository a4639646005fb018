use Rattle.std.proofs.Common.{◌≡◌, length, take}
use Rattle.indexmap.specs.IndexMap.{keys}
use Rattle.gx_store.specs.Chains.{AreFronts}
use Rattle.gx_store.proofs.fronts.Fronts.of.Given as goal

abbrev pub invariant-loop-place : goal.invariant-loop-place
invariant-loop-place g l = AreFronts l.fronts (take l.place (keys l.names)) × (length l.fronts.heads.items ≡ l.chains)
