use Rattle.std.proofs.Common.{◌≤◌, length, take}
use Rattle.indexmap.specs.IndexMap.{index_map_len, keys}
use Rattle.gx_store.specs.Chains.{AreFronts}
use Rattle.gx_store.proofs.fronts.Fronts.refill.Given as goal

abbrev pub invariant-loop-place : goal.invariant-loop-place
invariant-loop-place g l = AreFronts l.self (take l.place (keys l.names)) × (index_map_len l.names ≤ length l.self.heads.items)
