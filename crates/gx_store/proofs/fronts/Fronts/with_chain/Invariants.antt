use Rattle.std.proofs.Common.{◌≡◌, ◌≤◌, ◌&&◌, length, take}
use Rattle.indexmap.specs.IndexMap.{keys}
use Rattle.gx_store.specs.Chains.{is_in_chain, up_to_last}
use Rattle.gx_store.specs.NameOrder.{is_within}
use Rattle.gx_store.specs.Prefixes.{joined, picked}
use Rattle.gx_store.proofs.fronts.Fronts.with_chain.Given as goal

abbrev pub invariant-loop-end : goal.invariant-loop-end
invariant-loop-end g l =
    (l.end ≤ length (keys l.names))
    × (l.end ≡ up_to_last (is_in_chain (length l.self.heads.items) l.chain) (take l.end (keys l.names)))
    × (joined l.initial.found (picked (λ name. is_in_chain (length l.self.heads.items) l.chain name && is_within l.ends.0.bytes l.ends.1.bytes name.bytes) (keys l.names))
    ≡ joined l.found (picked (λ name. is_in_chain (length l.self.heads.items) l.chain name && is_within l.ends.0.bytes l.ends.1.bytes name.bytes) (take l.end (keys l.names))))

abbrev pub decreases-loop-end : goal.decreases-loop-end
decreases-loop-end g l = l.end
