use Rattle.std.proofs.Common.{◌≡◌, ◌&&◌, length, nat_lt}
use Rattle.indexmap.specs.IndexMap.{keys}
use Rattle.gx_store.specs.Chains.{chain_of}
use Rattle.gx_store.specs.NameOrder.{is_within}
use Rattle.gx_store.specs.Prefixes.{picked}
use Rattle.gx_store.proofs.fronts.Fronts.between.Given as goal

abbrev pub invariant-loop-chain : goal.invariant-loop-chain
invariant-loop-chain g l =
    l.found ≡ picked (λ name. nat_lt (chain_of (length l.self.heads.items) name) l.chain && is_within l.ends.0.bytes l.ends.1.bytes name.bytes) (keys l.names)
