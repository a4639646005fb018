use Rattle.std.proofs.Common.{◌+◌, ◌&&◌, length, sym, ap, ◌∙◌, arith}
use Rattle.indexmap.specs.IndexMap.{keys}
use Rattle.gx_store.specs.Chains.{chain_of, is_in_chain}
use Rattle.gx_store.specs.NameOrder.{is_within}
use Rattle.gx_store.specs.Prefixes.{joined, picked}
use Rattle.gx_store.proofs.Between.{at_first, at_last, at_next, at_two}
use Rattle.gx_store.proofs.fronts.Fronts.between.Goals as goal

pub loop-chain-init : goal.loop-chain-init
loop-chain-init g c =
    let heads = c.args.self.now.heads in
    let ends = c.args.ends.now in
    at_first (length heads.items) ends.0 ends.1 (keys c.args.names.now) c.requires.names c.chain_of-first.result
    (c.chain_of-first.ensures.chain ∙ ap (λ k. chain_of k ends.0) (c.len.ensures ∙ heads.ok.0)) c.chain_of-first.ensures.bytes

pub loop-chain-preserved : goal.loop-chain-preserved
loop-chain-preserved g c =
    let heads = c.args.self.now.heads in
    let ends = c.args.ends.now in
    let ns = keys c.args.names.now in
    c.with_chain-found.ensures ∙ ap (λ found. joined found (picked (λ n. is_in_chain (length heads.items) c.loop-chain.chain n && is_within ends.0.bytes ends.1.bytes n.bytes) ns)) c.loop-chain.invariant
    ∙ at_next (length heads.items) ends.0 ends.1 ns c.requires.names c.loop-chain.chain

pub returns-in-Ambiguous : goal.returns-in-Ambiguous
returns-in-Ambiguous g c =
    let heads = c.args.self.now.heads in
    let ends = c.args.ends.now in
    let ns = keys c.args.names.now in
    let found = c.with_chain-found.ensures ∙ ap (λ found. joined found (picked (λ n. is_in_chain (length heads.items) c.loop-chain.chain n && is_within ends.0.bytes ends.1.bytes n.bytes) ns)) c.loop-chain.invariant
    ∙ at_next (length heads.items) ends.0 ends.1 ns c.requires.names c.loop-chain.chain in
    c.in-Ambiguous.is ∙ at_two (length heads.items) ends.0 ends.1 ns c.requires.names (c.loop-chain.chain + 1) (sym found ∙ c.in-Ambiguous.is)

pub returns : goal.returns
returns g c =
    let heads = c.args.self.now.heads in
    let ends = c.args.ends.now in
    let last = c.chain_of-last.ensures.chain ∙ ap (λ k. chain_of k ends.1) (c.len-2.ensures ∙ heads.ok.0) in
    c.loop-chain.invariant ∙ at_last (length heads.items) ends.0 ends.1 (keys c.args.names.now) c.requires.names c.loop-chain.chain (omega (arith, last, c.loop-chain-test.false))
