use Rattle.std.proofs.Common.{◌<◌, ◌++◌, ◌∷◌, [], length, get_or, set, sym, ap, ◌∙◌, arith}
use Rattle.gx_store.specs.Chains.{chain_of}
use Rattle.gx_store.proofs.Chained.{put_fronts, read_so}
use Rattle.gx_store.proofs.fronts.Fronts.put.Goals as goal

pub returns-clause-fronts : goal.returns-clause-fronts
returns-clause-fronts g c ns f =
    let old = c.args.self.now in
    let n = c.args.name.now in
    let long = c.len.ensures ∙ old.heads.ok.0 in
    let own = c.chain_of-chain.ensures.chain ∙ ap (λ k. chain_of k n) long in
    let within : c.chain_of-chain.result < length old.heads.items = omega (arith, c.chain_of-chain.ensures.within, long) in
    let head = sym (read_so old.heads.items c.chain_of-chain.result c.index.result.now within c.index.ensures) ∙ ap (λ at. get_or old.heads.items at 0) own in
    put_fronts old _ ns n c.len-2.result (c.len-2.ensures ∙ c.push_reserved.new.self.ok.0)
    (c.push_reserved.ensures.items ∙ ap (λ x. old.next.items ++ x ∷ []) head) (ap (λ at. set old.heads.items at c.len-2.result) own) c.push_reserved.ensures.capacity
    (omega (arith, own, within)) (omega (arith, c.requires.chains, old.next.ok.0, old.heads.ok.0)) f
