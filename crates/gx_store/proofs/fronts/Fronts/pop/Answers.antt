use Rattle.std.proofs.Common.{set, ap, ◌∙◌, arith}
use Rattle.gx_store.specs.Chains.{chain_of}
use Rattle.gx_store.proofs.Chained.{pop_fronts}
use Rattle.gx_store.proofs.fronts.Fronts.pop.Goals as goal

pub returns-in-Some : goal.returns-in-Some
returns-in-Some g c ns f =
    let old = c.args.self.now in
    let n = c.args.name.now in
    let long = c.len.ensures ∙ old.heads.ok.0 in
    let own = c.chain_of-chain.ensures.chain ∙ ap (λ k. chain_of k n) long in
    pop_fronts old _ ns n c.in-Some.before c.in-Some.ensures.items (ap (λ at. set old.heads.items at c.in-Some.before) own) c.in-Some.ensures.capacity
    (omega (arith, own, c.chain_of-chain.ensures.within, long)) f
