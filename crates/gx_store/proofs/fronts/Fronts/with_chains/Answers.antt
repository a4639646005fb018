use Rattle.std.proofs.Common.{◌≡◌, ◌-◌, ◌++◌, [], replicate, take, sym, ap, ◌∙◌, arith}
use Rattle.std.proofs.lemmas.List.{take_all}
use Rattle.gx_store.proofs.Chained.{no_fronts}
use Rattle.gx_store.proofs.fronts.Fronts.with_chains.Goals as goal

pub returns : goal.returns
returns g c =
    let chains = c.args.chains in
    let made = c.new-heads.result in
    let whole : chains - made.len ≡ chains = omega (arith, c.new-heads.ensures.len) in
    let items = c.in_ok-resize.ensures.items ∙ ap (λ xs. take chains xs ++ replicate (chains - made.len) 0) c.new-heads.ensures.items
    ∙ ap (λ xs. xs ++ replicate (chains - made.len) 0) (take_all chains [] (omega arith)) ∙ ap (λ k. replicate k 0) whole in
    (no_fronts _ chains items c.in_ok-next.ensures.items c.in_ok-next.ensures.capacity, sym c.resize.new.self.ok.0 ∙ c.in_ok-resize.ensures.len)
