use Rattle.std.proofs.Common.{take, option_map, sym, ap, subst, ◌∙◌, arith, rules, vec_len}
use Rattle.std.proofs.lemmas.Option.{slice_get-map}
use Rattle.indexmap.specs.IndexMap.{keys}
use Rattle.gx_store.specs.Chains.{AreFronts}
use Rattle.gx_store.proofs.Chained.{no_fronts, taken_more}
use Rattle.gx_store.proofs.fronts.Fronts.refill.Goals as goal

pub loop-place-init : goal.loop-place-init
loop-place-init g c = (
  no_fronts _ (vec_len c.args.self.now.heads) (c.fill.ensures.items (λ y h. search rules)) c.clear.ensures.items (omega (arith, c.requires.room, c.clear.ensures.capacity)),
  omega (arith, c.requires.chains, c.fill.ensures.len, c.fill.new.self.ok.0),
)

pub loop-place-preserved : goal.loop-place-preserved
loop-place-preserved g c =
    let ns = keys c.args.names.now in
    let at = slice_get-map (λ e. e.0) c.args.names.now.entries c.loop-place.place ∙ ap (option_map (λ e. e.0)) (sym c.in-Some.ensures.entry) in (
      subst (AreFronts c.put.new.self) (sym (taken_more ns c.loop-place.place c.in-Some.name.now at)) (c.put.ensures.fronts (take c.loop-place.place ns) c.loop-place.invariant.0),
      omega (arith, c.put.ensures.chains, c.loop-place.invariant.1),
    )
