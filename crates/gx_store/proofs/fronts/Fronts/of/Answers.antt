use Rattle.std.proofs.Common.{take, option_map, sym, ap, subst, ◌∙◌}
use Rattle.std.proofs.lemmas.Option.{slice_get-map}
use Rattle.indexmap.specs.IndexMap.{keys}
use Rattle.gx_store.specs.Chains.{AreFronts}
use Rattle.gx_store.proofs.Chained.{taken_more}
use Rattle.gx_store.proofs.fronts.Fronts.of.Goals as goal

pub loop-place-preserved : goal.loop-place-preserved
loop-place-preserved g c =
    let ns = keys c.args.names.now in
    let at = slice_get-map (λ e. e.0) c.args.names.now.entries c.loop-place.place ∙ ap (option_map (λ e. e.0)) (sym c.in-Some.ensures.entry) in (
      subst (AreFronts c.put.new.self) (sym (taken_more ns c.loop-place.place c.in-Some.name.now at)) (c.put.ensures.fronts (take c.loop-place.place ns) c.loop-place.invariant.0),
      c.put.ensures.chains ∙ c.loop-place.invariant.1,
    )
