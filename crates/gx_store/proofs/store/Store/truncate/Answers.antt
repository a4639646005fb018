use Rattle.std.proofs.Common.{◌≡◌, ◌≤◌, ◌∷◌, [], length, take, map, refl, sym, ap, subst, ◌∙◌, arith}
use Rattle.std.proofs.lemmas.List.{map_push, length-append, length-map, length_push, take_all}
use Rattle.indexmap.specs.IndexMap.{keys}
use Rattle.gx_store.specs.Stores.{AreHeld}
use Rattle.gx_store.specs.Chains.{AreFronts}
use Rattle.gx_store.specs.Objects.{shown_stored}
use Rattle.gx_store.proofs.Held.{first_less, held_less}
use Rattle.gx_store.proofs.Keys.{under}
use Rattle.gx_store.proofs.store.Store.truncate.Goals as goal

pub loop-self-init : goal.loop-self-init
loop-self-init g c = (refl, c.self.invariant.0, c.self.invariant.1, refl)

pub invariant_of-self : goal.invariant_of-self
invariant_of-self g c = (c.loop-self.invariant.1, c.loop-self.invariant.2)

pub pop-requires-in-Some : goal.pop-requires-in-Some
pop-requires-in-Some g c =
    let n = c.in-Some.name in
    let popped = ap (map (λ e. e.0)) c.in-Some.ensures.entries ∙ map_push (λ e. e.0) c.pop.new.self.entries (n, c.in-Some.object) in
    let fronts = c.loop-self.self-inside.fronts in
    omega (arith, c.loop-self.invariant.2.chains, ap length popped, length_push (keys c.pop.new.self) n, fronts.heads.ok.0)

pub loop-self-preserved-in-Some : goal.loop-self-preserved-in-Some
loop-self-preserved-in-Some g c =
    let n = c.in-Some.name in
    let object = c.in-Some.object in
    let es = c.pop.new.self.entries in
    let rs = map shown_stored es in
    let popped = ap (map shown_stored) c.in-Some.ensures.entries ∙ map_push shown_stored es (n, object) in
    let named = ap (map (λ e. e.0)) c.in-Some.ensures.entries ∙ map_push (λ e. e.0) es (n, object) in
    let kept = c.loop-self.invariant in
    let names = g.N.Namer.name_of c.loop-self.self-inside.namer in
    let all = subst (AreHeld names) popped kept.1 in
    let within : c.args.len ≤ length rs = omega (arith, c.loop-self-test.true, c.len.ensures.len, c.pop.ensures.len, length-map es shown_stored, ap length c.in-Some.ensures.entries, length-append es ((n, object) ∷ [])) in (
      kept.0,
      held_less names rs (under n object) all,
      c.pop-in-Some.ensures (keys c.pop.new.self) (subst (AreFronts c.loop-self.self-inside.fronts) named kept.2),
      sym (first_less c.args.len rs (under n object) within) ∙ ap (take c.args.len) (sym popped) ∙ kept.3,
    )

pub returns : goal.returns
returns g c =
    let es = c.loop-self.self-inside.objects.entries in
    let kept = c.loop-self.invariant in
    let short : length (map shown_stored es) ≤ c.args.len = omega (arith, c.loop-self-test.false, c.len.ensures.len, length-map es shown_stored) in
    subst (λ v. (c.loop-self.self-inside.namer, map shown_stored es) ≡ (v.0, take c.args.len v.1)) c.self.view_is (λ i. (kept.0 i, (sym (take_all c.args.len (map shown_stored es) short) ∙ kept.3) i))
