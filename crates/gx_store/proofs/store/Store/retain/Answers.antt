use Rattle.std.proofs.Common.{◌≡◌, map, sym, ap, subst, ◌∙◌, arith, rules}
use Rattle.std.proofs.lemmas.List.{length-map}
use Rattle.gx_store.specs.Marked.{marked}
use Rattle.gx_store.specs.Objects.{shown_stored}
use Rattle.gx_store.specs.Stores.{AreHeld}
use Rattle.gx_store.proofs.Retained.{held_marked, marked_map, retained}
use Rattle.gx_store.proofs.store.Store.retain.Goals as goal

pub refill-requires-clause-chains : goal.refill-requires-clause-chains
refill-requires-clause-chains g c =
    let es = c.self.inside.objects.entries in
    omega (arith, c.retain.ensures.bound, c.self.invariant.1.chains, length-map es (λ e. e.0), c.self.inside.fronts.heads.ok.0)

pub refill-requires-clause-room : goal.refill-requires-clause-room
refill-requires-clause-room g c = omega (arith, c.self.invariant.1.room, c.self.inside.fronts.heads.ok.0)

pub invariant_of-self : goal.invariant_of-self
invariant_of-self g c =
    let es = c.self.inside.objects.entries in
    let marks = c.args.marks.now in
    let names = g.N.Namer.name_of c.self.inside.namer in
    let left : c.retain.new.self.entries ≡ marked marks es = retained _ (λ f. f.0.now) (λ f k v b w h call. search rules) _ es _ c.retain.ensures.filtered in
    (subst (AreHeld names) (sym (ap (map shown_stored) left ∙ marked_map shown_stored marks es)) (held_marked names marks (map shown_stored es) c.self.invariant.0), c.refill.ensures)

pub returns : goal.returns
returns g c =
    let es = c.self.inside.objects.entries in
    let marks = c.args.marks.now in
    let left : c.retain.new.self.entries ≡ marked marks es = retained _ (λ f. f.0.now) (λ f k v b w h call. search rules) _ es _ c.retain.ensures.filtered in
    subst (λ v. (c.self.inside.namer, map shown_stored c.retain.new.self.entries) ≡ (v.0, marked marks v.1)) c.self.view_is (λ i. (c.self.inside.namer, (ap (map shown_stored) left ∙ marked_map shown_stored marks es) i))
