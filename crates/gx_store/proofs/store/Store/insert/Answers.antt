use Rattle.std.proofs.Common.{◌≡◌, map, Some, sym, ap, subst, ◌∙◌, refl}
use Rattle.std.proofs.lemmas.List.{map_push}
use Rattle.indexmap.proofs.CallerLemmas.{insert_entry-new}
use Rattle.indexmap.specs.IndexMap.{keys}
use Rattle.gx_model.specs.Records.Growth.{put}
use Rattle.gx_object.specs.contracts.name.NamePartialEq.TheImpl as equality
use Rattle.gx_store.specs.Stores.{AreHeld}
use Rattle.gx_store.specs.Chains.{AreFronts}
use Rattle.gx_store.specs.Objects.{shown_stored}
use Rattle.gx_store.proofs.Held.{held_more}
use Rattle.gx_store.proofs.Keys.{lookup_free, under}
use Rattle.gx_store.proofs.Putting.{put_free}
use Rattle.gx_store.proofs.store.Store.insert.Goals as goal

pub invariant_of-self-2 : goal.invariant_of-self-2
invariant_of-self-2 g c =
    let n = c.args.name in
    let es = c.self.inside.objects.entries in
    let names = g.N.Namer.name_of c.self.inside.namer in
    let free = rw (sym c.self.view_is) at c.requires.free in
    let named = rw (sym c.self.view_is) at c.requires.named in
    let last = c.in-Ok-insert.ensures.entries ∙ insert_entry-new (equality.eq-value).it c.self.inside.objects n _ (lookup_free n es free) in
    let pushed = ap (map shown_stored) last ∙ map_push shown_stored es _ in
    let known = ap (map (λ e. e.0)) last ∙ map_push (λ e. e.0) es _ in (
      subst (AreHeld names) (sym pushed) (held_more names (g.met.N.Namer.is_namer c.self.inside.namer) _ (under n c.args.object) named free c.self.invariant.0),
      subst (AreFronts c.put.new.self) (sym known) (c.put.ensures.fronts (keys c.self.inside.objects) c.reserve.ensures.fronts),
    )

pub returns-clause-puts : goal.returns-clause-puts
returns-clause-puts g c =
    let n = c.args.name in
    let es = c.self.inside.objects.entries in
    let new = under n c.args.object in
    let free = rw (sym c.self.view_is) at c.requires.free in
    let pushed = ap (map shown_stored) (c.in-Ok-insert.ensures.entries ∙ insert_entry-new (equality.eq-value).it c.self.inside.objects n _ (lookup_free n es free)) ∙ map_push shown_stored es _ in
    subst (λ v. (n.bytes ≡ n.bytes) × (put v.1 new ≡ Some (map shown_stored c.insert.new.self.entries))) c.self.view_is (refl, put_free (map shown_stored es) new free ∙ ap Some (sym pushed))
