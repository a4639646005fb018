use Rattle.std.proofs.Common.{◌≡◌, ◌++◌, ◌∷◌, [], Option, Some, None, false, ap, refl, sym, subst, ◌∙◌}
use Rattle.std.specs.Option.{is_some}
use Rattle.std.specs.Result.{IfOk}
use Rattle.indexmap.proofs.CallerLemmas.{insert_entry-new}
use Rattle.gx_object.specs.contracts.name.NamePartialEq.TheImpl as equality
use Rattle.gx_listed.specs.Listings.{Pushes, number_named}
use Rattle.gx_listed.proofs.Numbers.{lookup_free}
use Rattle.gx_listed.proofs.listing.Listing.push.Goals as goal
use Rattle.gx_listed.proofs.listing.Listing.push.Goals.{in-Ok, in-Err}

nothing : {X : Type 0} (o : Option X) → is_some o ≡ false → o ≡ None
nothing None e = refl
nothing (Some x) e = absurd (cc)

pub returns-clause-pushes : goal.returns-clause-pushes
returns-clause-pushes g c =
    let n = c.args.name in
    let es = c.self.inside.objects.entries in
    let free = nothing (number_named c.args.self.now n.bytes) (ap is_some (sym c.number.ensures) ∙ sym c.is_some.ensures ∙ c.if-is_some.false) in
    let none = ap (λ v. number_named v n.bytes) c.self.view_is ∙ free in
    elim c.match-insert.branch [
      | in-Ok w ↦ subst (λ r. IfOk r (Pushes c.args.self.now c.insert.new.self.entries (n, c.args.standing))) (sym w.result-is)
          (w.in-Ok.ensures.entries ∙ insert_entry-new (equality.eq-value).it c.self.inside.objects n c.args.standing (lookup_free n es none) ∙ ap (λ v. v ++ (n, c.args.standing) ∷ []) c.self.view_is, free)
      | in-Err w ↦ subst (λ r. IfOk r (Pushes c.args.self.now c.insert.new.self.entries (n, c.args.standing))) (sym w.result-is) tt
    ]
