use Rattle.std.proofs.Common.{◌≡◌, ℕ, zero, suc, List, [], ◌∷◌, ◌++◌, take, drop, refl, sym, ap, subst, ◌∙◌}
use Rattle.gx_model.specs.Records.Sound.{IsSound}
use Rattle.gx_model.specs.Laws.RepositoryLaws.{with_records}
use Rattle.gx_repo.specs.Repositories.{held_in}
use Rattle.gx_repo.specs.Rooms.{IsFront}
use Rattle.gx_repo.proofs.RecordRooms.{front_taken}
use Rattle.gx_repo.proofs.repo.Repo.truncate.Goals as goal

-- a front and what follows it
rejoined : {X : Type 0} (n : ℕ) (xs : List X) → take n xs ++ drop n xs ≡ xs
rejoined zero xs = refl
rejoined (suc n) [] = refl
rejoined (suc n) (x ∷ xs) = ap (λ ys. x ∷ ys) (rejoined n xs)

pub invariant_of-self : goal.invariant_of-self
invariant_of-self g c =
    let names = g.N.Namer.name_of c.self.inside.store.0 in
    let namer = g.met.N.Namer.is_namer c.self.inside.store.0 in
    let rs = c.self.inside.store.1 in
    let refs = c.self.inside.refs in
    let whole = subst (λ z. IsSound names (record { records = z; refs = refs })) (sym (rejoined c.args.len rs)) c.self.invariant.0 in
    let held = rw (sym c.self.view_is) at c.requires.targets in
    let law = ((c.parts_change.ensures names namer).first (take c.args.len rs) (drop c.args.len rs) refs whole held).0 in (
      subst (λ v. IsSound (g.N.Namer.name_of v.0) (record { records = v.1; refs = refs })) (sym c.truncate.ensures) law,
      subst (λ xs. IsFront xs c.truncate.new.self.1) (sym c.truncate-2.ensures.items) (subst (λ v. IsFront (take c.args.len c.self.inside.rooms.items) v.1) (sym c.truncate.ensures) (front_taken c.args.len rs c.self.inside.rooms.items c.self.invariant.1)),
    )

pub returns : goal.returns
returns g c =
    let refs = c.self.inside.refs in
    ap (λ s. (s.0, held_in s.1 refs)) c.truncate.ensures ∙ ap (λ v. (v.0, with_records v.1 (take c.args.len v.1.records))) c.self.view_is
