-- Where a text is cut: what stands before the first c, and what stands after it.
use Rattle.std.proofs.Common.{◌≡◌, ℕ, Bool, true, false, eqb, [], ◌∷◌, ◌++◌, Option, Some, None, refl, ap, subst, ◌∙◌, arith}
use Rattle.std.specs.List.{list_any}
use Rattle.std.specs.Option.{option_map}
use Rattle.std.proofs.lemmas.Bool.{eqb-true, not-true, not_from_false, or_parts}
use Rattle.std.proofs.lemmas.Bool.Decides.{nat_tests}
use Rattle.gx_model.specs.Texts.{Bytes, cut_at, lacks}

pub cut_here : (c : ℕ) (bs : Bytes) → cut_at c (c ∷ bs) ≡ Some ([], bs)
unfolding cut_at
cut_here c bs = let e : eqb c c ≡ true = grind (arith, nat_tests) in rw e refl

pub cut_past : (c b : ℕ) (bs : Bytes) → eqb b c ≡ false → cut_at c (b ∷ bs) ≡ option_map (λ p. (b ∷ p.0, p.1)) (cut_at c bs)
unfolding cut_at
cut_past c b bs e = rw e refl

pub lacks-cons : (c x : ℕ) (xs : Bytes) → lacks c (x ∷ xs) ≡ true → (eqb x c ≡ false) × (lacks c xs ≡ true)
lacks-cons c x xs h = let p = or_parts (eqb x c) (list_any (λ b. eqb b c) xs) (not-true _ h) in (p.0, not_from_false _ p.1)

-- no c stands in the front
pub cut_after : (c : ℕ) (xs ys : Bytes) → lacks c xs ≡ true → cut_at c (xs ++ c ∷ ys) ≡ Some (xs, ys)
cut_after c [] ys h = cut_here c ys
cut_after c (x ∷ xs) ys h =
    let p = lacks-cons c x xs h in
    cut_past c x (xs ++ c ∷ ys) p.0 ∙ ap (option_map (λ p. (x ∷ p.0, p.1))) (cut_after c xs ys p.1)

pub some_is : {A : Type 0} (x y : A) → Some x ≡ Some y → x ≡ y
some_is x y e = cc

pub map_some : {A B : Type 0} (f : A → B) (o : Option A) (y : B) → option_map f o ≡ Some y → (x : A) × (o ≡ Some x) × (f x ≡ y)
map_some f None y e = absurd cc
map_some f (Some x) y e = (x, refl, cc)

-- what cut_at gives stands in the text, with c between
pub cut_spelled : (c : ℕ) (bs : Bytes) (p : Bytes × Bytes) → cut_at c bs ≡ Some p → bs ≡ p.0 ++ c ∷ p.1
unfolding cut_at
cut_spelled c [] p e = absurd cc
cut_spelled c (b ∷ bs) p e = step (λ q h. cut_spelled c bs q h) (eqb b c) refl where
  step : ((q : Bytes × Bytes) → cut_at c bs ≡ Some q → bs ≡ q.0 ++ c ∷ q.1) → (t : Bool) → eqb b c ≡ t → b ∷ bs ≡ p.0 ++ c ∷ p.1
  step again true t =
      let h : Some ([], bs) ≡ Some p = rw t at e in
      subst (λ (q : Bytes × Bytes). b ∷ bs ≡ q.0 ++ c ∷ q.1) (some_is ([], bs) p h) (ap (λ (x : ℕ). x ∷ bs) (eqb-true b c t))
  step again false t =
      let h = map_some (λ (q : Bytes × Bytes). (b ∷ q.0, q.1)) (cut_at c bs) p (rw t at e) in
      subst (λ (q : Bytes × Bytes). b ∷ bs ≡ q.0 ++ c ∷ q.1) h.2 (ap (λ (x : Bytes). b ∷ x) (again h.0 h.1))
