-- The names between two, chain by chain.
use Rattle.std.proofs.Common.{◌≡◌, ℕ, ◌+◌, ◌<◌, Bool, true, false, not, ◌&&◌, ◌||◌, List, refl, sym, ap, ◌∙◌, arith, inl, inr}
use Rattle.std.specs.Prelude.{nat_lt, nat_eq}
use Rattle.std.specs.List.{list_all}
use Rattle.std.proofs.lemmas.Bool.{eq-eqb, eqb-true, false≢true, false_from_ne_true, lt-ltb, ltb-true}
use Rattle.gx_model.specs.Objects.{is_name}
use Rattle.gx_object.specs.declared.name.Name.{Name}
use Rattle.gx_store.specs.Chains.{chain_of, is_in_chain}
use Rattle.gx_store.specs.NameOrder.{is_within}
use Rattle.gx_store.specs.Prefixes.{joined, picked}
use Rattle.gx_store.specs.declared.prefix.Prefix.TheVariants.{Absent, Ambiguous}
use Rattle.gx_store.proofs.FrontOrder.{chain_after, chain_before}
use Rattle.gx_store.proofs.NameOrder.{compared}
use Rattle.gx_store.proofs.Picking.{picked_none, picked_parts, picked_same}

none_left : (b : Bool) → (b && false) ≡ false
none_left true = refl
none_left false = refl

-- below one more is below, or that one
split : (k c : ℕ) (b : Bool) → (((nat_lt k c && b) && (nat_eq k c && b)) ≡ false) × (((nat_lt k c && b) || (nat_eq k c && b)) ≡ (nat_lt k (c + 1) && b))
split k c b = by (nat_lt k c) (nat_eq k c) (nat_lt k (c + 1)) b refl refl refl
  where
    not_both : nat_lt k c ≡ true → nat_eq k c ≡ true → ⊥
    not_both p q = let l = ltb-true k c p in let e = eqb-true k c q in omega arith

    no_less : nat_lt k c ≡ true → nat_lt k (c + 1) ≡ false → ⊥
    no_less p r = let l = ltb-true k c p in false≢true (sym r ∙ lt-ltb k (c + 1) (omega arith))

    no_same : nat_eq k c ≡ true → nat_lt k (c + 1) ≡ false → ⊥
    no_same q r = let e = eqb-true k c q in false≢true (sym r ∙ lt-ltb k (c + 1) (omega arith))

    no_other : nat_lt k c ≡ false → nat_eq k c ≡ false → nat_lt k (c + 1) ≡ true → ⊥
    no_other p q r =
        let l = ltb-true k (c + 1) r in
        elim (compared k c) [
          | inl m ↦ false≢true (sym p ∙ lt-ltb k c m)
          | inr (inl e) ↦ false≢true (sym q ∙ eq-eqb k c e)
          | inr (inr m) ↦ omega arith
        ]

    by : (x y z b : Bool) → nat_lt k c ≡ x → nat_eq k c ≡ y → nat_lt k (c + 1) ≡ z → (((x && b) && (y && b)) ≡ false) × (((x && b) || (y && b)) ≡ (z && b))
    by true true z b p q r = absurd (not_both p q)
    by true false false b p q r = absurd (no_less p r)
    by true false true true p q r = (refl, refl)
    by true false true false p q r = (refl, refl)
    by false true false b p q r = absurd (no_same q r)
    by false true true true p q r = (refl, refl)
    by false true true false p q r = (refl, refl)
    by false false true b p q r = absurd (no_other p q r)
    by false false false b p q r = (refl, refl)

halves : (x b : Bool) → (((x && b) && (not x && b)) ≡ false) × (((x && b) || (not x && b)) ≡ b)
halves true true = (refl, refl)
halves true false = (refl, refl)
halves false true = (refl, refl)
halves false false = (refl, refl)

module _ (chains : ℕ) (least greatest : Name) (ns : List Name) (names : list_all (λ n. is_name n.bytes) ns ≡ true) where
  pub at_first : (first : ℕ) → first ≡ chain_of chains least → is_name least.bytes ≡ true → Absent ≡ picked (λ n. nat_lt (chain_of chains n) first && is_within least.bytes greatest.bytes n.bytes) ns
  at_first first e name = sym (picked_none (λ n. is_name n.bytes) _ ns names (λ n good. none n (is_within least.bytes greatest.bytes n.bytes) refl))
    where
      none : (n : Name) → (b : Bool) → is_within least.bytes greatest.bytes n.bytes ≡ b → (nat_lt (chain_of chains n) first && b) ≡ false
      none n false p = none_left _
      none n true p =
          let after = chain_after chains least greatest n name p in
          ap (λ x. x && true) (false_from_ne_true _ (λ l. let low = ltb-true (chain_of chains n) first l in omega (arith, e, after, low)))

  pub at_next : (chain : ℕ) → joined (picked (λ n. nat_lt (chain_of chains n) chain && is_within least.bytes greatest.bytes n.bytes) ns) (picked (λ n. is_in_chain chains chain n && is_within least.bytes greatest.bytes n.bytes) ns)
      ≡ picked (λ n. nat_lt (chain_of chains n) (chain + 1) && is_within least.bytes greatest.bytes n.bytes) ns
  at_next chain = picked_parts _ _ _ ns (λ n. split (chain_of chains n) chain (is_within least.bytes greatest.bytes n.bytes))

  pub at_two : (chain : ℕ) → picked (λ n. nat_lt (chain_of chains n) chain && is_within least.bytes greatest.bytes n.bytes) ns ≡ Ambiguous → Ambiguous ≡ picked (λ n. is_within least.bytes greatest.bytes n.bytes) ns
  at_two chain e =
      ap (λ p. joined p (picked (λ n. not (nat_lt (chain_of chains n) chain) && is_within least.bytes greatest.bytes n.bytes) ns)) (sym e)
      ∙ picked_parts _ _ _ ns (λ n. halves (nat_lt (chain_of chains n) chain) (is_within least.bytes greatest.bytes n.bytes))

  pub at_last : (end : ℕ) → chain_of chains greatest < end → picked (λ n. nat_lt (chain_of chains n) end && is_within least.bytes greatest.bytes n.bytes) ns ≡ picked (λ n. is_within least.bytes greatest.bytes n.bytes) ns
  at_last end h = picked_same (λ n. is_name n.bytes) _ _ ns names (λ n good. all n good (is_within least.bytes greatest.bytes n.bytes) refl)
    where
      all : (n : Name) → is_name n.bytes ≡ true → (b : Bool) → is_within least.bytes greatest.bytes n.bytes ≡ b → (nat_lt (chain_of chains n) end && b) ≡ b
      all n good false p = none_left _
      all n good true p =
          let before = chain_before chains least greatest n good p in
          ap (λ x. x && true) (lt-ltb (chain_of chains n) end (omega (arith, h, before)))
