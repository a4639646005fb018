-- The places of names among records.
use Rattle.std.proofs.Common.{◌≡◌, ℕ, zero, suc, ◌<◌, Bool, false, cond, List, [], ◌∷◌, length, get_or, take, Some, None, inl, inr, refl, sym, ap, ◌∙◌, arith, length-take}
use Rattle.std.specs.List.{position_or_len}
use Rattle.std.proofs.lemmas.Bool.{cases_lt, false≢true, lt-ltb}
use Rattle.std.proofs.lemmas.List.{get_or-take}
use Rattle.std.proofs.lemmas.List.Quantifiers.{position-Some}
use Rattle.std.proofs.lemmas.List.Sums.{fails_before_first}
use Rattle.gx_model.specs.declared.objects.Kind.TheVariants as kinds
use Rattle.gx_model.specs.Texts.{Bytes, same_bytes}
use Rattle.gx_model.specs.Histories.{Record}
use Rattle.gx_model.specs.Records.Sound.{AnyByRecursion}
use Rattle.gx_model.specs.Records.Growth.{record_named}
use Rattle.gx_model.proofs.Texts.PathTests.{is_same, is_true}
use Rattle.gx_store.specs.Stores.{place_named}
use Rattle.gx_repo.specs.Places.{IsPlace}

-- what is read past the end
abbrev pub no_record : Record
no_record = record { name = []; kind = kinds.Blob; body = [] }

-- a place that is found is that of the first record with the name
pub is_place : (rs : List Record) (n : Bytes) (i : ℕ) → place_named rs n ≡ Some i → IsPlace rs n i
is_place rs n i e =
    let test : Record → Bool = λ r. same_bytes n r.name in
    record {
      within = (position-Some test rs i no_record e).0;
      named = λ d. (position-Some test rs i d e).1;
      earlier = λ j d l. (position-Some test rs i d e).2 j l;
    }

-- a place among the first records is one among all
pub place_taken : (rs : List Record) (k : ℕ) (n : Bytes) (i : ℕ) → IsPlace rs n i → i < k → IsPlace (take k rs) n i
place_taken rs k n i p l = record {
  within = omega (arith, length-take k rs, p.within, l);
  named = λ d. ap (λ (r : Record). same_bytes n r.name) (get_or-take k rs i d l) ∙ p.named d;
  earlier = λ j d m. ap (λ (r : Record). same_bytes n r.name) (get_or-take k rs j d (omega (arith, l, m))) ∙ p.earlier j d m;
}

-- a record with the name isn't told to have another
other_name : (n : Bytes) (r : Record) → r.name ≡ n → same_bytes n r.name ≡ false → ⊥
other_name n r e f = false≢true (sym f ∙ is_true _ (is_same n r.name (sym e)))

module _ (P : Record → Type 0) (n : Bytes) (named : (r : Record) → P r → r.name ≡ n) where
  -- a name that the first records hold isn't first found behind them
  pub found_before : (k : ℕ) (rs : List Record) (i : ℕ) → ((j : ℕ) → j < i → same_bytes n (get_or rs j no_record).name ≡ false) → AnyByRecursion P (take k rs) → i < k
  found_before zero rs i f a = absurd a
  found_before (suc k) [] i f a = absurd a
  found_before (suc k) (r ∷ rs) zero f a = omega arith
  found_before (suc k) (r ∷ rs) (suc i) f (inl p) = absurd (other_name n r (named r p) (f zero (omega arith)))
  found_before (suc k) (r ∷ rs) (suc i) f (inr q) = let l = found_before k rs i (λ j m. f (suc j) (omega (arith, m))) q in omega (arith, l)

  -- a name that no record has isn't held
  pub held_nowhere : (rs : List Record) → ((j : ℕ) → j < length rs → same_bytes n (get_or rs j no_record).name ≡ false) → AnyByRecursion P rs → ⊥
  held_nowhere [] f a = absurd a
  held_nowhere (r ∷ rs) f (inl p) = other_name n r (named r p) (f zero (omega arith))
  held_nowhere (r ∷ rs) f (inr q) = held_nowhere rs (λ j m. f (suc j) (omega (arith, m))) q

-- where no place is found, no record has the name
pub no_place : (rs : List Record) (n : Bytes) → place_named rs n ≡ None → (j : ℕ) → j < length rs → same_bytes n (get_or rs j no_record).name ≡ false
no_place rs n e j l =
    let test : Record → Bool = λ r. same_bytes n r.name in
    elim (cases_lt (position_or_len test rs) (length rs)) [
      | inl m ↦ absurd (let clash : Some (position_or_len test rs) ≡ None = ap (λ b. cond b (Some (position_or_len test rs)) None) (sym (lt-ltb (position_or_len test rs) (length rs) m)) ∙ e in cc)
      | inr m ↦ fails_before_first test rs j no_record (omega (arith, m, l))
    ]

-- what the first records hold, all hold
pub held_by_all : (P : Record → Type 0) (k : ℕ) (rs : List Record) → AnyByRecursion P (take k rs) → AnyByRecursion P rs
held_by_all P zero rs a = absurd a
held_by_all P (suc k) [] a = absurd a
held_by_all P (suc k) (r ∷ rs) (inl p) = inl p
held_by_all P (suc k) (r ∷ rs) (inr q) = inr (held_by_all P k rs q)

-- the record at the place of a name is the one that it names
pub record_at_place : (rs : List Record) (n : Bytes) (i : ℕ) → IsPlace rs n i → record_named rs n ≡ Some (get_or rs i no_record)
record_at_place [] n i p = absurd (let l = p.within in omega (arith, l))
record_at_place (r ∷ rs) n zero p = ap (λ b. cond b (Some r) (record_named rs n)) (p.named no_record)
record_at_place (r ∷ rs) n (suc i) p =
    ap (λ b. cond b (Some r) (record_named rs n)) (p.earlier zero no_record (omega arith))
    ∙ record_at_place rs n i (record { within = omega (arith, p.within); named = p.named; earlier = λ j d m. p.earlier (suc j) d (omega (arith, m)) })

-- a name without a place names no record
pub no_record_named : (rs : List Record) (n : Bytes) → ((j : ℕ) → j < length rs → same_bytes n (get_or rs j no_record).name ≡ false) → record_named rs n ≡ None
no_record_named [] n f = refl
no_record_named (r ∷ rs) n f = ap (λ b. cond b (Some r) (record_named rs n)) (f zero (omega arith)) ∙ no_record_named rs n (λ j m. f (suc j) (omega (arith, m)))
