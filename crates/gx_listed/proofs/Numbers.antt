-- The numbers of names: a map finds one by `==`, which is the equality of the bytes.
use Rattle.std.proofs.Common.{◌≡◌, ℕ, suc, Bool, true, false, cond, List, [], ◌∷◌, length, map, Option, Some, None, refl, sym, ap, ◌∙◌, arith, option_map}
use Rattle.std.specs.Prelude.{nat_lt, not, ◌+◌}
use Rattle.std.specs.List.{position, position_or_len}
use Rattle.std.specs.Map.{keys_of, lookup}
use Rattle.std.proofs.lemmas.Bool.Decides.{nat_tests}
use Rattle.std.proofs.lemmas.List.{length-map}
use Rattle.gx_model.specs.Texts.{Bytes, same_bytes}
use Rattle.gx_object.specs.declared.name.Name.{Name}
use Rattle.gx_object.specs.contracts.name.NamePartialEq.TheImpl as equality
use Rattle.gx_listed.specs.Listings.{Listed, number_named}
use Rattle.gx_listed.specs.declared.listing.Standing.{Standing}

-- the first that passes stands first, or where it stands among the others
pub position_step : {X : Type 0} (test : X → Bool) (x : X) (xs : List X) → position test (x ∷ xs) ≡ cond (test x) (Some 0) (option_map suc (position test xs))
position_step test x xs = by (test x)
  where
    k : ℕ
    k = position_or_len test xs

    apart : (b c : Bool) → c ≡ b → cond c (Some (1 + k)) None ≡ option_map suc (cond b (Some k) None)
    apart true c e = ap (λ b. cond b (Some (1 + k)) None) e ∙ ap Some (let s : 1 + k ≡ suc k = omega arith in s)
    apart false c e = ap (λ b. cond b (Some (1 + k)) None) e

    by : (b : Bool) → cond (nat_lt (cond (not b) (1 + k) 0) (suc (length xs))) (Some (cond (not b) (1 + k) 0)) None ≡ cond b (Some 0) (option_map suc (position test xs))
    by true = ap (λ b. cond b (Some 0) None) (let l : nat_lt 0 (suc (length xs)) ≡ true = grind (arith, nat_tests) in l)
    by false = apart (nat_lt k (length xs)) (nat_lt (1 + k) (suc (length xs))) (grind (arith, nat_tests))

-- a test of what is seen finds the same place among what is seen so
position_map : {X Y : Type 0} (view : X → Y) (test : Y → Bool) (xs : List X) → position_or_len test (map view xs) ≡ position_or_len (λ x. test (view x)) xs
position_map view test [] = refl
position_map view test (x ∷ xs) = ap (λ n. cond (not (test (view x))) (1 + n) 0) (position_map view test xs)

-- the map's number of a name is that of the list
pub number_found : (n : Name) (es : List Listed) → position ((equality.eq-value).it n) (keys_of es) ≡ number_named es n.bytes
number_found n es =
    let e = position_map (λ (one : Listed). one.0) (λ m. same_bytes n.bytes m.bytes) es in
    let l = length-map es (λ (one : Listed). one.0) in
    λ i. cond (nat_lt (e i) (l i)) (Some (e i)) None

-- where a name has no number, the map finds nothing
pub lookup_free : (n : Name) (es : List Listed) → number_named es n.bytes ≡ None → lookup ((equality.eq-value).it n) es ≡ None
lookup_free n [] free = refl
lookup_free n (e ∷ es) free = by (same_bytes n.bytes e.0.bytes) refl (sym (position_step (λ (one : Listed). same_bytes n.bytes one.0.bytes) e es) ∙ free) (lookup_free n es)
  where
    none : (o : Option ℕ) → option_map suc o ≡ None → o ≡ None
    none None h = refl
    none (Some i) h = absurd (cc)

    by : (b : Bool) → same_bytes n.bytes e.0.bytes ≡ b → cond b (Some 0) (option_map suc (number_named es n.bytes)) ≡ None
        → (number_named es n.bytes ≡ None → lookup ((equality.eq-value).it n) es ≡ None) → cond b (Some e.1) (lookup ((equality.eq-value).it n) es) ≡ None
    by true h f again = absurd (cc)
    by false h f again = again (none (number_named es n.bytes) f)
