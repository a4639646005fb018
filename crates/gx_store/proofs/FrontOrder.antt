-- Chains stand in the order of the names.
use Rattle.std.proofs.Common.{◌≡◌, ℕ, zero, suc, ◌+◌, ◌*◌, ◌/◌, ◌^◌, ◌<◌, ◌≤◌, true, not, [], ◌∷◌, length, refl, sym, ap, ◌∙◌, arith, inl, inr}
use Rattle.std.specs.Prelude.{nat_lt, nat_eq}
use Rattle.std.specs.Ordering.{ordering_then, is_le, is_lt}
use Rattle.std.specs.List.{list_all}
use Rattle.std.proofs.Math.Nat.{mul-le-mul_right, pow-succ'}
use Rattle.std.proofs.lemmas.Bool.{and_parts, false≢true, ltb-true}
use Rattle.gx_model.specs.Texts.{Bytes, byte_cmp}
use Rattle.gx_model.specs.Objects.{is_name}
use Rattle.gx_object.specs.declared.name.Name.{Name}
use Rattle.gx_store.specs.Chains.{chain_of, front}
use Rattle.gx_store.specs.NameOrder.{is_within}
use Rattle.gx_store.proofs.NameOrder.{compared, is_equal, is_greater, is_less}

-- the number that the first bytes spell
value : ℕ → Bytes → ℕ
value zero bytes = 0
value (suc k) [] = 0
value (suc k) (byte ∷ bytes) = byte * 256 ^ k + value k bytes

power : (k : ℕ) → 0 < 256 ^ k
power zero = omega arith
power (suc k) = let rest = power k in omega (arith, pow-succ' 256 k)

value_small : (k : ℕ) (xs : Bytes) → list_all (λ byte. nat_lt byte 256) xs ≡ true → value k xs < 256 ^ k
unfolding value
value_small zero xs h = omega arith
value_small (suc k) [] h = power (suc k)
value_small (suc k) (x ∷ xs) h =
    let p = and_parts (nat_lt x 256) _ h in
    let rest = value_small k xs p.1 in
    let low : x + 1 ≤ 256 = let l = ltb-true x 256 p.0 in omega arith in
    let most = mul-le-mul_right (256 ^ k) low in
    omega (arith, pow-succ' 256 k, most, rest)

below : (k x y v w : ℕ) → x < y → v < 256 ^ k → x * 256 ^ k + v ≤ y * 256 ^ k + w
below k x y v w l small =
    let low : x + 1 ≤ y = omega arith in
    let most = mul-le-mul_right (256 ^ k) low in
    omega (arith, most, small)

value_rises : (k : ℕ) (xs ys : Bytes) → list_all (λ byte. nat_lt byte 256) xs ≡ true → is_le (byte_cmp xs ys) ≡ true → value k xs ≤ value k ys
unfolding value
value_rises zero xs ys h e = omega arith
value_rises (suc k) [] ys h e = omega arith
value_rises (suc k) (x ∷ xs) [] h e = absurd (false≢true e)
value_rises (suc k) (x ∷ xs) (y ∷ ys) h e =
    let p = and_parts (nat_lt x 256) _ h in
    elim (compared x y) [
      | inl l ↦ below k x y (value k xs) (value k ys) l (value_small k xs p.1)
      | inr (inl f) ↦
          let rest = value_rises k xs ys p.1 (ap (λ o. is_le (ordering_then o (byte_cmp xs ys))) (sym (is_equal x y f)) ∙ e) in
          let same = ap (λ b. b * 256 ^ k) f in omega (arith, rest, same)
      | inr (inr l) ↦ absurd (false≢true (ap (λ o. is_le (ordering_then o (byte_cmp xs ys))) (sym (is_greater x y l)) ∙ e))
    ]

value_falls : (k : ℕ) (xs ys : Bytes) → list_all (λ byte. nat_lt byte 256) ys ≡ true → not (is_lt (byte_cmp xs ys)) ≡ true → value k ys ≤ value k xs
unfolding value
value_falls zero xs ys h e = omega arith
value_falls (suc k) xs [] h e = omega arith
value_falls (suc k) [] (y ∷ ys) h e = absurd (false≢true e)
value_falls (suc k) (x ∷ xs) (y ∷ ys) h e =
    let p = and_parts (nat_lt y 256) _ h in
    elim (compared y x) [
      | inl l ↦ below k y x (value k ys) (value k xs) l (value_small k ys p.1)
      | inr (inl f) ↦
          let rest = value_falls k xs ys p.1 (ap (λ o. not (is_lt (ordering_then o (byte_cmp xs ys)))) (sym (is_equal x y (sym f))) ∙ e) in
          let same = ap (λ b. b * 256 ^ k) f in omega (arith, rest, same)
      | inr (inr l) ↦ absurd (false≢true (ap (λ o. not (is_lt (ordering_then o (byte_cmp xs ys)))) (sym (is_less x y l)) ∙ e))
    ]

front_value : (bytes : Bytes) → front bytes ≡ value 4 bytes
unfolding value front
front_value [] = refl
front_value (a ∷ []) = omega arith
front_value (a ∷ b ∷ []) = omega arith
front_value (a ∷ b ∷ c ∷ []) = omega arith
front_value (a ∷ b ∷ c ∷ d ∷ rest) = omega arith

bytes_of_name : (n : Bytes) → is_name n ≡ true → list_all (λ byte. nat_lt byte 256) n ≡ true
bytes_of_name n h = (and_parts (nat_eq (length n) 20) _ h).1

pub front_small : (n : Bytes) → is_name n ≡ true → front n < 4294967296
front_small n h = let small = value_small 4 n (bytes_of_name n h) in omega (arith, front_value n, small)

pub chain_within : (chains : ℕ) (n : Name) → 0 < chains → is_name n.bytes ≡ true → chain_of chains n < chains
unfolding chain_of
chain_within chains n some h =
    let small = front_small n.bytes h in
    let least : front n.bytes ≤ 4294967295 = omega arith in
    let most = mul-le-mul_right chains least in
    omega (arith, most)

parts : (chains f g : ℕ) → f ≤ g → f * chains / 4294967296 ≤ g * chains / 4294967296
parts chains f g h = let most = mul-le-mul_right chains h in omega (arith, most)

-- the chains of the names between two are between the chains of these
pub chain_after : (chains : ℕ) (least greatest n : Name) → is_name least.bytes ≡ true → is_within least.bytes greatest.bytes n.bytes ≡ true → chain_of chains least ≤ chain_of chains n
unfolding chain_of
chain_after chains least greatest n h e =
    let rises = value_rises 4 least.bytes n.bytes (bytes_of_name least.bytes h) (and_parts (is_le (byte_cmp least.bytes n.bytes)) _ e).0 in
    parts chains (front least.bytes) (front n.bytes) (omega (arith, rises, front_value least.bytes, front_value n.bytes))

pub chain_before : (chains : ℕ) (least greatest n : Name) → is_name n.bytes ≡ true → is_within least.bytes greatest.bytes n.bytes ≡ true → chain_of chains n ≤ chain_of chains greatest
unfolding chain_of
chain_before chains least greatest n h e =
    let falls = value_falls 4 greatest.bytes n.bytes (bytes_of_name n.bytes h) (and_parts (is_le (byte_cmp least.bytes n.bytes)) _ e).1 in
    parts chains (front n.bytes) (front greatest.bytes) (omega (arith, falls, front_value greatest.bytes, front_value n.bytes))
