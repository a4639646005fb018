-- What a sink took of texts that were sent one after the other, and the whole that they make.
use Rattle.std.proofs.Common.{◌≡◌, ℕ, zero, suc, ◌<◌, ◌≤◌, ◌+◌, ◌^◌, sym, ap, subst, ◌∙◌, arith, false, List, [], ◌∷◌, ◌++◌, drop, length, append_assoc, append-nil, Option, None, Some, Result, Ok, Err}
use Rattle.std.specs.Prelude.{IfOk}
use Rattle.std.specs.Fmt.{decimal}
use Rattle.gx_model.specs.Texts.Numbers.{number_text}
use Rattle.gx_model.proofs.Texts.Decimals.{text_is_decimal}
use Rattle.std.specs.List.{AllByRecursion, flat_map, slice_get}
use Rattle.std.proofs.lemmas.List.{drop_all}
use Rattle.gx_model.specs.declared.store_versions.Version.TheVariants.{Two}
use Rattle.gx_model.specs.Objects.{hex, line}
use Rattle.gx_model.specs.Stores.StoreText.{length_text}
use Rattle.gx_model.specs.Texts.{Bytes}
use Rattle.gx_model.specs.Texts.Sinks.{Taken, Took}
use Rattle.gx_model.proofs.Texts.SentTexts.{IsLeft, left_fails, none_left, took_both}
use Rattle.gx_text.specs.declared.device.Failed.{Failed}
use Rattle.gx_file.specs.Sending.{Sent}

-- what a sink holds that took nothing before
pub held_whole : (was now : Taken) (text bytes : Bytes) → was ≡ record { bytes = []; failed = false } → bytes ≡ now.bytes → Took (Some was) (Some now) text → bytes ≡ text
held_whole was now text bytes empty held took =
    let sent = subst (λ w. Took (Some w) (Some now) text) empty took in
    let same : now ≡ record { bytes = text; failed = false } = cc sent in
    held ∙ ap (λ (t : Taken). t.bytes) same

-- the last text, and what came of the whole
pub last_left : (whole : Bytes) (was mid now : Option Taken) (text : Bytes) (answer : Result (Unit {0}) Failed) → IsLeft whole was mid text → Sent text mid now answer → Sent whole was now answer
last_left whole was mid now text (Ok u) h k = subst (Took was now) (sym h.parts) (took_both was mid now h.front text h.took k)
last_left whole was mid now text (Err f) h k = left_fails whole was mid now text [] (subst (IsLeft whole was mid) (sym (append-nil text)) h) k

-- ---- the texts of a list

module _ {X : Type 0} (f : X → Bytes) (whole : Bytes) (was mid : Option Taken) (xs : List X) (i : ℕ) where
  -- the text at a place comes next
  pub next_left : (x : X) → drop i xs ≡ x ∷ drop (i + 1) xs → IsLeft whole was mid (flat_map f (drop i xs)) → IsLeft whole was mid (f x ++ flat_map f (drop (i + 1) xs))
  next_left x e h = subst (λ left. IsLeft whole was mid (flat_map f left)) e h

  -- behind the last one nothing is left
  pub took_all : length xs ≤ i → IsLeft whole was mid (flat_map f (drop i xs)) → Took was mid whole
  took_all le h = none_left whole was mid (flat_map f (drop i xs)) (ap (flat_map f) (drop_all i xs le)) h

-- the element at a place, and those behind it
pub from_place : {X : Type 0} (xs : List X) (i : ℕ) (x : X) → Some x ≡ slice_get xs i → drop i xs ≡ x ∷ drop (i + 1) xs
from_place [] i x e = absurd cc
from_place (y ∷ ys) zero x e = let same : x ≡ y = cc in ap (λ z. z ∷ ys) (sym same)
from_place (y ∷ ys) (suc i) x e = let s : suc i + 1 ≡ suc (i + 1) = omega arith in rw s (from_place ys i x e)

-- what holds of the elements behind a place, and of the one there, holds of those from the place on
pub all_from : {X : Type 0} (P : X → Type 0) (xs : List X) (i : ℕ) (x : X) → drop i xs ≡ x ∷ drop (i + 1) xs → P x → (AllByRecursion P (drop i xs) → AllByRecursion P xs) → AllByRecursion P (drop (i + 1) xs) → AllByRecursion P xs
all_from P xs i x e p h rest = h (subst (AllByRecursion P) (sym e) (p, rest))

-- what holds of all if it holds of those behind the last holds of all
pub all_of : {X : Type 0} (P : X → Type 0) (xs : List X) (i : ℕ) → length xs ≤ i → (AllByRecursion P (drop i xs) → AllByRecursion P xs) → AllByRecursion P xs
all_of P xs i le h = h (subst (AllByRecursion P) (sym (drop_all i xs le)) tt)

-- there is an element at each place before the length
pub is_within : {X : Type 0} (xs : List X) (i : ℕ) → None ≡ slice_get xs i → i < length xs → ⊥
is_within [] i e h = omega (arith, h)
is_within (x ∷ xs) zero e h = cc
is_within (x ∷ xs) (suc i) e h = is_within xs i e (omega (arith, h))

-- what holds anyway holds where a text went out
pub anyway : {P : Type 0} (answer : Result (Unit {0}) Failed) → P → IfOk answer (λ _. P)
anyway (Ok u) p = p
anyway (Err f) p = tt

-- A count goes out behind its word where their parts do, one after the other.
pub count_sent : (was now : Option Taken) (answer : Result (Unit {0}) Failed) (word digits : Bytes) (n : ℕ) → n < 2 ^ 64 → digits ≡ decimal n
    → Sent (word ++ (32 ∷ (digits ++ 10 ∷ []))) was now answer → Sent (line word (number_text n)) was now answer
count_sent was now answer word digits n l e h = subst (λ t. Sent t was now answer) (ap (λ d. word ++ (32 ∷ (d ++ 10 ∷ []))) (e ∙ sym (text_is_decimal n l)) ∙ sym (parts word (number_text n))) h where
  parts : (word x : Bytes) → line word x ≡ word ++ (32 ∷ (x ++ 10 ∷ []))
  parts word x = simp append_assoc

-- A body goes out behind its line where its parts do, one after the other.
pub body_sent : (was now : Option Taken) (answer : Result (Unit {0}) Failed) (word number digits name body : Bytes) → length body < 2 ^ 64 → number ≡ decimal (length body) → digits ≡ hex name
    → Sent (word ++ (32 ∷ (number ++ (32 ∷ (digits ++ (10 ∷ (body ++ 10 ∷ []))))))) was now answer → Sent (line word (length_text Two (length body) name) ++ body ++ 10 ∷ []) was now answer
body_sent was now answer word number digits name body l e f h = subst (λ t. Sent t was now answer) (rw (e ∙ sym (text_is_decimal (length body) l), f) (parts word (number_text (length body)) (hex name) body)) h where
  parts : (word number digits body : Bytes) → word ++ (32 ∷ (number ++ (32 ∷ (digits ++ (10 ∷ (body ++ 10 ∷ [])))))) ≡ line word (number ++ 32 ∷ digits) ++ body ++ 10 ∷ []
  parts word number digits body = simp append_assoc
