-- What is put behind some bytes, by its parts.
use Rattle.std.proofs.Common.{◌≡◌, ℕ, ◌<◌, ◌^◌, refl, sym, ap, subst, ◌∙◌, List, [], ◌∷◌, ◌++◌, length, map, append_assoc, append-nil, Result, Ok, Err}
use Rattle.std.specs.Prelude.{IfErr, IfOk, OnOk}
use Rattle.std.specs.Fmt.{decimal}
use Rattle.std.specs.List.{flat_map}
use Rattle.gx_model.specs.Texts.{Bytes}
use Rattle.gx_model.specs.Texts.Numbers.{number_text}
use Rattle.gx_model.specs.Objects.{hex, line}
use Rattle.gx_model.specs.Stores.StoreText.{length_text}
use Rattle.gx_model.proofs.Texts.Decimals.{text_is_decimal}
use Rattle.gx_model.specs.declared.store_versions.Version.TheVariants.{Two}
use Rattle.gx_growing.specs.GrowingText.{Run, run_text}

module _ {E : Type 0} (result : Result (Unit {0}) E) (old new : Bytes) where
  -- such a text is put behind the old ones, unless memory ran out
  abbrev pub Puts : Bytes → Type 0
  Puts text = OnOk result (new ≡ old ++ text)

  -- a word and a number in a line
  pub count_put : (word digits : Bytes) (n : ℕ) → n < 2 ^ 64 → digits ≡ decimal n → Puts (word ++ (32 ∷ (digits ++ 10 ∷ []))) → Puts (line word (number_text n))
  count_put word digits n l e h = subst Puts (ap (λ d. word ++ (32 ∷ (d ++ 10 ∷ []))) (e ∙ sym (text_is_decimal n l)) ∙ parts word (number_text n)) h
    where
      parts : (w x : Bytes) → w ++ (32 ∷ (x ++ 10 ∷ [])) ≡ line w x
      parts w x = simp append_assoc

  -- a body behind its line
  pub body_put : (word number digits name body : Bytes) → length body < 2 ^ 64 → number ≡ decimal (length body) → digits ≡ hex name → Puts (word ++ (32 ∷ (number ++ (32 ∷ (digits ++ (10 ∷ (body ++ 10 ∷ [])))))))
      → Puts (line word (length_text Two (length body) name) ++ body ++ 10 ∷ [])
  body_put word number digits name body l e f h =
      subst Puts ((λ i. word ++ (32 ∷ ((e ∙ sym (text_is_decimal (length body) l)) i ++ (32 ∷ (f i ++ (10 ∷ (body ++ 10 ∷ []))))))) ∙ parts word (number_text (length body)) (hex name) body) h
    where
      parts : (word number digits body : Bytes) → word ++ (32 ∷ (number ++ (32 ∷ (digits ++ (10 ∷ (body ++ 10 ∷ [])))))) ≡ line word (number ++ 32 ∷ digits) ++ body ++ 10 ∷ []
      parts word number digits body = simp append_assoc

  -- the line of a run
  pub run_put : (run : Run) (place count digits : Bytes) → run.place < 2 ^ 64 → run.count < 2 ^ 64 → place ≡ decimal run.place → count ≡ decimal run.count → digits ≡ hex run.digest
      → Puts (place ++ (32 ∷ (count ++ (32 ∷ (digits ++ 10 ∷ []))))) → Puts (run_text run)
  run_put run place count digits l m e f g h =
      subst Puts (λ i. (e ∙ sym (text_is_decimal run.place l)) i ++ (32 ∷ ((f ∙ sym (text_is_decimal run.count m)) i ++ (32 ∷ (g i ++ 10 ∷ []))))) h

-- ---- one text behind the other

module _ {X : Type 0} (f : X → Bytes) where
  -- behind the first text those of all elements are left
  pub begun_put : (old first bytes : Bytes) (xs : List X) → bytes ≡ old ++ first → bytes ++ flat_map f xs ≡ old ++ (first ++ flat_map f xs)
  begun_put old first bytes xs e = ap (λ z. z ++ flat_map f xs) e ∙ append_assoc old first (flat_map f xs)

  -- one more
  pub next_put : (whole bytes new : Bytes) (left : List X) (x : X) (rest : List X) → left ≡ x ∷ rest → bytes ++ flat_map f left ≡ whole → new ≡ bytes ++ f x → new ++ flat_map f rest ≡ whole
  next_put whole bytes new left x rest l h e =
      ap (λ z. z ++ flat_map f rest) e ∙ append_assoc bytes (f x) (flat_map f rest) ∙ ap (λ z. bytes ++ flat_map f z) (sym l) ∙ h

  -- behind the last one there is the whole
  pub last_put : (whole bytes : Bytes) (left : List X) → left ≡ [] → bytes ++ flat_map f left ≡ whole → bytes ≡ whole
  last_put whole bytes left l h = sym (append-nil bytes) ∙ ap (λ z. bytes ++ flat_map f z) (sym l) ∙ h

  -- of elements that are seen so
  pub seen_put : {Y : Type 0} (view : Y → X) (ys : List Y) → flat_map (λ y. f (view y)) ys ≡ flat_map f (map view ys)
  seen_put view [] = refl
  seen_put view (y ∷ ys) = ap (λ z. f (view y) ++ z) (seen_put view ys)

-- what comes of an answer that isn't a fault
pub so_of_ok : {X E : Type 0} {P Q : X → Type 0} (result : Result X E) → IfOk result P → ((x : X) → P x → Q x) → IfOk result Q
so_of_ok (Ok x) p f = f x p
so_of_ok (Err e) p f = tt

-- and of three facts of it
pub so_of_three : {X E : Type 0} {P Q R S : X → Type 0} (result : Result X E) → IfOk result P → IfOk result Q → IfOk result R → ((x : X) → P x → Q x → R x → S x) → IfOk result S
so_of_three (Ok x) p q r f = f x p q r
so_of_three (Err e) p q r f = tt

-- what comes of an answer that is Ok, and of one that isn't
pub so_of_done : {X E : Type 0} {P Q : Type 0} (result : Result X E) → OnOk result P → (P → Q) → OnOk result Q
so_of_done (Ok x) p f = f p
so_of_done (Err e) p f = tt

pub so_of_err : {X E : Type 0} {P Q : E → Type 0} (result : Result X E) → IfErr result P → ((e : E) → P e → Q e) → IfErr result Q
so_of_err (Ok x) p f = tt
so_of_err (Err e) p f = f e p
