-- Lists of what is found, and of what it is seen as.
use Rattle.std.proofs.Common.{◌≡◌, ◌∙◌, Bool, true, false, cond, ℕ, ◌+◌, ◌<◌, suc, List, [], ◌∷◌, ◌++◌, map, drop, take, get_or, length, refl, sym, ap, arith, append-nil}
use Rattle.std.specs.Prelude.{◌||◌}
use Rattle.std.specs.Borrow.{Bor}
use Rattle.std.specs.List.{filter, flat_map, list_any}
use Rattle.std.proofs.lemmas.Grind.{flat_map-append}
use Rattle.std.proofs.Math.Seq.{take-suc}
use Rattle.std.proofs.lemmas.List.{drop_more, map-append}
use Rattle.gx_model.specs.Texts.{Bytes}
use Rattle.gx_text.specs.Lent.{lent_texts}

module _ {X Y : Type 0} (see : X → Y) where
  -- what passes a test of what it is seen as
  pub seen_filter : (p : Y → Bool) (xs : List X) → map see (filter (λ x. p (see x)) xs) ≡ filter p (map see xs)
  seen_filter p [] = refl
  seen_filter p (x ∷ xs) =
      elim (p (see x)) as (λ b. map see (cond b (x ∷ filter (λ x. p (see x)) xs) (filter (λ x. p (see x)) xs)) ≡ cond b (see x ∷ filter p (map see xs)) (filter p (map see xs))) [
        | true ↦ ap (λ t. see x ∷ t) (seen_filter p xs)
        | false ↦ seen_filter p xs
      ]

  -- the text of one more
  pub seen_next : (text : Y → List ℕ) (xs : List X) (i : ℕ) (d : X) → i < length xs → flat_map text (map see (take (i + 1) xs)) ≡ flat_map text (map see (take i xs)) ++ text (see (get_or xs i d))
  seen_next text xs i d h =
      let step : i + 1 ≡ suc i = omega arith in
      ap (λ n. flat_map text (map see (take n xs))) step ∙ ap (λ t. flat_map text (map see t)) (take-suc xs i d h)
      ∙ ap (flat_map text) (map-append see (take i xs) (get_or xs i d ∷ []))
      ∙ flat_map-append text (map see (take i xs)) (see (get_or xs i d) ∷ []) ∙ ap (λ t. flat_map text (map see (take i xs)) ++ t) (append-nil (text (see (get_or xs i d))))

-- whether one of the next texts passes a test
pub any_next : (p : Bytes → Bool) (texts : List (Bor Bytes)) (i : ℕ) (d : Bor Bytes) (b : Bool) → i < length texts → p (get_or texts i d).now ≡ b
    → list_any p (lent_texts (drop i texts)) ≡ (b || list_any p (lent_texts (drop (i + 1) texts)))
any_next p texts i d b lt e =
    ap (λ ns. list_any p (lent_texts ns)) (drop_more texts i d lt) ∙ ap (λ t. t || list_any p (lent_texts (drop (i + 1) texts))) e
