-- The names of the refs that words name, one after the other.
use Rattle.std.proofs.Common.{◌≡◌, ℕ, zero, suc, ◌+◌, ◌<◌, ◌≤◌, Bool, true, false, cond, List, [], ◌∷◌, ◌++◌, length, map, append-nil, append_assoc, drop, get_or, take, Option, Some, None, refl, sym, ap, subst, ◌∙◌, arith}
use Rattle.std.specs.Prelude.{◌||◌, is_some}
use Rattle.std.specs.List.{flat_map, list_any}
use Rattle.std.specs.Option.{option_map}
use Rattle.std.proofs.lemmas.List.{drop_all, drop_more, map-append, take_all, take_more}
use Rattle.std.proofs.lemmas.List.Folds.{list_any-append}
use Rattle.gx_model.specs.Records.Publishing.{Ref}
use Rattle.gx_model.specs.Revisions.{RangeWord}
use Rattle.gx_model.specs.Texts.{Bytes, same_bytes}
use Rattle.gx_object.specs.Parts.{bytes_if}
use Rattle.gx_object.specs.declared.name.Name.{Name}
use Rattle.gx_repo.specs.Refs.{FindsObject, object_named}
use Rattle.gx_bundled.specs.Named.{first_held, names_of, names_of_word}

-- ---- whether a name is among some

module _ {X : Type 0} (f : X → Bytes) (name : Bytes) (xs : List X) (i : ℕ) (d : X) (inside : i < length xs) (none : list_any (same_bytes name) (map f (take i xs)) ≡ false) where
  next_among : list_any (same_bytes name) (map f (take (i + 1) xs)) ≡ same_bytes name (f (get_or xs i d))
  next_among =
      ap (λ ys. list_any (same_bytes name) (map f ys)) (take_more xs i d inside) ∙ ap (list_any (same_bytes name)) (map-append f (take i xs) (get_or xs i d ∷ []))
      ∙ list_any-append (same_bytes name) (map f (take i xs)) (f (get_or xs i d) ∷ []) ∙ ap (λ b. b || (same_bytes name (f (get_or xs i d)) || false)) none ∙ by (same_bytes name (f (get_or xs i d)))
    where
      by : (b : Bool) → (b || false) ≡ b
      by true = refl
      by false = refl

  pub still_none : same_bytes name (f (get_or xs i d)) ≡ false → list_any (same_bytes name) (map f (take (i + 1) xs)) ≡ false
  still_none e = next_among ∙ e

pub some_among : {X : Type 0} (f : X → Bytes) (name : Bytes) (xs : List X) (i : ℕ) (d : X) → i < length xs → same_bytes name (f (get_or xs i d)) ≡ true → list_any (same_bytes name) (map f xs) ≡ true
some_among f name [] i d l e = absurd (omega (arith, l))
some_among f name (x ∷ xs) zero d l e = ap (λ b. b || list_any (same_bytes name) (map f xs)) e
some_among f name (x ∷ xs) (suc i) d l e = by (same_bytes name (f x)) (some_among f name xs i d (omega (arith, l)) e)
  where
    by : (b : Bool) → list_any (same_bytes name) (map f xs) ≡ true → (b || list_any (same_bytes name) (map f xs)) ≡ true
    by true k = refl
    by false k = k

pub none_among : {X : Type 0} (f : X → Bytes) (name : Bytes) (xs : List X) (i : ℕ) → length xs ≤ i → list_any (same_bytes name) (map f (take i xs)) ≡ false → list_any (same_bytes name) (map f xs) ≡ false
none_among f name xs i le e = ap (λ ys. list_any (same_bytes name) (map f ys)) (sym (take_all i xs le)) ∙ e

-- ---- words

-- the names that the first words name are taken
pub names_begun : (refs : List Ref) {W : Type 0} (view : W → RangeWord) (words : List W) (names : List Bytes) → names ≡ [] → names ++ names_of refs (map view (drop 0 words)) ≡ names_of refs (map view words)
names_begun refs view words names e = ap (λ ns. ns ++ names_of refs (map view words)) e

pub names_more : (refs : List Ref) {W : Type 0} (view : W → RangeWord) (words : List W) (i : ℕ) (d : W) → i < length words → (names new : List Bytes) → names ++ names_of refs (map view (drop i words)) ≡ names_of refs (map view words)
    → new ≡ names ++ names_of_word refs (view (get_or words i d)) → new ++ names_of refs (map view (drop (i + 1) words)) ≡ names_of refs (map view words)
names_more refs {W = W} view words i d inside names new so_far e =
    ap (λ ns. ns ++ names_of refs (map view (drop (i + 1) words))) e ∙ append_assoc names (names_of_word refs (view (get_or words i d))) (names_of refs (map view (drop (i + 1) words)))
    ∙ ap (λ (ws : List W). names ++ names_of refs (map view ws)) (sym (drop_more words i d inside)) ∙ so_far

pub names_done : (refs : List Ref) {W : Type 0} (view : W → RangeWord) (words : List W) (i : ℕ) → length words ≤ i → (names : List Bytes) → names ++ names_of refs (map view (drop i words)) ≡ names_of refs (map view words) → names ≡ names_of refs (map view words)
names_done refs {W = W} view words i le names e = sym (append-nil names) ∙ ap (λ (ws : List W). names ++ names_of refs (map view ws)) (sym (drop_all i words le)) ∙ e

-- ---- the first name that a ref has

-- a ref is found where one has the name
pub found_held : (refs : List Ref) (name : Bytes) (found : Option Name) → FindsObject refs name found → (b : Bool) → is_some found ≡ b → list_any (λ ref. same_bytes name ref.0) refs ≡ b
found_held refs name found finds b e = sym (by refs) ∙ sym (ap is_some finds) ∙ of found ∙ e
  where
    of : (o : Option Name) → is_some (bytes_if o) ≡ is_some o
    of None = refl
    of (Some object) = refl

    by : (rs : List Ref) → is_some (object_named rs name) ≡ list_any (λ ref. same_bytes name ref.0) rs
    by [] = refl
    by (x ∷ xs) = one (same_bytes name x.0) (by xs)
      where
        one : (b : Bool) → is_some (object_named xs name) ≡ list_any (λ ref. same_bytes name ref.0) xs → is_some (cond b (Some x.1) (object_named xs name)) ≡ (b || list_any (λ ref. same_bytes name ref.0) xs)
        one true k = refl
        one false k = k

module _ (refs : List Ref) {X : Type 0} (f : X → Bytes) (xs : List X) where
  -- the names before a place are no refs'
  abbrev pub NoneBefore : ℕ → Type 0
  NoneBefore i = first_held refs (map f (drop i xs)) ≡ first_held refs (map f xs)

  module _ (i : ℕ) (d : X) (inside : i < length xs) (so_far : NoneBefore i) where
    next_is : (b : Bool) → list_any (λ ref. same_bytes (f (get_or xs i d)) ref.0) refs ≡ b → first_held refs (map f (drop i xs)) ≡ cond b (Some (f (get_or xs i d))) (first_held refs (map f (drop (i + 1) xs)))
    next_is b e = ap (λ ys. first_held refs (map f ys)) (drop_more xs i d inside) ∙ ap (λ t. cond t (Some (f (get_or xs i d))) (first_held refs (map f (drop (i + 1) xs)))) e

    -- the next one is
    pub name_found : list_any (λ ref. same_bytes (f (get_or xs i d)) ref.0) refs ≡ true → Some (f (get_or xs i d)) ≡ first_held refs (map f xs)
    name_found e = sym (next_is true e) ∙ so_far

    -- or it isn't
    pub name_passed : list_any (λ ref. same_bytes (f (get_or xs i d)) ref.0) refs ≡ false → NoneBefore (i + 1)
    name_passed e = sym (next_is false e) ∙ so_far

  pub none_found : (i : ℕ) → length xs ≤ i → NoneBefore i → None ≡ first_held refs (map f xs)
  none_found i le so_far = ap (λ ys. first_held refs (map f ys)) (sym (drop_all i xs le)) ∙ so_far
