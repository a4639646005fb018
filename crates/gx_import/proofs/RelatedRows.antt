-- Rows that go together: what is found at a name goes together, and so does what is put there.
use Rattle.std.proofs.Common.{◌≡◌, ℕ, Bool, true, false, cond, List, [], ◌∷◌, map, Option, Some, None, inl, inr, refl, sym, ap, subst, ◌∙◌}
use Rattle.std.specs.Prelude.{IfSome, ◌&&◌}
use Rattle.std.specs.Map.{lookup, set_value}
use Rattle.std.specs.declared.vec.Vec.{Vec}
use Rattle.std.specs.declared.cmp.Ordering.TheVariants.{Less, Equal, Greater}
use Rattle.std.specs.FinMap.Entries.{below_all, by_order, is_sorted, put}
use Rattle.std.specs.Ordering.{is_lt}
use Rattle.std.proofs.lemmas.Bool.{cases_Bool}
use Rattle.gx_model.specs.Texts.{Bytes, byte_cmp}
use Rattle.gx_import.specs.Rows.{AreBoth, AreRows, row_of}

-- what follows for something that is there
pub some_more : {X : Type 0} (P Q : X → Type 0) (o : Option X) → ((x : X) → P x → Q x) → IfSome o P → IfSome o Q
some_more P Q None f h = tt
some_more P Q (Some x) f h = f x h

module _ {T : Type 0} (Is : T → T → Type 0) (same : (t : T) → Is t t) where
  pub related_itself : (rows : List (Bytes × T)) → AreRows Is rows rows
  related_itself [] = tt
  related_itself (row ∷ rows) = (refl, same row.1, related_itself rows)

  -- the value that a test finds is written
  pub related_written : {A : Type 0} (test : Vec ℕ A → Bool) (es : List (Vec ℕ A × T)) (old new : T) → lookup test es ≡ Some old → Is old new → AreRows Is (map row_of es) (map row_of (set_value test es new))
  related_written test [] old new e h = tt
  related_written test (x ∷ xs) old new e h =
      elim (cases_Bool (test x.0)) [
        | inl b ↦ let at : Some x.1 ≡ Some old = rw b at e in let is : x.1 ≡ old = cc in rw b (refl, subst (λ t. Is t new) (sym is) h, related_itself (map row_of xs))
        | inr b ↦ let at : lookup test xs ≡ Some old = rw b at e in rw b (refl, same x.1, related_written test xs old new at h)
      ]

module _ {X Y : Type 0} (Is : X → Y → Type 0) where
  -- what is found at a name
  pub related_found : (t : Bytes → Bool) (xs : List (Bytes × X)) (ys : List (Bytes × Y)) → AreRows Is xs ys → AreBoth Is (lookup t xs) (lookup t ys)
  related_found t [] [] h = tt
  related_found t [] (y ∷ ys) h = absurd h
  related_found t (x ∷ xs) [] h = absurd h
  related_found t (x ∷ xs) (y ∷ ys) h =
      subst (λ n. AreBoth Is (cond (t x.0) (Some x.1) (lookup t xs)) (cond (t n) (Some y.1) (lookup t ys))) h.0
      (elim (t x.0) as (λ b. AreBoth Is (cond b (Some x.1) (lookup t xs)) (cond b (Some y.1) (lookup t ys))) [ true ↦ h.1 | false ↦ related_found t xs ys h.2 ])

  -- what is put at a name
  pub related_put : (n : Bytes) (x : X) (y : Y) → Is x y → (xs : List (Bytes × X)) (ys : List (Bytes × Y)) → AreRows Is xs ys → AreRows Is (put byte_cmp n x xs) (put byte_cmp n y ys)
  related_put n x y k [] [] h = (refl, k, tt)
  related_put n x y k [] (w ∷ ys) h = absurd h
  related_put n x y k (v ∷ xs) [] h = absurd h
  related_put n x y k (v ∷ xs) (w ∷ ys) h =
      subst (λ m. AreRows Is (by_order (byte_cmp n v.0) ((n, x) ∷ v ∷ xs) ((v.0, x) ∷ xs) (v ∷ put byte_cmp n x xs)) (by_order (byte_cmp n m) ((n, y) ∷ w ∷ ys) ((w.0, y) ∷ ys) (w ∷ put byte_cmp n y ys))) h.0
      (elim (byte_cmp n v.0) as (λ o. AreRows Is (by_order o ((n, x) ∷ v ∷ xs) ((v.0, x) ∷ xs) (v ∷ put byte_cmp n x xs)) (by_order o ((n, y) ∷ w ∷ ys) ((w.0, y) ∷ ys) (w ∷ put byte_cmp n y ys))) [
        | Less ↦ (refl, k, h)
        | Equal ↦ (h.0, k, h.2)
        | Greater ↦ (h.0, h.1, related_put n x y k xs ys h.2)
      ])

  -- what goes together in another way, too
  pub related_more : (Be : X → Y → Type 0) → ((x : X) (y : Y) → Is x y → Be x y) → (xs : List (Bytes × X)) (ys : List (Bytes × Y)) → AreRows Is xs ys → AreRows Be xs ys
  related_more Be f [] [] h = tt
  related_more Be f [] (y ∷ ys) h = absurd h
  related_more Be f (x ∷ xs) [] h = absurd h
  related_more Be f (x ∷ xs) (y ∷ ys) h = (h.0, f x.1 y.1 h.1, related_more Be f xs ys h.2)

-- what goes together by way of a third
pub related_through : {X Y Z : Type 0} (Is : X → Y → Type 0) (Be : Y → Z → Type 0) (In : X → Z → Type 0) → ((x : X) (y : Y) (z : Z) → Is x y → Be y z → In x z)
    → (xs : List (Bytes × X)) (ys : List (Bytes × Y)) (zs : List (Bytes × Z)) → AreRows Is xs ys → AreRows Be ys zs → AreRows In xs zs
related_through Is Be In f [] [] [] h k = tt
related_through Is Be In f [] [] (z ∷ zs) h k = absurd k
related_through Is Be In f [] (y ∷ ys) zs h k = absurd h
related_through Is Be In f (x ∷ xs) [] zs h k = absurd h
related_through Is Be In f (x ∷ xs) (y ∷ ys) [] h k = absurd k
related_through Is Be In f (x ∷ xs) (y ∷ ys) (z ∷ zs) h k = (h.0 ∙ k.0, f x.1 y.1 z.1 h.1 k.1, related_through Is Be In f xs ys zs h.2 k.2)

below_same : {X Y : Type 0} (Is : X → Y → Type 0) (k : Bytes) (xs : List (Bytes × X)) (ys : List (Bytes × Y)) → AreRows Is xs ys → below_all byte_cmp k xs ≡ below_all byte_cmp k ys
below_same Is k [] [] h = refl
below_same Is k [] (y ∷ ys) h = absurd h
below_same Is k (x ∷ xs) [] h = absurd h
below_same Is k (x ∷ xs) (y ∷ ys) h = λ i. is_lt (byte_cmp k (h.0 i)) && below_same Is k xs ys h.2 i

-- the same names are in the same order
pub sorted_same : {X Y : Type 0} (Is : X → Y → Type 0) (xs : List (Bytes × X)) (ys : List (Bytes × Y)) → AreRows Is xs ys → is_sorted byte_cmp xs ≡ is_sorted byte_cmp ys
sorted_same Is [] [] h = refl
sorted_same Is [] (y ∷ ys) h = absurd h
sorted_same Is (x ∷ xs) [] h = absurd h
sorted_same Is (x ∷ xs) (y ∷ ys) h = ap (λ k. below_all byte_cmp k xs && is_sorted byte_cmp xs) h.0 ∙ (λ i. below_same Is y.0 xs ys h.2 i && sorted_same Is xs ys h.2 i)

module _ {T : Type 0} (f : T → T) where
  -- values that are changed alike
  pub changed_rows : {A : Type 0} (es : List (Vec ℕ A × T)) → map row_of (map (λ e. (e.0, f e.1)) es) ≡ map (λ row. (row.0, f row.1)) (map row_of es)
  changed_rows [] = refl
  changed_rows (e ∷ es) = ap (λ rows. (e.0.items, f e.1) ∷ rows) (changed_rows es)

  below_changed : (k : Bytes) (rows : List (Bytes × T)) → below_all byte_cmp k rows ≡ below_all byte_cmp k (map (λ row. (row.0, f row.1)) rows)
  below_changed k [] = refl
  below_changed k (row ∷ rows) = ap (λ b. is_lt (byte_cmp k row.0) && b) (below_changed k rows)

  -- leave their names in order
  pub changed_sorted : (rows : List (Bytes × T)) → is_sorted byte_cmp rows ≡ is_sorted byte_cmp (map (λ row. (row.0, f row.1)) rows)
  changed_sorted [] = refl
  changed_sorted (row ∷ rows) = λ i. below_changed row.0 rows i && changed_sorted rows i
