-- A directory's entries where one takes the place of another.
use Rattle.std.proofs.Common.{◌≡◌, ℕ, ◌<◌, zero, suc, true, false, List, [], ◌∷◌, ◌++◌, length, get_or, slice_set, Some, None, inl, inr, refl, sym, ap, ◌∙◌, arith, subst}
use Rattle.std.specs.List.{AllByRecursion}
use Rattle.std.proofs.lemmas.Bool.{cases_Bool}
use Rattle.gx_model.specs.Texts.{Bytes, same_bytes}
use Rattle.gx_tree.specs.Nodes.{Kept, Level, IsAfter, IsLevel, comes_before, inserted, kept_at, key, mark, others, precedes, with_kept}
use Rattle.gx_tree.specs.Searches.{IsEntryAt}
use Rattle.gx_tree.specs.Views.{shown_item, shown_entry, shown_entries}
use Rattle.gx_tree.specs.declared.directory.Entry.{Entry}
use Rattle.gx_tree.proofs.Levels.{key_trans}
use Rattle.gx_tree.proofs.Searches.{after_at, kept_at_place, not_before_itself}
use Rattle.gx_tree.proofs.Texts.{bytes_same, cases_bytes, same_bytes_flip, same_itself}

pub others_after : (a : Bytes × Kept) (es : Level) → AllByRecursion (IsAfter a) es → others a.0 es ≡ es
others_after a [] h = refl
others_after a (e ∷ es) h = rw h.0.0 (ap (λ r. e ∷ r) (others_after a es h.1))

first_again : (c : Bytes) (j k : Kept) (es : Level) → AllByRecursion (IsAfter (c, j)) es → mark k ≡ mark j → inserted c k es ≡ (c, k) ∷ es
first_again c j k [] h m = refl
first_again c j k (e ∷ es) h m = let a : comes_before c k e ≡ true = ap (λ z. precedes (c ++ z) e) m ∙ h.0.1 in rw a refl

-- the entry at i, read as r, gives way to one of the same component and mark
pub in_place : {A : Type 0} (es : List (Entry A)) (i : ℕ) (r e : Entry A) → IsLevel (shown_entries es) → i < length es → r ≡ get_or es i r → (shown_entry e).0 ≡ (shown_entry r).0 → mark (shown_item e.item) ≡ mark (shown_item r.item) → shown_entries (slice_set es i e) ≡ with_kept (shown_entry r).0 (shown_item e.item) (shown_entries es)
in_place [] i r e h l ir c m = absurd (omega arith)
in_place (x ∷ es) zero r e h l ir c m =
    let t : (shown_entry r).0 ≡ (shown_entry x).0 = ap (λ z. (shown_entry z).0) ir in
    let same : (shown_entry e).0 ≡ (shown_entry x).0 = c ∙ t in
    let mx : mark (shown_item e.item) ≡ mark (shown_item x.item) = m ∙ ap (λ z. mark (shown_item z.item)) ir in
    ap (λ z. (z, shown_item e.item) ∷ shown_entries es) same
    ∙ sym (ap (λ z. with_kept z (shown_item e.item) (shown_entries (x ∷ es))) t ∙ rw (same_itself (shown_entry x).0) (ap (inserted (shown_entry x).0 (shown_item e.item)) (others_after (shown_entry x) (shown_entries es) h.2) ∙ first_again (shown_entry x).0 (shown_item x.item) (shown_item e.item) (shown_entries es) h.2 mx))
in_place (x ∷ es) (suc i) r e h l ir c m =
    let a : IsAfter (shown_entry x) (shown_entry r) = subst (λ z. IsAfter (shown_entry x) (shown_entry z)) (sym ir) (after_at (shown_entry x) es i r h.2 (omega arith)) in
    let n : same_bytes (shown_entry r).0 (shown_entry x).0 ≡ false = same_bytes_flip (shown_entry r).0 (shown_entry x).0 ∙ a.0 in
    let b : comes_before (shown_entry r).0 (shown_item e.item) (shown_entry x) ≡ false = elim (cases_Bool (comes_before (shown_entry r).0 (shown_item e.item) (shown_entry x))) [
      | inl y ↦ absurd (not_before_itself (key (shown_entry x).0 (shown_entry x).1) (key_trans (key (shown_entry x).0 (shown_entry x).1) (key (shown_entry r).0 (shown_entry r).1) (key (shown_entry x).0 (shown_entry x).1) a.1 (ap (λ z. precedes ((shown_entry r).0 ++ z) (shown_entry x)) (sym m) ∙ y)))
      | inr y ↦ y
    ] in
    rw (n, b) (ap (λ q. shown_entry x ∷ q) (in_place es i r e h.3 (omega arith) ir c m))

-- what stands at the component of the entry at n, read as r
pub standing : {A : Type 0} (c : Bytes) (es : List (Entry A)) (n : ℕ) (r : Entry A) → IsLevel (shown_entries es) → IsEntryAt c es n → r ≡ get_or es n r → kept_at c (shown_entries es) ≡ Some (shown_item r.item)
standing c es n r h at ir =
    let is : (shown_entry r).0 ≡ c = ap (λ z. (shown_entry z).0) ir ∙ at.1 r in
    kept_at_place c (shown_entry r).0 es n r h at.0 ir refl (bytes_same (shown_entry r).0 c is)

-- another takes its place
pub set_at : {A : Type 0} (c : Bytes) (es : List (Entry A)) (n : ℕ) (r e : Entry A) → IsLevel (shown_entries es) → IsEntryAt c es n → r ≡ get_or es n r → (shown_entry e).0 ≡ (shown_entry r).0 → mark (shown_item e.item) ≡ mark (shown_item r.item) → shown_entries (slice_set es n e) ≡ with_kept c (shown_item e.item) (shown_entries es)
set_at c es n r e h at ir ec em =
    let is : (shown_entry r).0 ≡ c = ap (λ z. (shown_entry z).0) ir ∙ at.1 r in
    in_place es n r e h at.0 ir ec em ∙ ap (λ z. with_kept z (shown_item e.item) (shown_entries es)) is

pub all_set : {X : Type 0} (P : X → Type 0) (xs : List X) (i : ℕ) (x : X) → AllByRecursion P xs → P x → AllByRecursion P (slice_set xs i x)
all_set P [] i x h p = tt
all_set P (y ∷ xs) zero x h p = (p, h.1)
all_set P (y ∷ xs) (suc i) x h p = (h.0, all_set P xs i x h.1 p)

-- ---- no entry

pub others_same : (c : Bytes) (es : Level) → kept_at c es ≡ None → others c es ≡ es
others_same c [] h = refl
others_same c (e ∷ es) h = elim (cases_bytes c e.0) [
  | inl s ↦ let clash : Some e.1 ≡ None = rw (bytes_same c e.0 s) at h in cc
  | inr n ↦ rw n (ap (λ r. e ∷ r) (others_same c es (rw n at h)))
]
