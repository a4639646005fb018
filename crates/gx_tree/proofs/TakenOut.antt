-- A directory's entries where one is taken out.
use Rattle.std.proofs.Common.{◌≡◌, ℕ, zero, suc, false, List, [], ◌∷◌, ◌++◌, drop, take, slice_set, refl, sym, ap, ◌∙◌, arith, subst}
use Rattle.std.specs.List.{remove, AllByRecursion}
use Rattle.std.proofs.lemmas.List.{map-append, take-append-drop}
use Rattle.gx_model.specs.Texts.{Bytes, same_bytes}
use Rattle.gx_tree.specs.Nodes.{IsLevel, others}
use Rattle.gx_tree.specs.Searches.{IsEntryAt}
use Rattle.gx_tree.specs.Views.{shown_entry, shown_entries}
use Rattle.gx_tree.specs.declared.directory.Entry.{Entry}
use Rattle.gx_tree.proofs.Homes.{all_first, all_joined, all_rest}
use Rattle.gx_tree.proofs.InPlace.{others_after}
use Rattle.gx_tree.proofs.Searches.{after_at}
use Rattle.gx_tree.proofs.Texts.{same_bytes_flip, same_itself}

-- the others are those before the entry of a component, and those behind it
pub others_at : {A : Type 0} (c : Bytes) (es : List (Entry A)) (i : ℕ) → IsLevel (shown_entries es) → IsEntryAt c es i → others c (shown_entries es) ≡ shown_entries (take i es) ++ shown_entries (drop (suc i) es)
others_at c [] i h at = absurd (omega (arith, at.0))
others_at c (e ∷ es) zero h at = ap (λ z. others z (shown_entries (e ∷ es))) (sym (at.1 e)) ∙ rw (same_itself (shown_entry e).0) (others_after (shown_entry e) (shown_entries es) h.2)
others_at c (e ∷ es) (suc i) h at =
    let a = after_at (shown_entry e) es i e h.2 (omega (arith, at.0)) in
    let n : same_bytes c (shown_entry e).0 ≡ false = same_bytes_flip c (shown_entry e).0 ∙ ap (same_bytes (shown_entry e).0) (sym (at.1 e)) ∙ a.0 in
    rw n (ap (λ r. shown_entry e ∷ r) (others_at c es i h.3 (omega (arith, at.0), λ d. at.1 d)))

-- what holds of each element holds of the first and of the rest
module _ {X : Type 0} (P : X → Type 0) where
  pub all_taken : (xs : List X) (i : ℕ) → AllByRecursion P xs → AllByRecursion P (take i xs)
  all_taken xs i h = all_first P (take i xs) (drop i xs) (subst (AllByRecursion P) (sym (take-append-drop i xs)) h)

  pub all_left : (xs : List X) (i : ℕ) → AllByRecursion P xs → AllByRecursion P (drop i xs)
  all_left xs i h = all_rest P (take i xs) (drop i xs) (subst (AllByRecursion P) (sym (take-append-drop i xs)) h)

-- ---- edits below an entry

pub set_aside : {X : Type 0} (xs : List X) (i : ℕ) (x : X) → remove (slice_set xs i x) i ≡ remove xs i
set_aside [] i x = refl
set_aside (y ∷ xs) zero x = refl
set_aside (y ∷ xs) (suc i) x = ap (λ r. y ∷ r) (set_aside xs i x)

-- what holds of each element holds of those that are left, once one is changed and goes
pub all_gone : {X : Type 0} (P : X → Type 0) (xs : List X) (i : ℕ) (x : X) → AllByRecursion P xs → AllByRecursion P (remove (slice_set xs i x) i)
all_gone P xs i x h = subst (AllByRecursion P) (sym (set_aside xs i x)) (all_joined P (take i xs) (drop (suc i) xs) (all_taken P xs i h) (all_left P xs (suc i) h))

pub seen_without : {A : Type 0} (c : Bytes) (es : List (Entry A)) (i : ℕ) → IsLevel (shown_entries es) → IsEntryAt c es i → shown_entries (remove es i) ≡ others c (shown_entries es)
seen_without c es i h at = map-append shown_entry (take i es) (drop (suc i) es) ∙ sym (others_at c es i h at)
