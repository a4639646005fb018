-- Searches among a directory's entries, by halves.
use Rattle.std.proofs.Common.{◌≡◌, ◌≢◌, ℕ, ◌-◌, ◌<◌, ◌≤◌, zero, suc, true, false, not, List, [], ◌∷◌, ◌++◌, length, get_or, drop, take, Option, Some, None, inl, inr, refl, sym, ap, ◌∙◌, arith, subst}
use Rattle.std.specs.List.{AllByRecursion}
use Rattle.std.specs.List.Sorted.{IsPartitionedBy, IsPartitionPoint}
use Rattle.std.specs.Cmp.{tied_itself}
use Rattle.std.specs.Cmp.Lexicographic.{nat_list_cmp_total}
use Rattle.std.specs.Ordering.{is_lt}
use Rattle.std.proofs.lemmas.Bool.{cases_Bool, false≢true, not-true, not-false, true≢false}
use Rattle.gx_model.specs.Texts.{Bytes, byte_cmp, same_bytes}
use Rattle.gx_tree.specs.Components.{bytes_of}
use Rattle.gx_tree.specs.Nodes.{Kept, Level, IsAfter, IsLevel, file, folder, inserted, kept_at, key, mark, precedes}
use Rattle.gx_tree.specs.Searches.{Finds}
use Rattle.gx_tree.specs.Views.{shown_item, shown_entry, shown_entries}
use Rattle.gx_tree.specs.declared.directory.Entry.{Entry}
use Rattle.gx_tree.proofs.Levels.{key_trans}
use Rattle.gx_tree.proofs.Texts.{bytes_same, cases_bytes, same_bytes_flip}

pub not_before_itself : (a : Bytes) → is_lt (byte_cmp a a) ≡ true → ⊥
not_before_itself a h = true≢false (sym h ∙ ap is_lt (tied_itself nat_list_cmp_total a))

pub after_at : {A : Type 0} (a : Bytes × Kept) (es : List (Entry A)) (j : ℕ) (d : Entry A) → AllByRecursion (IsAfter a) (shown_entries es) → j < length es → IsAfter a (shown_entry (get_or es j d))
after_at a [] j d h l = absurd (omega arith)
after_at a (e ∷ es) zero d h l = h.0
after_at a (e ∷ es) (suc j) d h l = after_at a es j d h.1 (omega arith)

later_after : {A : Type 0} (t : Bytes) (es : List (Entry A)) (i j : ℕ) (d : Entry A) → IsLevel (shown_entries es) → i ≤ j → j < length es → precedes t (shown_entry (get_or es i d)) ≡ true → precedes t (shown_entry (get_or es j d)) ≡ true
later_after t [] i j d h l m p = absurd (omega arith)
later_after t (e ∷ es) zero zero d h l m p = p
later_after t (e ∷ es) zero (suc j) d h l m p =
    let r = get_or es j d in
    key_trans t (key (shown_entry e).0 (shown_entry e).1) (key (shown_entry r).0 (shown_entry r).1) p (after_at (shown_entry e) es j d h.2 (omega arith)).1
later_after t (e ∷ es) (suc i) zero d h l m p = absurd (omega arith)
later_after t (e ∷ es) (suc i) (suc j) d h l m p = later_after t es i j d h.3 (omega arith) (omega arith) p

-- the entries that don't come after a text stand first
pub parted : {A : Type 0} (t : Bytes) (es : List (Entry A)) → IsLevel (shown_entries es) → IsPartitionedBy (λ e. not (precedes t (shown_entry e))) es
parted t es h i j d l m p = elim (cases_Bool (precedes t (shown_entry (get_or es i d)))) [
  | inl a ↦ absurd (false≢true (ap not (sym (later_after t es i j d h l m a)) ∙ p))
  | inr a ↦ ap not a
]

-- how many entries don't come after a text
abbrev pub IsPlace : {A : Type 0} → Bytes → List (Entry A) → ℕ → Type 0
IsPlace {A} t es i = IsPartitionPoint {X = Entry A} (λ e. precedes t (shown_entry e) ≡ false) (λ e. precedes t (shown_entry e) ≡ true) es i

pub place_from : {A : Type 0} (t : Bytes) (es : List (Entry A)) (i : ℕ) → IsPartitionPoint {X = Entry A} (λ e. not (precedes t (shown_entry e)) ≡ true) (λ e. not (precedes t (shown_entry e)) ≡ false) es i → IsPlace t es i
place_from t es i h = (λ k d l m. not-true _ (h.0 k d l m), λ k d l m. not-false _ (h.1 k d l m))

further : {A : Type 0} (t : Bytes) (e : Entry A) (es : List (Entry A)) (i : ℕ) → IsPlace t (e ∷ es) (suc i) → IsPlace t es i
further t e es i h = (λ k d l m. h.0 (suc k) d (omega arith) (omega arith), λ k d l m. h.1 (suc k) d (omega arith) (omega arith))

-- the place of an entry is there
pub inserted_at : {A : Type 0} (c : Bytes) (k : Kept) (es : List (Entry A)) (i : ℕ) → i ≤ length es → IsPlace (key c k) es i → inserted c k (shown_entries es) ≡ shown_entries (take i es) ++ (c, k) ∷ shown_entries (drop i es)
inserted_at c k [] zero l h = refl
inserted_at c k [] (suc i) l h = absurd (omega arith)
inserted_at c k (e ∷ es) zero l h = rw (h.1 zero e (omega arith) (omega arith)) refl
inserted_at c k (e ∷ es) (suc i) l h = rw (h.0 zero e (omega arith) (omega arith)) (ap (λ r. shown_entry e ∷ r) (inserted_at c k es i (omega arith) (further (key c k) e es i h)))

-- ---- what stands at a component

-- the entry at i, read as r
pub kept_at_place : {A : Type 0} (c t : Bytes) (es : List (Entry A)) (i : ℕ) (r : Entry A) → IsLevel (shown_entries es) → i < length es → r ≡ get_or es i r → t ≡ bytes_of r.component → same_bytes t c ≡ true → kept_at c (shown_entries es) ≡ Some (shown_item r.item)
kept_at_place c t [] i r h l ir it s = absurd (omega arith)
kept_at_place c t (e ∷ es) zero r h l ir it s =
    let b : same_bytes c (bytes_of e.component) ≡ true = same_bytes_flip c (bytes_of e.component) ∙ ap (λ z. same_bytes z c) (ap (λ z. (bytes_of z.component)) (sym ir) ∙ sym it) ∙ s in
    rw b (ap (λ z. Some (shown_item z.item)) (sym ir))
kept_at_place c t (e ∷ es) (suc i) r h l ir it s =
    let a : same_bytes (bytes_of e.component) (bytes_of r.component) ≡ false = subst (λ z. same_bytes (bytes_of e.component) (bytes_of z.component) ≡ false) (sym ir) (after_at (shown_entry e) es i r h.2 (omega arith)).0 in
    elim (cases_bytes c (bytes_of e.component)) [
      | inl k ↦
          let b : same_bytes (bytes_of e.component) (bytes_of r.component) ≡ true = same_bytes_flip (bytes_of e.component) (bytes_of r.component) ∙ ap (λ z. same_bytes z (bytes_of e.component)) (sym it) ∙ ap (same_bytes t) (sym k) ∙ s in
          absurd (false≢true (sym a ∙ b))
      | inr n ↦ rw n (kept_at_place c t es i r h.3 (omega arith) ir it s)
    ]

after_found : (a : Bytes × Kept) (c : Bytes) (k : Kept) (es : Level) → AllByRecursion (IsAfter a) es → kept_at c es ≡ Some k → IsAfter a (c, k)
after_found a c k [] h e = cc
after_found a c k (f ∷ es) h e = elim (cases_bytes c f.0) [
  | inl s ↦
      let at : Some f.1 ≡ Some k = rw (bytes_same c f.0 s) at e in
      let same : f.1 ≡ k = cc in
      subst (λ z. IsAfter a (z, k)) (sym s) (subst (λ z. IsAfter a (f.0, z)) same h.0)
  | inr n ↦ after_found a c k es h.1 (rw n at e)
]

-- the entry before the place is that of the component
abbrev IsBeforePlace : {A : Type 0} → Bytes → List (Entry A) → ℕ → Type 0
IsBeforePlace c es zero = ⊥
IsBeforePlace {A} c es (suc i) = (d : Entry A) → bytes_of (get_or es i d).component ≡ c

found_here : {A : Type 0} (c : Bytes) (k : Kept) (e : Entry A) (es : List (Entry A)) (i : ℕ) → IsLevel (shown_entries (e ∷ es)) → i ≤ length (e ∷ es) → IsPlace (key c k) (e ∷ es) i → c ≡ bytes_of e.component → shown_item e.item ≡ k → IsBeforePlace c (e ∷ es) i
found_here c k e es zero h l p s t =
    let a : precedes (key c k) (shown_entry e) ≡ true = p.1 zero e (omega arith) (omega arith) in
    let b : is_lt (byte_cmp (key c k) (key c k)) ≡ true = ap (λ z. is_lt (byte_cmp (key c k) (key z k))) s ∙ ap (λ z. is_lt (byte_cmp (key c k) (key (bytes_of e.component) z))) (sym t) ∙ a in
    absurd (not_before_itself (key c k) b)
found_here c k e es (suc zero) h l p s t = λ d. sym s
found_here c k e [] (suc (suc i)) h l p s t = absurd (omega arith)
found_here c k e (f ∷ es) (suc (suc i)) h l p s t =
    let a : precedes (key c k) (shown_entry f) ≡ false = p.0 (suc zero) e (omega arith) (omega arith) in
    let b : precedes (key c k) (shown_entry f) ≡ true = ap (λ z. precedes (key z k) (shown_entry f)) s ∙ ap (λ z. precedes (key (bytes_of e.component) z) (shown_entry f)) (sym t) ∙ h.2.0.1 in
    absurd (true≢false (sym b ∙ a))

further_on : {A : Type 0} (c : Bytes) (e : Entry A) (es : List (Entry A)) (i : ℕ) → IsBeforePlace c es i → IsBeforePlace c (e ∷ es) (suc i)
further_on c e es zero h = absurd h
further_on c e es (suc i) h = h

found_later : {A : Type 0} (c : Bytes) (k : Kept) (e : Entry A) (es : List (Entry A)) (i : ℕ) → IsLevel (shown_entries (e ∷ es)) → i ≤ length (e ∷ es) → IsPlace (key c k) (e ∷ es) i → kept_at c (shown_entries es) ≡ Some k → ((i : ℕ) → i ≤ length es → IsPlace (key c k) es i → IsBeforePlace c es i) → IsBeforePlace c (e ∷ es) i
found_later c k e es zero h l p n more =
    let a : precedes (key c k) (shown_entry e) ≡ true = p.1 zero e (omega arith) (omega arith) in
    let b = (after_found (shown_entry e) c k (shown_entries es) h.2 n).1 in
    absurd (not_before_itself (key c k) (key_trans (key c k) (key (shown_entry e).0 (shown_entry e).1) (key c k) a b))
found_later c k e es (suc i) h l p n more = further_on c e es i (more i (omega arith) (further (key c k) e es i p))

before_place : {A : Type 0} (c : Bytes) (k : Kept) (es : List (Entry A)) (i : ℕ) → IsLevel (shown_entries es) → i ≤ length es → IsPlace (key c k) es i → kept_at c (shown_entries es) ≡ Some k → IsBeforePlace c es i
before_place c k [] i h l p e = cc
before_place c k (f ∷ es) i h l p e = elim (cases_bytes c (bytes_of f.component)) [
  | inl s ↦
      let at : Some (shown_item f.item) ≡ Some k = rw (bytes_same c (bytes_of f.component) s) at e in
      found_here c k f es i h l p s (cc)
  | inr n ↦ let m : kept_at c (shown_entries es) ≡ Some k = rw n at e in found_later c k f es i h l p m (λ j b q. before_place c k es j h.3 b q m)
]

one_before : {A : Type 0} (c : Bytes) (es : List (Entry A)) (i : ℕ) → IsBeforePlace c es i → (0 < i) × ((d : Entry A) → bytes_of (get_or es (i - 1) d).component ≡ c)
one_before c es zero h = absurd h
one_before c es (suc i) h = let e : i ≡ suc i - 1 = omega arith in (omega arith, λ d. subst (λ j. bytes_of (get_or es j d).component ≡ c) e (h d))

-- so a component that stands with its mark stands before its place
pub stands_before : {A : Type 0} (c m : Bytes) (k : Kept) (es : List (Entry A)) (i : ℕ) → IsLevel (shown_entries es) → i ≤ length es → IsPlace (c ++ m) es i → kept_at c (shown_entries es) ≡ Some k → mark k ≡ m → (0 < i) × ((d : Entry A) → bytes_of (get_or es (i - 1) d).component ≡ c)
stands_before c m k es i h l p e n = one_before c es i (before_place c k es i h l (subst (λ z. IsPlace (c ++ z) es i) (sym n) p) e)

-- nothing stands at the component with either mark
no_mark : (o : Option Kept) → ((k : Kept) → o ≡ Some k → mark k ≢ []) → ((k : Kept) → o ≡ Some k → mark k ≢ 47 ∷ []) → o ≡ None
no_mark None a b = refl
no_mark (Some (file x)) a b = absurd (a (file x) refl refl)
no_mark (Some (folder f)) a b = absurd (b (folder f) refl refl)

-- what stands there with a directory's mark, where nothing has a file's
pub found_either : (c : Bytes) (es : Level) (o : Option Kept) → Finds c [] es None → Finds c (47 ∷ []) es o → kept_at c es ≡ o
found_either c es None a b = no_mark (kept_at c es) a b
found_either c es (Some k) a b = b
