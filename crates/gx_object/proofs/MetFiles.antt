-- Which earlier files the entries of a tree meet, from one entry to the next.
use Rattle.std.proofs.Common.{◌≡◌, ℕ, zero, suc, ◌<◌, ◌≤◌, ◌+◌, Bool, true, false, not, List, [], ◌∷◌, length, take, get_or, refl, sym, ap, ◌∙◌, arith, inl, inr, ◌⊎◌, add-one}
use Rattle.std.specs.Prelude.{◌&&◌, ◌||◌, nat_eq, nat_lt}
use Rattle.std.specs.List.{starts_with}
use Rattle.std.specs.Cmp.Lexicographic.{bytes_decides}
use Rattle.std.proofs.lemmas.Bool.{false≢true, and_parts, false_from_ne_true, eqb-true}
use Rattle.std.proofs.lemmas.Bool.Decides.{nat_tests}
use Rattle.gx_model.specs.Texts.{Bytes, same_bytes}
use Rattle.gx_model.specs.Objects.{Entry, is_dir}
use Rattle.gx_object.specs.Order.{is_kept, is_left, is_short, meets, meets_any}

pub meets_alike : (n : ℕ) (a b : List Bool) (c : Bytes) (es : List Entry) → ((k : ℕ) → k < n → get_or a k false ≡ get_or b k false) → meets_any n a c es ≡ meets_any n b c es
unfolding meets_any
meets_alike zero a b c es h = refl
meets_alike (suc n) a b c es h = rw (h n (omega arith), meets_alike n a b c es (λ k lt. h k (omega arith))) refl

pub meets_nothing : (n : ℕ) (a : List Bool) (c : Bytes) → meets_any n a c [] ≡ false
unfolding meets_any
meets_nothing zero a c = refl
meets_nothing (suc n) a c = shows (get_or a n false) (meets_nothing n a c) where
  shows : (b : Bool) → meets_any n a c [] ≡ false → ((b && false) || meets_any n a c []) ≡ false
  shows true h = h
  shows false h = h

meets_below : (n m : ℕ) (a : List Bool) (c : Bytes) (es : List Entry) → m ≤ n → ((k : ℕ) → m ≤ k → k < n → get_or a k false ≡ false) → meets_any n a c es ≡ meets_any m a c es
unfolding meets_any
meets_below zero zero a c es le h = refl
meets_below zero (suc m) a c es le h = absurd (omega arith)
meets_below (suc n) m a c es le h = elim (which m n le) [
  | inl same ↦ rw same refl
  | inr less ↦ rw (h n less (omega arith)) (meets_below n m a c es less (λ k p q. h k p (omega arith)))
]
  where
    which : (m n : ℕ) → m ≤ suc n → (m ≡ suc n) ⊎ (m ≤ n)
    which m n le = grind arith

-- ---- fronts

starts_take : (j : ℕ) (d : Bytes) → starts_with nat_eq d (take j d) ≡ true
starts_take zero d = refl
starts_take (suc j) [] = refl
starts_take (suc j) (b ∷ d) = rw (same b, starts_take j d) refl where
  same : (b : ℕ) → nat_eq b b ≡ true
  same b = grind (arith, nat_tests)

starts_front : (d p : Bytes) → starts_with nat_eq d p ≡ true → take (length p) d ≡ p
starts_front d [] h = refl
starts_front [] (b ∷ p) h = absurd (false≢true h)
starts_front (a ∷ d) (b ∷ p) h =
    let q = and_parts (nat_eq b a) (starts_with nat_eq d p) h in
    ap (λ x. x ∷ take (length p) d) (sym (eqb-true b a q.0)) ∙ ap (λ t. b ∷ t) (starts_front d p q.1)

long_take : (j : ℕ) (d : Bytes) → length (take j d) ≤ j
long_take zero d = omega arith
long_take (suc j) [] = omega arith
long_take (suc j) (b ∷ d) = let again = long_take j d in omega arith

full_take : (j : ℕ) (c : Bytes) → j ≤ length c → length (take j c) ≡ j
full_take zero c h = refl
full_take (suc j) [] h = absurd (omega arith)
full_take (suc j) (b ∷ c) h = ap suc (full_take j c (omega arith))

all_take : (c : Bytes) → take (length c) c ≡ c
all_take [] = refl
all_take (b ∷ c) = ap (λ x. b ∷ x) (all_take c)

take_within : (j n : ℕ) (c : Bytes) → j ≤ n → take j (take n c) ≡ take j c
take_within zero n c le = refl
take_within (suc j) zero c le = absurd (omega arith)
take_within (suc j) (suc n) [] le = refl
take_within (suc j) (suc n) (b ∷ c) le = ap (λ x. b ∷ x) (take_within j n c (omega arith))

differs : (j : ℕ) (d : Bytes) → j < length d → same_bytes d (take j d) ≡ false
differs j d lt = false_from_ne_true _ (λ h. shorter (ap length ((bytes_decides d (take j d)).0 h)) (long_take j d)) where
  shorter : length d ≡ length (take j d) → length (take j d) ≤ j → ⊥
  shorter e le = omega arith

-- an entry whose component goes on behind a front has not that front's component
meets_on : (j : ℕ) (f : Entry) (fs : List Entry) → j < length f.component → meets (take j f.component) (f ∷ fs) ≡ meets (take j f.component) fs
meets_on j f fs lt = rw (starts_take j f.component, differs j f.component lt) refl

same_fronts : (k n : ℕ) (a : List Bool) (c : Bytes) (f : Entry) (fs : List Entry) → take n c ≡ take n f.component → k ≤ suc n → n < length f.component → meets_any k a c (f ∷ fs) ≡ meets_any k a f.component fs
unfolding meets_any
same_fronts zero n a c f fs e le lt = refl
same_fronts (suc k) n a c f fs e le lt =
    let front : take k c ≡ take k f.component = sym (take_within k n c (omega arith)) ∙ ap (take k) e ∙ take_within k n f.component (omega arith) in
    let here : meets (take k c) (f ∷ fs) ≡ meets (take k f.component) fs = ap (λ x. meets x (f ∷ fs)) front ∙ meets_on k f fs (omega arith) in
    let rest = same_fronts k n a c f fs e (omega arith) lt in
    (λ i. (get_or a k false && here i) || rest i)

-- the longest of the fronts is one of the next component, so each of them is
pub next_meets : (n : ℕ) (a : List Bool) (c : Bytes) (f : Entry) (fs : List Entry) → get_or a n false ≡ true → starts_with nat_eq f.component (take n c) ≡ true → n ≤ length c
    → meets_any (suc n) a c (f ∷ fs) ≡ (nat_lt (length f.component) (suc n) || meets_any (suc n) a f.component fs)
unfolding meets_any
next_meets n a c f fs mark starts le =
    let size = full_take n c le in
    let front : take n f.component ≡ take n c = ap (λ k. take k f.component) (sym size) ∙ starts_front f.component (take n c) starts in
    let fits : n ≤ length f.component = omega (arith, sym size ∙ sym (ap length front), long_front n f.component (ap length front ∙ size)) in
    by (which n (length f.component) fits) front
  where
    long_front : (n : ℕ) (d : Bytes) → length (take n d) ≡ n → n ≤ length d
    long_front zero d e = omega arith
    long_front (suc n) [] e = absurd (omega arith)
    long_front (suc n) (b ∷ d) e = let again = long_front n d (omega arith) in omega arith

    which : (n m : ℕ) → n ≤ m → (n ≡ m) ⊎ (n < m)
    which n m le = grind arith

    by : (n ≡ length f.component) ⊎ (n < length f.component) → take n f.component ≡ take n c → meets_any (suc n) a c (f ∷ fs) ≡ (nat_lt (length f.component) (suc n) || meets_any (suc n) a f.component fs)
    by (inl same) front =
        let whole : f.component ≡ take n c = sym (all_take f.component) ∙ ap (λ k. take k f.component) (sym same) ∙ front in
        let is : same_bytes f.component (take n c) ≡ true = (bytes_decides f.component (take n c)).1 whole in
        let below : nat_lt (length f.component) (suc n) ≡ true = grind (arith, nat_tests) in
        rw (mark, starts, is, below) refl
    by (inr less) front =
        let above : nat_lt (length f.component) (suc n) ≡ false = grind (arith, nat_tests) in
        rw above (same_fronts (suc n) n a c f fs (sym front) (omega arith) less)

-- ---- from an entry to the next

pub after_added : (e f : Entry) (fs : List Entry) (above : ℕ) (old new : List Bool) → nat_lt (length e.component) 4096 ≡ true → is_kept e f ≡ true → above ≤ length e.component
    → ((n : ℕ) → n < above → get_or new n false ≡ get_or old n false) → ((n : ℕ) → above ≤ n → n < length e.component → get_or new n false ≡ false) → get_or new (length e.component) false ≡ true
    → (is_short e (f ∷ fs) || meets_any above old e.component (f ∷ fs)) ≡ (nat_eq (length e.component) (length f.component) || meets_any (length e.component + 1) new f.component fs)
unfolding meets_any
after_added e f fs above old new short kept le below between mark =
    let p = and_parts (not (is_dir e.mode)) _ kept in
    let len = length e.component in
    let starts : starts_with nat_eq f.component (take len e.component) ≡ true = rw (all_take e.component) p.1 in
    let front = starts_front f.component e.component p.1 in
    let fits : len ≤ length f.component = omega (arith, sym (ap length front), long_take len f.component, shorter len f.component) in
    sym (added e.component (f ∷ fs) (all_take e.component) ∙ file p.0) ∙ next_meets len new e.component f fs mark starts (omega arith) ∙ last len (length f.component) fits
  where
    shorter : (n : ℕ) (d : Bytes) → length (take n d) ≤ length d
    shorter zero d = omega arith
    shorter (suc n) [] = omega arith
    shorter (suc n) (b ∷ d) = let again = shorter n d in omega arith

    added : (c : Bytes) (es : List Entry) → take (length e.component) c ≡ c → meets_any (suc (length e.component)) new c es ≡ (meets c es || meets_any above old c es)
    added c es whole = rw (mark, whole) (ap (λ b. meets c es || b) (meets_below (length e.component) above new c es le between ∙ meets_alike above new old c es below))

    file : not (is_dir e.mode) ≡ true → (meets e.component (f ∷ fs) || meets_any above old e.component (f ∷ fs)) ≡ (is_short e (f ∷ fs) || meets_any above old e.component (f ∷ fs))
    file h = rw (short, h) refl

    last : (n m : ℕ) → n ≤ m → (nat_lt m (suc n) || meets_any (suc n) new f.component fs) ≡ (nat_eq n m || meets_any (n + 1) new f.component fs)
    last n m le = rw (add-one n, tests n m le) refl where
      tests : (n m : ℕ) → n ≤ m → nat_lt m (suc n) ≡ nat_eq n m
      tests n m le = grind (arith, nat_tests)

pub after_kept : (e f : Entry) (fs : List Entry) (above rest : ℕ) (a : List Bool) → (nat_lt (length e.component) 4096 && is_kept e f) ≡ false → above ≤ length e.component → rest ≤ above
    → meets_any rest a e.component (f ∷ fs) ≡ meets_any above a e.component (f ∷ fs)
    → ((n : ℕ) → rest ≡ n + 1 → is_left a n e.component f.component ≡ true)
    → (is_short e (f ∷ fs) || meets_any above a e.component (f ∷ fs)) ≡ (nat_lt (length f.component) rest || meets_any rest a f.component fs)
unfolding meets_any
after_kept e f fs above rest a other fits le met top =
    rw (alone, ← met) (by rest (omega arith) top)
  where
    split : (s d t m : Bool) → (s && (d && t)) ≡ false → (s && (d && (t && m))) ≡ false
    split true true true m h = absurd (false≢true (sym h))
    split true true false m h = refl
    split true false t m h = refl
    split false d t m h = refl

    alone : is_short e (f ∷ fs) ≡ false
    alone = split (nat_lt (length e.component) 4096) (not (is_dir e.mode)) (starts_with nat_eq f.component e.component) _ other

    by : (rest : ℕ) → rest ≤ length e.component → ((n : ℕ) → rest ≡ n + 1 → is_left a n e.component f.component ≡ true)
        → meets_any rest a e.component (f ∷ fs) ≡ (nat_lt (length f.component) rest || meets_any rest a f.component fs)
    by zero le top = sym (never (length f.component)) where
      never : (m : ℕ) → (nat_lt m 0 || false) ≡ false
      never m = grind (arith, nat_tests)
    by (suc n) le top = let t = and_parts (get_or a n false) _ (top n (sym (add-one n))) in next_meets n a e.component f fs t.0 t.1 (omega arith)

-- a front that the next component does not begin with is passed by
pub passed_by : (rest n : ℕ) (a : List Bool) (c : Bytes) (f : Entry) (fs : List Entry) → rest ≡ suc n → (get_or a n false && starts_with nat_eq f.component (take n c)) ≡ false
    → meets_any n a c (f ∷ fs) ≡ meets_any rest a c (f ∷ fs)
unfolding meets_any
passed_by rest n a c f fs is h = sym (ap (λ r. meets_any r a c (f ∷ fs)) is ∙ split (get_or a n false) (starts_with nat_eq f.component (take n c)) (same_bytes f.component (take n c) || meets (take n c) fs) (meets_any n a c (f ∷ fs)) h) where
  split : (b s m r : Bool) → (b && s) ≡ false → ((b && (s && m)) || r) ≡ r
  split true true m r h = absurd (false≢true (sym h))
  split true false m r h = refl
  split false s m r h = refl
