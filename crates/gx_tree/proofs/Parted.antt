-- Entries where what stood below one goes, and an item comes below another.
use Rattle.std.proofs.Common.{◌≡◌, ℕ, ◌+◌, ◌<◌, zero, suc, max, Bool, true, false, not, List, [], ◌∷◌, length, get_or, drop, take, slice_set, Some, None, Result, Ok, Err, inl, inr, refl, sym, ap, ◌∙◌, arith, subst}
use Rattle.std.specs.Prelude.{OnErr}
use Rattle.std.specs.List.{filter, list_all, remove, AllByRecursion}
use Rattle.std.proofs.lemmas.Bool.{cases_Bool, true≢false}
use Rattle.gx_model.specs.Texts.{Bytes, same_bytes}
use Rattle.gx_model.specs.Texts.Paths.{Path, is_component}
use Rattle.gx_model.specs.Histories.Edits.{removed}
use Rattle.gx_tree.specs.Nodes.{Kept, Level, IsKept, IsLevel, files, kept_at, kept_map, mark, others, with_kept}
use Rattle.gx_tree.specs.Rooms.{Changes, IsReach, counted, kept_reach, longest}
use Rattle.gx_tree.specs.Searches.{IsEntryAt}
use Rattle.gx_tree.specs.Steps.{grafted, kept_grafted, kept_removed}
use Rattle.gx_tree.specs.Views.{shown_item, shown_entry, shown_entries}
use Rattle.gx_tree.specs.declared.component.Component.{Component}
use Rattle.gx_tree.specs.declared.directory.Entry.{Entry}
use Rattle.gx_tree.specs.declared.directory.Item.{Item}
use Rattle.gx_tree.proofs.Changed.{gone_at, grafted_at, left_at, reach_is, read_set, read_twice}
use Rattle.gx_tree.proofs.EditSteps.{Leaves}
use Rattle.gx_tree.proofs.Homes.{all_joined}
use Rattle.gx_tree.proofs.InPlace.{set_at, standing}
use Rattle.gx_tree.proofs.Levels.{IsLevel-others, kept_at-others, kept_at-with_kept}
use Rattle.gx_tree.proofs.Renamed.{others_replaced, parted}
use Rattle.gx_tree.proofs.Rooms.{longest-inserted, longest-others, put_kept}
use Rattle.gx_tree.proofs.TakenOut.{all_left, all_taken, seen_without, set_aside}
use Rattle.gx_tree.proofs.Texts.{bytes_same, same_bytes_flip, same_itself}

-- ---- two places

pub at_other : {X : Type 0} (xs : List X) (n m : ℕ) (x d : X) → (n ≡ m → ⊥) → get_or (slice_set xs n x) m d ≡ get_or xs m d
at_other [] n m x d h = refl
at_other (y ∷ xs) zero zero x d h = absurd (h refl)
at_other (y ∷ xs) zero (suc m) x d h = refl
at_other (y ∷ xs) (suc n) zero x d h = refl
at_other (y ∷ xs) (suc n) (suc m) x d h = at_other xs n m x d (λ e. h (ap suc e))

pub set_length : {X : Type 0} (xs : List X) (n : ℕ) (x : X) → length (slice_set xs n x) ≡ length xs
set_length [] n x = refl
set_length (y ∷ xs) zero x = refl
set_length (y ∷ xs) (suc n) x = ap suc (set_length xs n x)

set_again : {X : Type 0} (xs : List X) (n : ℕ) (x y : X) → slice_set (slice_set xs n x) n y ≡ slice_set xs n y
set_again [] n x y = refl
set_again (z ∷ xs) zero x y = refl
set_again (z ∷ xs) (suc n) x y = ap (λ r. z ∷ r) (set_again xs n x y)

set_apart : {X : Type 0} (xs : List X) (n m : ℕ) (x y : X) → (n ≡ m → ⊥) → slice_set (slice_set xs n x) m y ≡ slice_set (slice_set xs m y) n x
set_apart [] n m x y h = refl
set_apart (z ∷ xs) zero zero x y h = absurd (h refl)
set_apart (z ∷ xs) zero (suc m) x y h = refl
set_apart (z ∷ xs) (suc n) zero x y h = refl
set_apart (z ∷ xs) (suc n) (suc m) x y h = ap (λ r. z ∷ r) (set_apart xs n m x y (λ e. h (ap suc e)))

-- what stands at t while something is done at n
pub set_thrice : {X : Type 0} (xs : List X) (t n : ℕ) (x y z : X) → (t ≡ n → ⊥) → slice_set (slice_set (slice_set xs t x) n y) t z ≡ slice_set (slice_set xs t z) n y
set_thrice xs t n x y z h = ap (λ r. slice_set r t z) (set_apart xs t n x y h) ∙ set_again (slice_set xs n y) t x z ∙ sym (set_apart xs t n z y h)

pub set_same : {X : Type 0} (xs : List X) (n : ℕ) (x : X) → x ≡ get_or xs n x → slice_set xs n x ≡ xs
set_same [] n x h = refl
set_same (y ∷ xs) zero x h = ap (λ z. z ∷ xs) h
set_same (y ∷ xs) (suc n) x h = ap (λ r. y ∷ r) (set_same xs n x h)

pub all_without : {X : Type 0} (P : X → Type 0) (xs : List X) (i : ℕ) → AllByRecursion P xs → AllByRecursion P (remove xs i)
all_without P xs i h = all_joined P (take i xs) (drop (suc i) xs) (all_taken P xs i h) (all_left P xs (suc i) h)

-- entries of two components stand at two places
pub places_differ : {A : Type 0} (c d : Bytes) (es : List (Entry A)) (n m : ℕ) (e : Entry A) → IsEntryAt c es n → IsEntryAt d es m → same_bytes c d ≡ false → m ≡ n → ⊥
places_differ c d es n m e at to h q =
    let is : d ≡ c = sym (to.1 e) ∙ ap (λ z. (shown_entry (get_or es z e)).0) q ∙ at.1 e in
    true≢false (sym (bytes_same c d (sym is)) ∙ h)

-- what stands at m is what was put there
pub third : {X : Type 0} (xs : List X) (n m : ℕ) (x e t : X) → m < length xs → (m ≡ n → ⊥) → t ≡ get_or (slice_set (slice_set xs m x) n e) m t → t ≡ x
third xs n m x e t l two h = read_set xs m x t l (h ∙ at_other (slice_set xs m x) n m e t (λ y. two (sym y)))

-- both stand again as they stood
pub all_back : {X : Type 0} (xs : List X) (n m : ℕ) (r q x e f : X) → (m ≡ n → ⊥) → r ≡ get_or (slice_set xs m x) n r → q ≡ get_or xs m q → e ≡ r → f ≡ q → slice_set (slice_set (slice_set xs m x) n e) m f ≡ xs
all_back xs n m r q x e f two ir iq er fq =
    set_thrice xs m n x e f two
    ∙ ap (λ z. slice_set z n e) (set_same xs m f (subst (λ z. z ≡ get_or xs m z) (sym fq) iq))
    ∙ set_same xs n e (subst (λ z. z ≡ get_or xs n z) (sym er) (ir ∙ at_other xs m n x r two))

-- an entry of these parts
abbrev pub entry_of : {A : Type 0} → Component A → Item A → Entry A
entry_of c i = record { component = c; item = i }

pub same_entry : {A : Type 0} (r : Entry A) (i : Item A) → i ≡ r.item → entry_of r.component i ≡ r
same_entry r i h = ap (entry_of r.component) h

pub entry_back : {A : Type 0} (q : Entry A) (c : Component A) (i : Item A) → c ≡ q.component → i ≡ q.item → entry_of c i ≡ q
entry_back q c i hc hi = ap (λ z. entry_of z i) hc ∙ ap (entry_of q.component) hi

-- what holds where an error is answered holds of the result
pub on_err : {T E P : Type 0} (r : Result T E) → P → OnErr r P
on_err (Ok x) p = tt
on_err (Err e) p = p

-- an entry's place, once another is changed
pub still_at : {A : Type 0} (c : Bytes) (es : List (Entry A)) (n m : ℕ) (x : Entry A) → IsEntryAt c es n → (m ≡ n → ⊥) → IsEntryAt c (slice_set es m x) n
still_at c es n m x at h = (subst (λ z. n < z) (sym (set_length es m x)) at.0, λ d. ap (λ z. (shown_entry z).0) (at_other es m n x d h) ∙ at.1 d)

filters_apart : {X : Type 0} (p q : X → Bool) (xs : List X) → filter q (filter p xs) ≡ filter p (filter q xs)
filters_apart p q [] = refl
filters_apart p q (x ∷ xs) = elim (cases_Bool (p x)) [
  | inl a ↦ elim (cases_Bool (q x)) [
    | inl b ↦ rw (a, b) (rw a (ap (λ r. x ∷ r) (filters_apart p q xs)))
    | inr b ↦ rw (a, b) (filters_apart p q xs)
  ]
  | inr a ↦ elim (cases_Bool (q x)) [
    | inl b ↦ rw (a, b) (rw a (filters_apart p q xs))
    | inr b ↦ rw (a, b) (filters_apart p q xs)
  ]
]

others_apart : (c d : Bytes) (es : Level) → others d (others c es) ≡ others c (others d es)
others_apart c d es = filters_apart (λ e. not (same_bytes c e.0)) (λ e. not (same_bytes d e.0)) es

-- ---- how far both reach

module _ (c d : Bytes) (j q f : Kept) (reach : ℕ) (es mid : Level) (h : IsLevel es) (hm : IsLevel mid) (n : same_bytes c d ≡ false) (at : kept_at c es ≡ Some j) (to : kept_at d es ≡ Some q) (em : mid ≡ with_kept d f es) where
  flip : same_bytes d c ≡ false
  flip = same_bytes_flip d c ∙ n

  abbrev rest : Level
  rest = others d (others c es)

  first_longest : longest (files es) ≡ max (kept_reach (c, j)) (longest (files (others c es)))
  first_longest = longest-others c j es h at

  then_longest : longest (files (others c es)) ≡ max (kept_reach (d, q)) (longest (files rest))
  then_longest = longest-others d q (others c es) (IsLevel-others c es h) (kept_at-others c d es ∙ rw flip to)

  mid_at : kept_at d mid ≡ Some f
  mid_at = ap (kept_at d) em ∙ kept_at-with_kept d d f es ∙ rw (same_itself d) refl

  mid_rest : others d (others c mid) ≡ rest
  mid_rest = others_apart c d mid ∙ ap (others c) (ap (others d) em ∙ others_replaced d (Some f) es) ∙ sym (others_apart c d es)

  mid_longest : longest (files (others c mid)) ≡ max (kept_reach (d, f)) (longest (files rest))
  mid_longest = longest-others d f (others c mid) (IsLevel-others c mid hm) (kept_at-others c d mid ∙ rw flip mid_at) ∙ ap (λ z. max (kept_reach (d, f)) (longest (files z))) mid_rest

  pub both_changed : {bc bd ac ad : ℕ} (e : Kept) (out : Level) → IsKept e → out ≡ with_kept c e mid → IsReach reach (files es) → bc ≡ counted (kept_reach (c, j)) → bd ≡ counted (kept_reach (d, q)) → ac ≡ counted (kept_reach (c, e)) → ad ≡ counted (kept_reach (d, f)) → Changes reach (max bc bd) (max ad ac) (files out)
  both_changed e out he eo hr ebc ebd eac ead = (
    max (kept_reach (c, j)) (kept_reach (d, q)),
    max (kept_reach (d, f)) (kept_reach (c, e)),
    longest (files rest),
    record {
      was = omega (arith, ebc, ebd);
      is = omega (arith, eac, ead);
      old = omega (arith, hr, first_longest, then_longest);
      new = omega (arith, ap (λ z. longest (files z)) eo, longest-inserted c e (others c mid) he, mid_longest);
    },
  )

  pub both_but_one : {bc bd ad : ℕ} (out : Level) → out ≡ others c mid → IsReach reach (files es) → bc ≡ counted (kept_reach (c, j)) → bd ≡ counted (kept_reach (d, q)) → ad ≡ counted (kept_reach (d, f)) → Changes reach (max bc bd) ad (files out)
  both_but_one out eo hr ebc ebd ead = (
    max (kept_reach (c, j)) (kept_reach (d, q)),
    kept_reach (d, f),
    longest (files rest),
    record {
      was = omega (arith, ebc, ebd);
      is = ead;
      old = omega (arith, hr, first_longest, then_longest);
      new = omega (arith, ap (λ z. longest (files z)) eo, mid_longest);
    },
  )

-- ---- below both

module _ {A : Type 0} (s d : Path) (i n m : ℕ) (k : Kept) (es three : List (Entry A)) (r q x e f : Entry A)
    (ls : i < length s) (ld : i < length d) (hs : list_all is_component s ≡ true) (hd : list_all is_component d ≡ true)
    (apart : same_bytes (get_or s i []) (get_or d i []) ≡ false) (hk : IsKept k) (h : IsLevel (shown_entries es))
    (at : IsEntryAt (get_or s i []) es n) (to : IsEntryAt (get_or d i []) es m)
    (ir : r ≡ get_or (slice_set es m x) n r) (iq : q ≡ get_or es m q)
    (cf : (shown_entry f).0 ≡ (shown_entry q).0) (mf : mark (shown_item f.item) ≡ mark (shown_item q.item))
    (kf : shown_item f.item ≡ kept_grafted (drop (i + 1) d) k (Some (shown_item q.item)))
    (is : three ≡ slice_set (slice_set (slice_set es m x) n e) m f) where
  two : m ≡ n → ⊥
  two = places_differ (get_or s i []) (get_or d i []) es n m r at to apart

  read : r ≡ get_or es n r
  read = ir ∙ at_other es m n x r two

  come : Leaves (grafted (drop i d) (kept_map k) (files (shown_entries es))) (shown_entries (slice_set es m f))
  come = grafted_at (get_or d i []) d i m k es q f ld hd hk h refl to iq cf mf kf

  here : IsEntryAt (get_or s i []) (slice_set es m f) n
  here = still_at (get_or s i []) es n m f at two

  read_here : r ≡ get_or (slice_set es m f) n r
  read_here = read ∙ sym (at_other es m n f r two)

  all : three ≡ slice_set (slice_set es m f) n e
  all = is ∙ set_thrice es m n x e f two

  module _ (ce : (shown_entry e).0 ≡ (shown_entry r).0) (me : mark (shown_item e.item) ≡ mark (shown_item r.item)) (ke : Some (shown_item e.item) ≡ kept_removed (drop (i + 1) s) (Some (shown_item r.item))) where
    left : Leaves (removed (files (shown_entries (slice_set es m f))) (drop i s)) (shown_entries (slice_set (slice_set es m f) n e))
    left = left_at (get_or s i []) s i n (slice_set es m f) r e ls hs come.level refl here read_here ce me ke

    -- what is left of the one takes its place
    pub both_left : Leaves (grafted (drop i d) (kept_map k) (removed (files (shown_entries es)) (drop i s))) (shown_entries three)
    both_left = record {
      level = subst (λ z. IsLevel (shown_entries z)) (sym all) left.level;
      is = ap (λ z. files (shown_entries z)) all ∙ parted s d i k (shown_entries es) ls ld apart hd hk h come.is left.is;
    }

    pub both_reach : {bc bd ac ad : ℕ} (rb qb ra qa : Entry A) (reach : ℕ) → IsReach reach (files (shown_entries es)) → rb ≡ get_or es n rb → qb ≡ get_or es m qb → qa ≡ get_or three m qa → ra ≡ get_or three n ra → bc ≡ counted (kept_reach (shown_entry rb)) → bd ≡ counted (kept_reach (shown_entry qb)) → ad ≡ counted (kept_reach (shown_entry qa)) → ac ≡ counted (kept_reach (shown_entry ra)) → Changes reach (max bc bd) (max ad ac) (files (shown_entries three))
    both_reach {bc} {bd} {ac} {ad} rb qb ra qa reach hr irb iqb iqa ira ebc ebd ead eac =
        let a = get_or s i [] in
        let b = get_or d i [] in
        let out = slice_set (slice_set es m f) n e in
        let cr : (shown_entry r).0 ≡ a = ap (λ z. (shown_entry z).0) read ∙ at.1 r in
        let cq : (shown_entry q).0 ≡ b = ap (λ z. (shown_entry z).0) iq ∙ to.1 q in
        let ra_is : ra ≡ e = read_set (slice_set es m f) n e ra here.0 (ira ∙ ap (λ z. get_or z n ra) all) in
        let qa_is : qa ≡ f = read_set es m f qa to.0 (iqa ∙ ap (λ z. get_or z m qa) all ∙ at_other (slice_set es m f) n m e qa (λ y. two (sym y))) in
        subst (λ z. Changes reach (max bc bd) (max ad ac) (files (shown_entries z))) (sym all)
        (both_changed a b (shown_item r.item) (shown_item q.item) (shown_item f.item) reach (shown_entries es) (shown_entries (slice_set es m f)) h come.level apart (standing a es n r h at read) (standing b es m q h to iq) (set_at b es m q f h to iq cf mf)
        (shown_item e.item) (shown_entries out) (put_kept a (shown_item e.item) (shown_entries (slice_set es m f)) (subst IsLevel (set_at a (slice_set es m f) n r e come.level here read_here ce me) left.level)) (set_at a (slice_set es m f) n r e come.level here read_here ce me) hr
        (reach_is a r bc cr (ebc ∙ ap (λ z. counted (kept_reach (shown_entry z))) (read_twice es n r rb at.0 read irb)))
        (reach_is b q bd cq (ebd ∙ ap (λ z. counted (kept_reach (shown_entry z))) (read_twice es m q qb to.0 iq iqb)))
        (reach_is a e ac (ce ∙ cr) (eac ∙ ap (λ z. counted (kept_reach (shown_entry z))) ra_is))
        (reach_is b f ad (cf ∙ cq) (ead ∙ ap (λ z. counted (kept_reach (shown_entry z))) qa_is)))

  -- or nothing is left
  module _ (out : List (Entry A)) (io : out ≡ remove three n) where
    gone_is : out ≡ remove (slice_set (slice_set es m f) n e) n
    gone_is = io ∙ ap (λ z. remove z n) all

    pub both_gone : None ≡ kept_removed (drop (i + 1) s) (Some (shown_item r.item)) → Leaves (grafted (drop i d) (kept_map k) (removed (files (shown_entries es)) (drop i s))) (shown_entries out)
    both_gone ke =
        let gone = gone_at (get_or s i []) s i n (slice_set es m f) out r e ls hs come.level refl here read_here ke gone_is in
        record { level = gone.level; is = parted s d i k (shown_entries es) ls ld apart hd hk h come.is gone.is }

    pub gone_both_reach : {bc bd ad : ℕ} (rb qb qa : Entry A) (reach : ℕ) → IsReach reach (files (shown_entries es)) → rb ≡ get_or es n rb → qb ≡ get_or es m qb → qa ≡ get_or three m qa → bc ≡ counted (kept_reach (shown_entry rb)) → bd ≡ counted (kept_reach (shown_entry qb)) → ad ≡ counted (kept_reach (shown_entry qa)) → Changes reach (max bc bd) ad (files (shown_entries out))
    gone_both_reach {bc} {bd} {ad} rb qb qa reach hr irb iqb iqa ebc ebd ead =
        let a = get_or s i [] in
        let b = get_or d i [] in
        let cr : (shown_entry r).0 ≡ a = ap (λ z. (shown_entry z).0) read ∙ at.1 r in
        let cq : (shown_entry q).0 ≡ b = ap (λ z. (shown_entry z).0) iq ∙ to.1 q in
        let qa_is : qa ≡ f = read_set es m f qa to.0 (iqa ∙ ap (λ z. get_or z m qa) all ∙ at_other (slice_set es m f) n m e qa (λ y. two (sym y))) in
        let seen : shown_entries out ≡ others a (shown_entries (slice_set es m f)) = ap shown_entries (gone_is ∙ set_aside (slice_set es m f) n e) ∙ seen_without a (slice_set es m f) n come.level here in
        both_but_one a b (shown_item r.item) (shown_item q.item) (shown_item f.item) reach (shown_entries es) (shown_entries (slice_set es m f)) h come.level apart (standing a es n r h at read) (standing b es m q h to iq) (set_at b es m q f h to iq cf mf)
        (shown_entries out) seen hr
        (reach_is a r bc cr (ebc ∙ ap (λ z. counted (kept_reach (shown_entry z))) (read_twice es n r rb at.0 read irb)))
        (reach_is b q bd cq (ebd ∙ ap (λ z. counted (kept_reach (shown_entry z))) (read_twice es m q qb to.0 iq iqb)))
        (reach_is b f ad (cf ∙ cq) (ead ∙ ap (λ z. counted (kept_reach (shown_entry z))) qa_is))
