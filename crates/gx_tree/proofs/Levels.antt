-- A directory's entries in order give files in order; what is kept at a component after an edit of the entries.
use Rattle.std.proofs.Common.{◌≡◌, ◌≢◌, true, false, cond, not, [], ◌∷◌, ◌++◌, Option, Some, None, inl, inr, refl, sym, ap, ◌∙◌, append-nil}
use Rattle.std.specs.List.{list_all, AllByRecursion}
use Rattle.std.specs.declared.cmp.Ordering.TheVariants.{Less, Equal, Greater}
use Rattle.std.specs.Ordering.{is_lt, ordering_reverse}
use Rattle.std.specs.Cmp.Lexicographic.{nat_list_cmp_total}
use Rattle.std.specs.FinMap.Entries.{below_all}
use Rattle.std.proofs.lemmas.Bool.{and_parts, and_from, cases_Bool, false≢true, true≢false}
use Rattle.std.proofs.lemmas.List.Folds.{list_all-append}
use Rattle.gx_model.specs.Texts.{Bytes, byte_cmp, same_bytes}
use Rattle.gx_model.specs.Texts.Paths.{Path, is_component, path_cmp}
use Rattle.gx_model.specs.Histories.Files.{FileMap}
use Rattle.gx_model.specs.Records.HistoryOf.{placed}
use Rattle.gx_tree.specs.Nodes.{Kept, Level, IsAfter, IsInner, IsKept, IsLevel, comes_before, file, files, folder, inserted, is_inner_path, kept_at, kept_map, key, others, with_kept}
use Rattle.gx_tree.proofs.Lookups.{AreInner, IsSorted, less_is}
use Rattle.gx_tree.proofs.Order.{cmp_below, cmp_other, first_text, first_texts_differ, texts_equal}
use Rattle.gx_tree.proofs.Texts.{bytes_same, cases_bytes, differ_from, same_bytes_flip, same_itself}

-- ---- the files of one entry

abbrev AllFit : Bytes → Kept → FileMap Bytes → Type 0
AllFit c k f = AllByRecursion (λ e. (first_text c e.0 ≡ key c k) × (list_all is_component e.0 ≡ true)) f

inner_fit : (c : Bytes) (g f : FileMap Bytes) → AreInner f → AllFit c (folder g) f
inner_fit c g [] h = tt
inner_fit c g (e ∷ f) h = (one e.0 (and_parts _ _ h).0, inner_fit c g f (and_parts _ _ h).1)
  where
    one : (p : Path) → is_inner_path p ≡ true → (first_text c p ≡ c ++ 47 ∷ []) × (list_all is_component p ≡ true)
    one [] h = absurd (false≢true h)
    one (d ∷ p) h = (refl, h)

all_fit : (c : Bytes) (k : Kept) → IsKept k → AllFit c k (kept_map k)
all_fit c (file x) h = ((sym (append-nil c), refl), tt)
all_fit c (folder f) h = inner_fit c f f h.1.paths

placed_inner : (c : Bytes) (k : Kept) (f : FileMap Bytes) → is_component c ≡ true → AllFit c k f → AreInner (placed c f)
placed_inner c k [] h a = refl
placed_inner c k (e ∷ f) h a = and_from _ _ (and_from _ _ h a.0.1) (placed_inner c k f h a.1)

-- a path at another component comes before each file of an entry whose key comes later
before_placed : (c d : Bytes) (p : Path) (k : Kept) (f : FileMap Bytes) → is_component c ≡ true → is_component d ≡ true → (c ≢ d) → is_lt (byte_cmp (first_text c p) (key d k)) ≡ true → AllFit d k f → below_all path_cmp (c ∷ p) (placed d f) ≡ true
before_placed c d p k [] hc hd n l a = refl
before_placed c d p k (e ∷ f) hc hd n l a =
    and_from _ _ (ap is_lt (cmp_other c d p e.0 hc hd n ∙ ap (byte_cmp (first_text c p)) a.0.0) ∙ l) (before_placed c d p k f hc hd n l a.1)

below_all-append : (p : Path) (f g : FileMap Bytes) → below_all path_cmp p f ≡ true → below_all path_cmp p g ≡ true → below_all path_cmp p (f ++ g) ≡ true
below_all-append p [] g hf hg = hg
below_all-append p (e ∷ f) g hf hg = and_from _ _ (and_parts _ _ hf).0 (below_all-append p f g (and_parts _ _ hf).1 hg)

-- and before the files of all entries that come later
before_files : (c : Bytes) (p : Path) (k : Kept) (es : Level) → is_component c ≡ true → first_text c p ≡ key c k → AllByRecursion (IsAfter (c, k)) es → IsLevel es → below_all path_cmp (c ∷ p) (files es) ≡ true
before_files c p k [] hc t a h = refl
before_files c p k (e ∷ es) hc t a h =
    below_all-append (c ∷ p) (placed e.0 (kept_map e.1)) (files es)
    (before_placed c e.0 p e.1 (kept_map e.1) hc h.0 (differ_from c e.0 a.0.0) (ap (λ z. is_lt (byte_cmp z (key e.0 e.1))) t ∙ a.0.1) (all_fit e.0 e.1 h.1))
    (before_files c p k es hc t a.1 h.3)

-- ---- entries in order give files in order

below_same : (c : Bytes) (p : Path) (f : FileMap Bytes) → is_inner_path p ≡ true → AreInner f → below_all path_cmp p f ≡ true → below_all path_cmp (c ∷ p) (placed c f) ≡ true
below_same c p [] n h b = refl
below_same c p (e ∷ f) n h b =
    and_from _ _ (one p e.0 n (and_parts _ _ h).0 (and_parts _ _ b).0) (below_same c p f n (and_parts _ _ h).1 (and_parts _ _ b).1)
  where
    one : (p q : Path) → is_inner_path p ≡ true → is_inner_path q ≡ true → is_lt (path_cmp p q) ≡ true → is_lt (path_cmp (c ∷ p) (c ∷ q)) ≡ true
    one [] q m n l = absurd (false≢true m)
    one (x ∷ p) [] m n l = absurd (false≢true n)
    one (x ∷ p) (y ∷ q) m n l = ap is_lt (cmp_below c x y p q) ∙ l

placed_sorted : (c : Bytes) (f : FileMap Bytes) → AreInner f → IsSorted f → IsSorted (placed c f)
placed_sorted c [] h s = refl
placed_sorted c (e ∷ f) h s =
    and_from _ _ (below_same c e.0 f (and_parts _ _ h).0 (and_parts _ _ h).1 (and_parts _ _ s).0) (placed_sorted c f (and_parts _ _ h).1 (and_parts _ _ s).1)

kept_sorted : (c : Bytes) (k : Kept) → IsKept k → IsSorted (placed c (kept_map k))
kept_sorted c (file x) h = refl
kept_sorted c (folder f) h = placed_sorted c f h.1.paths h.1.sorted

sorted-append : (f g : FileMap Bytes) → IsSorted f → IsSorted g → AllByRecursion (λ e. below_all path_cmp e.0 g ≡ true) f → IsSorted (f ++ g)
sorted-append [] g hf hg a = hg
sorted-append (e ∷ f) g hf hg a = and_from _ _ (below_all-append e.0 f g (and_parts _ _ hf).0 a.0) (sorted-append f g (and_parts _ _ hf).1 hg a.1)

before_all : (c : Bytes) (k : Kept) (f : FileMap Bytes) (es : Level) → is_component c ≡ true → AllFit c k f → AllByRecursion (IsAfter (c, k)) es → IsLevel es → AllByRecursion (λ e. below_all path_cmp e.0 (files es) ≡ true) (placed c f)
before_all c k [] es hc t a h = tt
before_all c k (e ∷ f) es hc t a h = (before_files c e.0 k es hc t.0.0 a h, before_all c k f es hc t.1 a h)

files_sorted : (es : Level) → IsLevel es → IsSorted (files es)
files_sorted [] h = refl
files_sorted (e ∷ es) h = sorted-append (placed e.0 (kept_map e.1)) (files es) (kept_sorted e.0 e.1 h.1) (files_sorted es h.3) (before_all e.0 e.1 (kept_map e.1) es h.0 (all_fit e.0 e.1 h.1) h.2 h.3)

files_inner : (es : Level) → IsLevel es → AreInner (files es)
files_inner [] h = refl
files_inner (e ∷ es) h = list_all-append (λ x. is_inner_path x.0) (placed e.0 (kept_map e.1)) (files es) ∙ and_from _ _ (placed_inner e.0 e.1 (kept_map e.1) h.0 (all_fit e.0 e.1 h.1)) (files_inner es h.3)

pub IsInner-files : (es : Level) → IsLevel es → IsInner (files es)
IsInner-files es h = record { paths = files_inner es h; sorted = files_sorted es h }

-- ---- without an entry

pub kept_at-others : (c d : Bytes) (es : Level) → kept_at d (others c es) ≡ cond (same_bytes d c) None (kept_at d es)
kept_at-others c d [] = elim (same_bytes d c) as (λ b. ◌≡◌ {A = Option Kept} None (cond b None None)) [ true ↦ refl | false ↦ refl ]
kept_at-others c d (e ∷ es) = elim (cases_bytes c e.0) [
  | inl s ↦ elim (cases_bytes d e.0) [
    | inl t ↦ let x = bytes_same c e.0 s in let y = bytes_same d c (t ∙ sym s) in rw (x, y) (rw y at (kept_at-others c d es))
    | inr t ↦ let x = bytes_same c e.0 s in let y : same_bytes d c ≡ false = rw s t in rw (x, y, t) (rw y at (kept_at-others c d es))
  ]
  | inr n ↦ elim (cases_bytes d e.0) [
    | inl t ↦ let x = bytes_same d e.0 t in let y : same_bytes d c ≡ false = rw t (same_bytes_flip e.0 c ∙ n) in rw (n, x, y) refl
    | inr t ↦ rw (n, t) (kept_at-others c d es)
  ]
]

all_after-others : (a : Bytes × Kept) (c : Bytes) (es : Level) → AllByRecursion (IsAfter a) es → AllByRecursion (IsAfter a) (others c es)
all_after-others a c [] h = tt
all_after-others a c (e ∷ es) h = elim (same_bytes c e.0) as (λ b. AllByRecursion (IsAfter a) (cond (not b) (e ∷ others c es) (others c es))) [
  | true ↦ all_after-others a c es h.1
  | false ↦ (h.0, all_after-others a c es h.1)
]

pub IsLevel-others : (c : Bytes) (es : Level) → IsLevel es → IsLevel (others c es)
IsLevel-others c [] h = tt
IsLevel-others c (e ∷ es) h = elim (same_bytes c e.0) as (λ b. IsLevel (cond (not b) (e ∷ others c es) (others c es))) [
  | true ↦ IsLevel-others c es h.3
  | false ↦ (h.0, h.1, all_after-others e c es h.2, IsLevel-others c es h.3)
]

-- ---- with an entry at its place

inserted_head : (c d : Bytes) (k : Kept) (e : Bytes × Kept) (es fs : Level) → same_bytes c e.0 ≡ false → kept_at d fs ≡ cond (same_bytes d c) (Some k) (kept_at d es) → kept_at d (cond (comes_before c k e) ((c, k) ∷ e ∷ es) (e ∷ fs)) ≡ cond (same_bytes d c) (Some k) (cond (same_bytes d e.0) (Some e.1) (kept_at d es))
inserted_head c d k e es fs n ih = elim (cases_Bool (comes_before c k e)) [
  | inl a ↦ rw a refl
  | inr a ↦ elim (cases_bytes d c) [
    | inl t ↦ let x = bytes_same d c t in let y : same_bytes d e.0 ≡ false = rw t n in rw (a, x, y) (rw x at ih)
    | inr t ↦ rw (a, ih, t) refl
  ]
]

pub kept_at-inserted : (c d : Bytes) (k : Kept) (es : Level) → kept_at c es ≡ None → kept_at d (inserted c k es) ≡ cond (same_bytes d c) (Some k) (kept_at d es)
kept_at-inserted c d k [] h = refl
kept_at-inserted c d k (e ∷ es) h = elim (cases_bytes c e.0) [
  | inl s ↦ let clash : Some e.1 ≡ None = rw (bytes_same c e.0 s) at h in cc
  | inr n ↦ inserted_head c d k e es (inserted c k es) n (kept_at-inserted c d k es (rw n at h))
]

all_after-inserted : (a : Bytes × Kept) (c : Bytes) (k : Kept) (es : Level) → IsAfter a (c, k) → AllByRecursion (IsAfter a) es → AllByRecursion (IsAfter a) (inserted c k es)
all_after-inserted a c k [] n h = (n, tt)
all_after-inserted a c k (e ∷ es) n h = elim (comes_before c k e) as (λ b. AllByRecursion (IsAfter a) (cond b ((c, k) ∷ e ∷ es) (e ∷ inserted c k es))) [
  | true ↦ (n, h)
  | false ↦ (h.0, all_after-inserted a c k es n h.1)
]

pub key_trans : (a b c : Bytes) → is_lt (byte_cmp a b) ≡ true → is_lt (byte_cmp b c) ≡ true → is_lt (byte_cmp a c) ≡ true
key_trans a b c h k = ap is_lt (nat_list_cmp_total.trans a b c (less_is _ h) (less_is _ k))

after_trans : (c : Bytes) (k : Kept) (e : Bytes × Kept) (es : Level) → comes_before c k e ≡ true → kept_at c es ≡ None → AllByRecursion (IsAfter e) es → AllByRecursion (IsAfter (c, k)) es
after_trans c k e [] l n h = tt
after_trans c k e (f ∷ es) l n h = elim (cases_bytes c f.0) [
  | inl s ↦ let clash : Some f.1 ≡ None = rw (bytes_same c f.0 s) at n in cc
  | inr t ↦ ((t, key_trans (key c k) (key e.0 e.1) (key f.0 f.1) l h.0.1), after_trans c k e es l (rw t at n) h.1)
]

-- a path that may follow a component where k is kept
follows : Kept → Path
follows (file x) = []
follows (folder f) = [] ∷ []

follows_fits : (c : Bytes) (k : Kept) → first_text c (follows k) ≡ key c k
unfolding follows
follows_fits c (file x) = sym (append-nil c)
follows_fits c (folder f) = refl

-- of two entries with different components, one comes first
pub one_comes_first : (c d : Bytes) (j k : Kept) → is_component c ≡ true → is_component d ≡ true → (c ≢ d) → comes_before c j (d, k) ≡ false → comes_before d k (c, j) ≡ true
one_comes_first c d j k hc hd n l =
    elim (byte_cmp (key c j) (key d k)) as (λ o. byte_cmp (key c j) (key d k) ≡ o → comes_before d k (c, j) ≡ true) [
      | Less ↦ λ e. absurd (true≢false (ap is_lt (sym e) ∙ l))
      | Equal ↦ λ e. absurd (first_texts_differ c d (follows j) (follows k) hc hd n (follows_fits c j ∙ texts_equal (key c j) (key d k) e ∙ sym (follows_fits d k)))
      | Greater ↦ λ e. ap is_lt (nat_list_cmp_total.antisymm (key d k) (key c j) ∙ ap ordering_reverse e)
    ] refl

pub IsLevel-inserted : (c : Bytes) (k : Kept) (es : Level) → is_component c ≡ true → IsKept k → kept_at c es ≡ None → IsLevel es → IsLevel (inserted c k es)
IsLevel-inserted c k [] hc hk n h = (hc, hk, tt, tt)
IsLevel-inserted c k (e ∷ es) hc hk n h = elim (cases_bytes c e.0) [
  | inl s ↦ let clash : Some e.1 ≡ None = rw (bytes_same c e.0 s) at n in cc
  | inr t ↦ elim (cases_Bool (comes_before c k e)) [
    | inl a ↦ rw a (hc, hk, ((t, a), after_trans c k e es a (rw t at n) h.2), h)
    | inr a ↦ rw a (h.0, h.1, all_after-inserted e c k es (rw (same_bytes_flip e.0 c) t, one_comes_first c e.0 k e.1 hc h.0 (differ_from c e.0 t) a) h.2, IsLevel-inserted c k es hc hk (rw t at n) h.3)
  ]
]

gone : (c : Bytes) (es : Level) → kept_at c (others c es) ≡ None
gone c es = kept_at-others c c es ∙ rw (same_itself c) refl

pub kept_at-with_kept : (c d : Bytes) (k : Kept) (es : Level) → kept_at d (with_kept c k es) ≡ cond (same_bytes d c) (Some k) (kept_at d es)
kept_at-with_kept c d k es = kept_at-inserted c d k (others c es) (gone c es) ∙ elim (cases_Bool (same_bytes d c)) [
  | inl t ↦ rw t refl
  | inr t ↦ rw (t, kept_at-others c d es, t) refl
]

pub IsLevel-with_kept : (c : Bytes) (k : Kept) (es : Level) → is_component c ≡ true → IsKept k → IsLevel es → IsLevel (with_kept c k es)
IsLevel-with_kept c k es hc hk h = IsLevel-inserted c k (others c es) hc hk (gone c es) (IsLevel-others c es h)
