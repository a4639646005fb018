-- The paths at and below an entry come before those of the entries behind it.
use Rattle.std.proofs.Common.{◌≡◌, ◌≢◌, ◌∙◌, true, false, List, [], ◌∷◌, ◌++◌, inl, inr, refl, sym, ap, subst, append-nil}
use Rattle.std.specs.Prelude.{IsTrue}
use Rattle.std.specs.List.{flat_map, list_all, AllByRecursion}
use Rattle.std.specs.declared.cmp.Ordering.{Ordering}
use Rattle.std.specs.declared.cmp.Ordering.TheVariants.{Less, Equal, Greater}
use Rattle.std.specs.Ordering.{is_lt, nat_cmp, ordering_reverse}
use Rattle.std.specs.Cmp.{tied_itself}
use Rattle.std.specs.Cmp.Lexicographic.{nat_list_cmp_total, slice_cmp}
use Rattle.std.proofs.lemmas.Bool.{and_parts, false≢true, true≢false}
use Rattle.gx_model.specs.Histories.Files.{FileMap, Leaf}
use Rattle.gx_model.specs.Records.HistoryOf.{placed}
use Rattle.gx_model.specs.Texts.{Bytes, byte_cmp}
use Rattle.gx_model.specs.Texts.Paths.{Path, is_component, path_cmp, path_text}
use Rattle.gx_tree.specs.Nodes.{IsKept, IsLevel, Kept, Level, file, files, folder, is_inner_path, kept_map, key, precedes}
use Rattle.gx_tree.proofs.Lookups.{AreInner, less_is}
use Rattle.gx_tree.proofs.Order.{cmp_front, cmp_other, first_text, path_order}
use Rattle.gx_tree.proofs.Texts.{cases_bytes, differ_from}
use Rattle.gx_differences.specs.Listed.{by_path}
use Rattle.gx_differences.proofs.SideRuns as runs

abbrev pub AreBefore : FileMap Bytes → FileMap Bytes → Type 0
AreBefore = runs.AreBefore by_path

abbrev pub AreBehind : FileMap Bytes → FileMap Bytes → Type 0
AreBehind = runs.AreBehind by_path

-- the entries come behind a text
abbrev pub ComeBehind : Bytes → Level → Type 0
ComeBehind text es = AllByRecursion (λ e. IsTrue (precedes text e)) es

-- ---- what the path of a file below an entry begins with

abbrev IsOf : Kept → Path → Type 0
IsOf (file x) p = p ≡ []
IsOf (folder f) p = is_inner_path p ≡ true

first_is : (c : Bytes) (k : Kept) (p : Path) → IsOf k p → first_text c p ≡ key c k
first_is c (file x) [] h = sym (append-nil c)
first_is c (file x) (d ∷ p) h = absurd (cc h)
first_is c (folder f) [] h = absurd (false≢true h)
first_is c (folder f) (d ∷ p) h = refl

abbrev AreOf : Kept → FileMap Bytes → Type 0
AreOf k f = AllByRecursion (λ e. IsOf k e.0) f

folder_paths : (g f : FileMap Bytes) → AreInner f → AreOf (folder g) f
folder_paths g [] h = tt
folder_paths g (e ∷ f) h = ((and_parts (is_inner_path e.0) (list_all (λ x. is_inner_path x.0) f) h).0, folder_paths g f (and_parts (is_inner_path e.0) (list_all (λ x. is_inner_path x.0) f) h).1)

kept_paths : (k : Kept) → IsKept k → AreOf k (kept_map k)
kept_paths (file x) h = (refl, tt)
kept_paths (folder f) h = folder_paths f f h.1.paths

-- ---- the order of two paths is that of their entries

not_less : (k : Bytes) → is_lt (slice_cmp nat_cmp k k) ≡ true → ⊥
not_less k h = true≢false (sym h ∙ ap is_lt (tied_itself nat_list_cmp_total k))

same_less : (c : Bytes) (k l : Kept) → is_lt (slice_cmp nat_cmp (key c k) (key c l)) ≡ true → (p q : Path) → IsOf k p → IsOf l q → path_cmp (c ∷ p) (c ∷ q) ≡ Less
same_less c (file x) (file y) lt p q h j = absurd (not_less (c ++ []) lt)
same_less c (folder f) (folder g) lt p q h j = absurd (not_less (c ++ 47 ∷ []) lt)
same_less c (folder f) (file y) lt p q h j = absurd (false≢true (sym (ap is_lt (cmp_front c (47 ∷ []) [])) ∙ lt))
same_less c (file x) (folder g) lt [] [] h j = absurd (false≢true j)
same_less c (file x) (folder g) lt (d ∷ p) q h j = absurd (cc h)
same_less c (file x) (folder g) lt [] (e ∷ q) h j = ap (λ z. byte_cmp z (c ++ 47 ∷ path_text (e ∷ q))) (sym (append-nil c)) ∙ cmp_front c [] (47 ∷ path_text (e ∷ q))

path_less : (c d : Bytes) (k l : Kept) → is_component c ≡ true → is_component d ≡ true → is_lt (slice_cmp nat_cmp (key c k) (key d l)) ≡ true → (p q : Path) → IsOf k p → IsOf l q → path_cmp (c ∷ p) (d ∷ q) ≡ Less
path_less c d k l hc hd lt p q h j = elim (cases_bytes c d) [
  | inl s ↦ subst (λ (b : Bytes). path_cmp (c ∷ p) (b ∷ q) ≡ Less) s (same_less c k l (subst (λ (b : Bytes). is_lt (slice_cmp nat_cmp (key c k) (key b l)) ≡ true) (sym s) lt) p q h j)
  | inr n ↦ cmp_other c d p q hc hd (differ_from c d n) ∙ (λ i. byte_cmp (first_is c k p h i) (first_is d l q j i)) ∙ less_is (slice_cmp nat_cmp (key c k) (key d l)) lt
]

-- ---- of all files below

module _ (c : Bytes) (k : Kept) (hc : is_component c ≡ true) where
  one_before : (d : Bytes) (l : Kept) → is_component d ≡ true → is_lt (slice_cmp nat_cmp (key c k) (key d l)) ≡ true → (p : Path) → IsOf k p → (g : FileMap Bytes) → AreOf l g → AllByRecursion (λ y. path_cmp (c ∷ p) y.0 ≡ Less) (placed d g)
  one_before d l hd lt p h [] j = tt
  one_before d l hd lt p h (y ∷ g) j = (path_less c d k l hc hd lt p y.0 h j.0, one_before d l hd lt p h g j.1)

  both_before : (p : Path) (f g : FileMap Bytes) → AllByRecursion (λ y. path_cmp (c ∷ p) y.0 ≡ Less) f → AllByRecursion (λ y. path_cmp (c ∷ p) y.0 ≡ Less) g → AllByRecursion (λ y. path_cmp (c ∷ p) y.0 ≡ Less) (f ++ g)
  both_before p [] g a b = b
  both_before p (y ∷ f) g a b = (a.0, both_before p f g a.1 b)

  before_files : (p : Path) → IsOf k p → (es : Level) → ComeBehind (key c k) es → IsLevel es → AllByRecursion (λ y. path_cmp (c ∷ p) y.0 ≡ Less) (files es)
  before_files p h [] b l = tt
  before_files p h (e ∷ es) b l = both_before p (placed e.0 (kept_map e.1)) (files es) (one_before e.0 e.1 l.0 b.0 p h (kept_map e.1) (kept_paths e.1 l.1)) (before_files p h es b.1 l.3)

  all_before : (f : FileMap Bytes) → AreOf k f → (es : Level) → ComeBehind (key c k) es → IsLevel es → AreBefore (placed c f) (files es)
  all_before [] h es b l = tt
  all_before (x ∷ f) h es b l = (before_files x.0 h.0 es b l, all_before f h.1 es b l)

-- the files at or below an entry come before those of a directory's entries behind it
pub entry_before : (e : Bytes × Kept) (es : Level) → IsTrue (is_component e.0) → IsKept e.1 → IsLevel es → ComeBehind (key e.0 e.1) es → AreBefore (placed e.0 (kept_map e.1)) (files es)
entry_before e es c h l b = all_before e.0 e.1 c (kept_map e.1) (kept_paths e.1 h) es b l

-- turned round
turned_one : (x : Path × Leaf Bytes) (ys : FileMap Bytes) → AllByRecursion (λ y. by_path x y ≡ Less) ys → AllByRecursion (λ y. by_path y x ≡ Greater) ys
turned_one x [] h = tt
turned_one x (y ∷ ys) h = (path_order.antisymm y.0 x.0 ∙ ap ordering_reverse h.0, turned_one x ys h.1)

pub turned : (xs ys : FileMap Bytes) → AreBefore xs ys → AreBehind ys xs
turned [] ys h = tt
turned (x ∷ xs) ys h = (turned_one x ys h.0, turned xs ys h.1)

pub none_behind : (xs : FileMap Bytes) → AreBefore xs []
none_behind [] = tt
none_behind (x ∷ xs) = (tt, none_behind xs)
