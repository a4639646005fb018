-- The byte order of whole paths, by first components: that of a tree's entries.
use Rattle.std.specs.Prelude.{◌==◌}
use Rattle.std.proofs.Common.{◌≡◌, ◌≢◌, ℕ, true, false, [], ◌∷◌, ◌++◌, inl, inr, refl, sym, ap, ◌∙◌, append-nil}
use Rattle.std.specs.List.{list_any}
use Rattle.std.specs.declared.cmp.Ordering.{Ordering}
use Rattle.std.specs.declared.cmp.Ordering.TheVariants.{Less, Equal, Greater}
use Rattle.std.specs.Ordering.{nat_cmp, ordering_then}
use Rattle.std.specs.Cmp.{IsTotalOrder, tied_itself, nat_cmp_total}
use Rattle.std.specs.Cmp.Lexicographic.{on_texts}
use Rattle.std.specs.FinMap.{nat_cmp-IsAntisymmetric, slice_cmp-IsAntisymmetric}
use Rattle.std.proofs.lemmas.Bool.{and_parts, or_parts, not-true, eqb-false, false≢true}
use Rattle.gx_model.specs.Texts.{Bytes, byte_cmp}
use Rattle.gx_model.specs.Texts.Paths.{Path, is_component, path_cmp, path_text}
use Rattle.gx_tree.specs.Nodes.{is_inner_path}
use Rattle.gx_tree.proofs.Texts.{cases_bytes, differ_from}

pub path_order : IsTotalOrder path_cmp
path_order = on_texts path_text

pub texts_equal : (a b : Bytes) → byte_cmp a b ≡ Equal → a ≡ b
texts_equal a b e = slice_cmp-IsAntisymmetric nat_cmp-IsAntisymmetric a b e

pub cmp_front : (c a b : Bytes) → byte_cmp (c ++ a) (c ++ b) ≡ byte_cmp a b
cmp_front [] a b = refl
cmp_front (x ∷ c) a b = ap (λ o. ordering_then o (byte_cmp (c ++ a) (c ++ b))) (tied_itself nat_cmp_total x) ∙ cmp_front c a b

-- ---- components have no slash

abbrev pub IsFree : Bytes → Type 0
IsFree c = list_any (λ b. b == 47) c ≡ false

pub free_component : (c : Bytes) → is_component c ≡ true → IsFree c
free_component c h = not-true _ (and_parts _ _ (and_parts _ _ h).0).1

-- both empty, or both from a slash on
abbrev AreTails : Bytes → Bytes → Type 0
AreTails [] [] = Unit {0}
AreTails (x ∷ t) (y ∷ u) = (x ≡ 47) × (y ≡ 47)
AreTails _ _ = ⊥

then_strict : (r a b : Ordering) → r ≢ Equal → ordering_then r a ≡ ordering_then r b
then_strict Less a b h = refl
then_strict Equal a b h = absurd (h refl)
then_strict Greater a b h = refl

no_slash : (y : ℕ) (d : Bytes) → IsFree (y ∷ d) → y ≢ 47
no_slash y d h = eqb-false y 47 (or_parts _ _ h).0

apart_cmp : (x y : ℕ) → x ≢ y → nat_cmp x y ≢ Equal
apart_cmp x y n e = n (nat_cmp-IsAntisymmetric x y e)

-- of two different components, what follows the first byte after them has no say
cut : (c d t u t' u' : Bytes) → IsFree c → IsFree d → c ≢ d → AreTails t t' → AreTails u u' → byte_cmp (c ++ t) (d ++ u) ≡ byte_cmp (c ++ t') (d ++ u')
cut [] [] t u t' u' f g n p q = absurd (n refl)
cut [] (y ∷ d) [] u [] u' f g n p q = refl
cut [] (y ∷ d) [] u (x' ∷ t') u' f g n p q = absurd p
cut [] (y ∷ d) (x ∷ t) u [] u' f g n p q = absurd p
cut [] (y ∷ d) (x ∷ t) u (x' ∷ t') u' f g n p q =
    let s : x ≢ y = λ e. no_slash y d g (sym e ∙ p.0) in
    then_strict (nat_cmp x y) _ (byte_cmp t' (d ++ u')) (apart_cmp x y s) ∙ ap (λ z. ordering_then (nat_cmp z y) (byte_cmp t' (d ++ u'))) (p.0 ∙ sym p.1)
cut (x ∷ c) [] t [] t' [] f g n p q = refl
cut (x ∷ c) [] t [] t' (y' ∷ u') f g n p q = absurd q
cut (x ∷ c) [] t (y ∷ u) t' [] f g n p q = absurd q
cut (x ∷ c) [] t (y ∷ u) t' (y' ∷ u') f g n p q =
    let s : x ≢ y = λ e. no_slash x c f (e ∙ q.0) in
    then_strict (nat_cmp x y) _ (byte_cmp (c ++ t') u') (apart_cmp x y s) ∙ ap (λ z. ordering_then (nat_cmp x z) (byte_cmp (c ++ t') u')) (q.0 ∙ sym q.1)
cut (x ∷ c) (y ∷ d) t u t' u' f g n p q =
    elim (nat_cmp x y) as (λ r. nat_cmp x y ≡ r → ordering_then r (byte_cmp (c ++ t) (d ++ u)) ≡ ordering_then r (byte_cmp (c ++ t') (d ++ u'))) [
      | Less ↦ λ e. refl
      | Equal ↦ λ e. cut c d t u t' u' (or_parts _ _ f).1 (or_parts _ _ g).1 (λ k. n (λ i. nat_cmp-IsAntisymmetric x y e i ∷ k i)) p q
      | Greater ↦ λ e. refl
    ] refl

-- ---- a path's first component

-- what follows it: nothing, or a slash and the rest
abbrev after_first : Path → Bytes
after_first [] = []
after_first (d ∷ p) = 47 ∷ path_text (d ∷ p)

abbrev slash_if_more : Path → Bytes
slash_if_more [] = []
slash_if_more (d ∷ p) = 47 ∷ []

-- the component, with a slash where something follows
abbrev pub first_text : Bytes → Path → Bytes
first_text c [] = c
first_text c (d ∷ p) = c ++ 47 ∷ []

text_is : (c : Bytes) (p : Path) → path_text (c ∷ p) ≡ c ++ after_first p
text_is c [] = sym (append-nil c)
text_is c (d ∷ p) = refl

first_text_is : (c : Bytes) (p : Path) → first_text c p ≡ c ++ slash_if_more p
first_text_is c [] = sym (append-nil c)
first_text_is c (d ∷ p) = refl

alike : (p : Path) → AreTails (after_first p) (slash_if_more p)
alike [] = tt
alike (d ∷ p) = (refl, refl)

-- paths with different first components are ordered by these
pub cmp_other : (c d : Bytes) (p q : Path) → is_component c ≡ true → is_component d ≡ true → c ≢ d → path_cmp (c ∷ p) (d ∷ q) ≡ byte_cmp (first_text c p) (first_text d q)
cmp_other c d p q f g n =
    ap (λ z. byte_cmp z (path_text (d ∷ q))) (text_is c p) ∙ ap (byte_cmp (c ++ after_first p)) (text_is d q)
    ∙ cut c d (after_first p) (after_first q) (slash_if_more p) (slash_if_more q) (free_component c f) (free_component d g) n (alike p) (alike q)
    ∙ sym (ap (λ z. byte_cmp z (first_text d q)) (first_text_is c p) ∙ ap (byte_cmp (c ++ slash_if_more p)) (first_text_is d q))

-- those with one first component, by what follows
pub cmp_below : (c d e : Bytes) (p q : Path) → path_cmp (c ∷ d ∷ p) (c ∷ e ∷ q) ≡ path_cmp (d ∷ p) (e ∷ q)
cmp_below c d e p q = cmp_front c (47 ∷ path_text (d ∷ p)) (47 ∷ path_text (e ∷ q))

-- ---- paths whose texts are equal are equal

no_slash_at_end : (a b : Bytes) → IsFree a → a ≡ b ++ 47 ∷ [] → ⊥
no_slash_at_end [] [] h s = cc
no_slash_at_end [] (y ∷ b) h s = cc
no_slash_at_end (x ∷ a) [] h s = let e : x ≡ 47 = cc in no_slash x a h e
no_slash_at_end (x ∷ a) (y ∷ b) h s = let e : a ≡ b ++ 47 ∷ [] = cc in no_slash_at_end a b (or_parts _ _ h).1 e

same_before_slash : (a b : Bytes) → IsFree a → IsFree b → a ++ 47 ∷ [] ≡ b ++ 47 ∷ [] → a ≡ b
same_before_slash [] [] h k s = refl
same_before_slash [] (y ∷ b) h k s = let e : y ≡ 47 = cc in absurd (no_slash y b k e)
same_before_slash (x ∷ a) [] h k s = let e : x ≡ 47 = cc in absurd (no_slash x a h e)
same_before_slash (x ∷ a) (y ∷ b) h k s =
    let e : a ++ 47 ∷ [] ≡ b ++ 47 ∷ [] = cc in
    let f : x ≡ y = cc in
    let r = same_before_slash a b (or_parts _ _ h).1 (or_parts _ _ k).1 e in
    λ i. f i ∷ r i

pub first_texts_differ : (c d : Bytes) (p q : Path) → is_component c ≡ true → is_component d ≡ true → c ≢ d → first_text c p ≢ first_text d q
first_texts_differ c d [] [] f g n s = n s
first_texts_differ c d [] (y ∷ q) f g n s = no_slash_at_end c d (free_component c f) s
first_texts_differ c d (x ∷ p) [] f g n s = no_slash_at_end d c (free_component d g) (sym s)
first_texts_differ c d (x ∷ p) (y ∷ q) f g n s = n (same_before_slash c d (free_component c f) (free_component d g) s)

longer : (c : Bytes) (x : ℕ) (t : Bytes) → byte_cmp c (c ++ x ∷ t) ≡ Less
longer c x t = ap (λ z. byte_cmp z (c ++ x ∷ t)) (sym (append-nil c)) ∙ cmp_front c [] (x ∷ t)

shorter : (c : Bytes) (x : ℕ) (t : Bytes) → byte_cmp (c ++ x ∷ t) c ≡ Greater
shorter c x t = ap (byte_cmp (c ++ x ∷ t)) (sym (append-nil c)) ∙ cmp_front c (x ∷ t) []

-- with one first component, by what follows
equal_below : (c d : Bytes) (p q : Path) → c ≡ d → (is_inner_path p ≡ true → is_inner_path q ≡ true → path_cmp p q ≡ Equal → p ≡ q) → is_inner_path (c ∷ p) ≡ true → is_inner_path (d ∷ q) ≡ true → path_cmp (d ∷ p) (d ∷ q) ≡ Equal → ◌≡◌ {A = Path} (c ∷ p) (d ∷ q)
equal_below c d [] [] s r f g e = λ i. s i ∷ []
equal_below c d [] (y ∷ q) s r f g e = let k = sym (longer d 47 (path_text (y ∷ q))) ∙ e in cc
equal_below c d (x ∷ p) [] s r f g e = let k = sym (shorter d 47 (path_text (x ∷ p))) ∙ e in cc
equal_below c d (x ∷ p) (y ∷ q) s r f g e =
    let t = r (and_parts _ _ f).1 (and_parts _ _ g).1 (sym (cmp_below d x y p q) ∙ e) in
    λ i. s i ∷ t i

pub paths_equal : (p q : Path) → is_inner_path p ≡ true → is_inner_path q ≡ true → path_cmp p q ≡ Equal → p ≡ q
paths_equal [] q f g e = absurd (false≢true f)
paths_equal (c ∷ p) [] f g e = absurd (false≢true g)
paths_equal (c ∷ p) (d ∷ q) f g e = elim (cases_bytes c d) [
  | inl s ↦ equal_below c d p q s (paths_equal p q) f g (ap (λ z. path_cmp (z ∷ p) (d ∷ q)) (sym s) ∙ e)
  | inr n ↦
      let m = differ_from c d n in
      let a = (and_parts _ _ f).0 in
      let b = (and_parts _ _ g).0 in
      absurd (first_texts_differ c d p q a b m (texts_equal (first_text c p) (first_text d q) (sym (cmp_other c d p q a b m) ∙ e)))
]
