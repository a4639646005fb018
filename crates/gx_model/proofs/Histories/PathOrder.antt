-- The byte order of whole paths is that of a tree's entries, and keeps the files of one first component together.
use Rattle.std.proofs.Common.{◌≡◌, ℕ, cond, refl, sym, ap, subst, ◌∙◌, [], ◌∷◌, ◌++◌, append-nil}
use Rattle.std.specs.Prelude.{T, not, nat_eq, ◌≢◌}
use Rattle.std.specs.List.{list_all}
use Rattle.std.specs.declared.cmp.Ordering.{Ordering}
use Rattle.std.specs.declared.cmp.Ordering.TheVariants.{Less, Equal, Greater}
use Rattle.std.specs.Ordering.{nat_cmp, ordering_then}
use Rattle.std.specs.FinMap.{nat_cmp-IsAntisymmetric}
use Rattle.gx_model.specs.Texts.{Bytes, byte_cmp}
use Rattle.gx_model.specs.Texts.Paths.{Path, path_text, path_cmp, is_component}
use Rattle.gx_model.specs.Objects.{Entry, entry_key}
use Rattle.gx_model.specs.Laws.ObjectLaws.{IsAtOrBelow}
use Rattle.gx_model.proofs.Texts.PathTests.{component_free, first, second, not_both}

then_strict : (r a b : Ordering) → r ≢ Equal → ordering_then r a ≡ ordering_then r b
then_strict Less a b h = refl
then_strict Equal a b h = absurd (h refl)
then_strict Greater a b h = refl

abbrev IsFree : Bytes → Type 0
IsFree c = T (list_all (λ b. not (nat_eq b 47)) c)

-- both empty, or both from a slash on
abbrev AreTails : Bytes → Bytes → Type 0
AreTails [] [] = Unit {0}
AreTails (x ∷ t) (y ∷ u) = (x ≡ 47) × (y ≡ 47)
AreTails _ _ = ⊥

no_slash : (y : ℕ) → T (not (nat_eq y 47)) → y ≢ 47
no_slash y h e = not_both (nat_eq y 47) h (subst (λ z. T (nat_eq z 47)) (sym e) tt)

apart_cmp : (x y : ℕ) → x ≢ y → nat_cmp x y ≢ Equal
apart_cmp x y n e = n (nat_cmp-IsAntisymmetric x y e)

-- of two different components with no slash, what follows the first byte after them has no say
cut : (c d t u t' u' : Bytes) → IsFree c → IsFree d → c ≢ d → AreTails t t' → AreTails u u' → byte_cmp (c ++ t) (d ++ u) ≡ byte_cmp (c ++ t') (d ++ u')
cut [] [] t u t' u' f g n p q = absurd (n refl)
cut [] (y ∷ d) [] u [] u' f g n p q = refl
cut [] (y ∷ d) [] u (x' ∷ t') u' f g n p q = absurd p
cut [] (y ∷ d) (x ∷ t) u [] u' f g n p q = absurd p
cut [] (y ∷ d) (x ∷ t) u (x' ∷ t') u' f g n p q =
    let s : x ≢ y = λ e. no_slash y (first _ _ g) (sym e ∙ p.0) in
    then_strict (nat_cmp x y) _ (byte_cmp t' (d ++ u')) (apart_cmp x y s) ∙ ap (λ z. ordering_then (nat_cmp z y) (byte_cmp t' (d ++ u'))) (p.0 ∙ sym p.1)
cut (x ∷ c) [] t [] t' [] f g n p q = refl
cut (x ∷ c) [] t [] t' (y' ∷ u') f g n p q = absurd q
cut (x ∷ c) [] t (y ∷ u) t' [] f g n p q = absurd q
cut (x ∷ c) [] t (y ∷ u) t' (y' ∷ u') f g n p q =
    let s : x ≢ y = λ e. no_slash x (first _ _ f) (e ∙ q.0) in
    then_strict (nat_cmp x y) _ (byte_cmp (c ++ t') u') (apart_cmp x y s) ∙ ap (λ z. ordering_then (nat_cmp x z) (byte_cmp (c ++ t') u')) (q.0 ∙ sym q.1)
cut (x ∷ c) (y ∷ d) t u t' u' f g n p q =
    elim (nat_cmp x y) as (λ r. nat_cmp x y ≡ r → ordering_then r (byte_cmp (c ++ t) (d ++ u)) ≡ ordering_then r (byte_cmp (c ++ t') (d ++ u'))) [
      | Less ↦ λ e. refl
      | Equal ↦ λ e. cut c d t u t' u' (second _ _ f) (second _ _ g) (λ k. n (λ i. nat_cmp-IsAntisymmetric x y e i ∷ k i)) p q
      | Greater ↦ λ e. refl
    ] refl

-- a first component, with a slash where it is a directory's
abbrev pub node_key : Path → Bytes
node_key [] = []
node_key (c ∷ []) = c
node_key (c ∷ d ∷ p) = c ++ 47 ∷ []

-- paths of different first components stand in the order of these, with a slash where they are directories'
pub by_node : (c d : Bytes) (p q : Path) → T (is_component c) → T (is_component d) → c ≢ d → path_cmp (c ∷ p) (d ∷ q) ≡ byte_cmp (node_key (c ∷ p)) (node_key (d ∷ q))
by_node c d [] [] f g n = refl
by_node c d [] (e ∷ q) f g n =
    ap (λ z. byte_cmp z (d ++ 47 ∷ path_text (e ∷ q))) (sym (append-nil c))
    ∙ cut c d [] (47 ∷ path_text (e ∷ q)) [] (47 ∷ []) (component_free c f).0 (component_free d g).0 n tt (refl, refl)
    ∙ ap (λ z. byte_cmp z (d ++ 47 ∷ [])) (append-nil c)
by_node c d (e ∷ p) [] f g n =
    ap (byte_cmp (c ++ 47 ∷ path_text (e ∷ p))) (sym (append-nil d))
    ∙ cut c d (47 ∷ path_text (e ∷ p)) [] (47 ∷ []) [] (component_free c f).0 (component_free d g).0 n (refl, refl) tt
    ∙ ap (byte_cmp (c ++ 47 ∷ [])) (append-nil d)
by_node c d (e ∷ p) (e' ∷ q) f g n =
    cut c d (47 ∷ path_text (e ∷ p)) (47 ∷ path_text (e' ∷ q)) (47 ∷ []) (47 ∷ []) (component_free c f).0 (component_free d g).0 n (refl, refl) (refl, refl)

-- an entry's key is that of each path at or below it
key_of_path : (e : Entry) (c : Bytes) (p : Path) → IsAtOrBelow e (c ∷ p) → node_key (c ∷ p) ≡ entry_key e
key_of_path e c [] h = h.0 ∙ ap (λ b. cond b (e.component ++ 47 ∷ []) e.component) (sym h.1)
key_of_path e c (d ∷ p) h = ap (λ x. x ++ 47 ∷ []) h.0 ∙ ap (λ b. cond b (e.component ++ 47 ∷ []) e.component) (sym h.1)

first_of_path : (e : Entry) (c : Bytes) (p : Path) → IsAtOrBelow e (c ∷ p) → c ≡ e.component
first_of_path e c [] h = h.0
first_of_path e c (d ∷ p) h = h.0

-- the byte order of paths at or below two entries is that of the entries
pub by_entry : (e f : Entry) (p q : Path) → T (is_component e.component) → T (is_component f.component) → e.component ≢ f.component → IsAtOrBelow e p → IsAtOrBelow f q → path_cmp p q ≡ byte_cmp (entry_key e) (entry_key f)
by_entry e f [] q h g n k l = absurd k
by_entry e f (c ∷ p) [] h g n k l = absurd l
by_entry e f (c ∷ p) (d ∷ q) h g n k l =
    let a = first_of_path e c p k in
    let b = first_of_path f d q l in
    by_node c d p q (subst (λ x. T (is_component x)) (sym a) h) (subst (λ x. T (is_component x)) (sym b) g) (λ same. n (sym a ∙ same ∙ b))
    ∙ (λ i. byte_cmp (key_of_path e c p k i) (key_of_path f d q l i))
