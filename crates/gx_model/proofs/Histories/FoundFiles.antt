-- What is found at a path of a file map, and after an edit of it.
use Rattle.std.proofs.Common.{◌≡◌, Bool, true, false, cond, refl, sym, ap, subst, ◌∙◌, List, [], ◌∷◌, ◌++◌, length, drop, Option, None, Some}
use Rattle.std.specs.Option.{option_or}
use Rattle.std.specs.Prelude.{T, ◌&&◌, is_some}
use Rattle.std.specs.List.{list_all, filter}
use Rattle.std.specs.Bool.{passes}
use Rattle.std.specs.declared.cmp.Ordering.TheVariants.{Less, Equal, Greater}
use Rattle.std.specs.Ordering.{is_eq}
use Rattle.std.specs.Cmp.{tied_itself}
use Rattle.std.specs.Cmp.Lexicographic.{texts_ties}
use Rattle.std.specs.FinMap.Entries.{put, by_order}
use Rattle.gx_model.specs.Texts.{same_bytes}
use Rattle.gx_model.specs.Texts.Paths.{Path, begins, is_component, is_file_path, parts_of, path_cmp, path_text, same_path}
use Rattle.gx_model.specs.Histories.Files.{are_file_paths, file_at, under}
use Rattle.gx_model.specs.Histories.Edits.{moved, with_all}
use Rattle.gx_model.proofs.Texts.PathTests.{begins_append, both, first, is_same, is_true, path_is, same_is, second}
use Rattle.gx_model.proofs.Texts.PathTexts.{parts_joined}
use Rattle.gx_model.proofs.Histories.FileMapEdits.{all_put, path_order}

-- ---- a path is told by its text

-- components with no slash, joined by slashes, are told by their text
one_path : (p q : Path) → T (list_all is_component p) → T (list_all is_component q) → path_text p ≡ path_text q → p ≡ q
one_path p q h g e = sym (parts_joined p (is_true _ h)) ∙ ap parts_of e ∙ parts_joined q (is_true _ g)

of_components : (p : Path) → T (is_file_path p) → T (list_all is_component p)
of_components [] h = absurd h
of_components (c ∷ p) h = first _ _ h

-- two paths of files that tie are one
pub tied_paths : (p q : Path) → T (is_file_path p) → T (is_file_path q) → path_cmp p q ≡ Equal → p ≡ q
tied_paths p q h g e =
    one_path p q (of_components p h) (of_components q g)
    (same_is (path_text p) (path_text q) (passes _ (texts_ties (path_text p) (path_text q) ∙ ap is_eq e)))

-- ---- tests

shadowed : {A : Type 0} (b : Bool) (x y z : A) → cond b x z ≡ cond b x (cond b y z)
shadowed true x y z = refl
shadowed false x y z = refl

swapped : {A : Type 0} (a b : Bool) (x y z : A) → (T a → T b → ⊥) → cond a x (cond b y z) ≡ cond b y (cond a x z)
swapped true true x y z apart = absurd (apart tt tt)
swapped true false x y z apart = refl
swapped false b x y z apart = refl

-- or else nothing adds nothing
pub or_nothing : {X : Type 0} (o : Option X) → option_or o None ≡ o
or_nothing None = refl
or_nothing (Some x) = refl

-- ---- paths that are moved

same_after : (d r x : Path) → same_path (d ++ r) (d ++ x) ≡ same_path r x
same_after [] r x = refl
same_after (c ∷ d) r x = ap (λ b. b && same_path (d ++ r) (d ++ x)) (is_true _ (is_same c c refl)) ∙ same_after d r x

same_dropped : (s r p : Path) → T (begins s p) → same_path r (drop (length s) p) ≡ same_path (s ++ r) p
same_dropped [] r p h = refl
same_dropped (c ∷ s) r [] h = absurd h
same_dropped (c ∷ s) r (d ∷ p) h = same_dropped s r p (second _ _ h) ∙ ap (λ b. b && same_path (s ++ r) p) (sym (is_true _ (first (same_bytes c d) _ h)))

other_line : (s r p : Path) → begins s p ≡ false → same_path (s ++ r) p ≡ false
other_line s r p n =
    elim (same_path (s ++ r) p) as (λ b. same_path (s ++ r) p ≡ b → b ≡ false) [
      | true ↦ λ k. sym (is_true _ (subst (λ (q : Path). T (begins s q)) (path_is (s ++ r) p (passes _ k)) (begins_append s r))) ∙ n
      | false ↦ λ k. refl
    ] refl

module _ {X : Type 0} where
  -- a test that the paths pass is passed by a path of a file
  pub test_at : (t : Path → Bool) (es : List (Path × X)) (q : Path) → T (list_all (λ e. t e.0) es) → T (is_some (file_at es q)) → T (t q)
  test_at t [] q h k = absurd k
  test_at t (e ∷ es) q h k =
      elim (same_path q e.0) as (λ b. same_path q e.0 ≡ b → T (is_some (cond b (Some e.1) (file_at es q))) → T (t q)) [
        | true ↦ λ i j. subst (λ p. T (t p)) (sym (path_is q e.0 (passes _ i))) (first _ _ h)
        | false ↦ λ i j. test_at t es q (second (t e.0) _ h) j
      ] refl k

  -- nothing is found at a path that fails a test which all paths pass
  pub none_where : (t : Path → Bool) (es : List (Path × X)) (q : Path) → T (list_all (λ e. t e.0) es) → (T (t q) → ⊥) → file_at es q ≡ None
  none_where t es q h n = by (file_at es q) refl
    where
      by : (o : Option X) → file_at es q ≡ o → o ≡ None
      by None e = refl
      by (Some x) e = absurd (n (test_at t es q h (subst (λ (o : Option X). T (is_some o)) (sym e) tt)))

  -- ---- after a filter, and after a put

  -- after a filter of paths, what passes is found as before
  pub at_filter : (t : Path → Bool) (es : List (Path × X)) (q : Path) → file_at (filter (λ e. t e.0) es) q ≡ cond (t q) (file_at es q) None
  at_filter t [] q = elim (t q) as (λ b. ◌≡◌ {A = Option X} None (cond b None None)) [ true ↦ refl | false ↦ refl ]
  at_filter t (e ∷ es) q =
      let left = filter (λ f. t f.0) es in
      elim (same_path q e.0) as (λ b. same_path q e.0 ≡ b → file_at (cond (t e.0) (e ∷ left) left) q ≡ cond (t q) (cond b (Some e.1) (file_at es q)) None) [
        | true ↦ λ k.
            ap (λ (p : Path). file_at (cond (t p) (e ∷ left) left) q) (sym (path_is q e.0 (passes _ k)))
            ∙ elim (t q) as (λ b. file_at left q ≡ cond b (file_at es q) None → file_at (cond b (e ∷ left) left) q ≡ cond b (Some e.1) None) [
              | true ↦ λ _. ap (λ b. cond b (Some e.1) (file_at left q)) k
              | false ↦ λ r. r
            ] (at_filter t es q)
        | false ↦ λ k.
            elim (t e.0) as (λ b. file_at (cond b (e ∷ left) left) q ≡ file_at left q) [ true ↦ ap (λ b. cond b (Some e.1) (file_at left q)) k | false ↦ refl ]
            ∙ at_filter t es q
      ] refl

  -- after a put, the new leaf is found at its path
  pub at_put : (k : Path) (v : X) (es : List (Path × X)) (q : Path) → T (is_file_path k) → T (are_file_paths es) → file_at (put path_cmp k v es) q ≡ cond (same_path q k) (Some v) (file_at es q)
  at_put k v [] q h g = refl
  at_put k v (e ∷ es) q h g =
      elim (path_cmp k e.0) as (λ r. path_cmp k e.0 ≡ r → file_at (by_order r ((k, v) ∷ e ∷ es) ((e.0, v) ∷ es) (e ∷ put path_cmp k v es)) q ≡ cond (same_path q k) (Some v) (file_at (e ∷ es) q)) [
        | Less ↦ λ c. refl
        | Equal ↦ λ c.
            let same : e.0 ≡ k = sym (tied_paths k e.0 h (first _ _ g) c) in
            ap (λ (p : Path). cond (same_path q p) (Some v) (file_at es q)) same
            ∙ shadowed (same_path q k) (Some v) (Some e.1) (file_at es q)
            ∙ ap (λ (p : Path). cond (same_path q k) (Some v) (cond (same_path q p) (Some e.1) (file_at es q))) (sym same)
        | Greater ↦ λ c.
            ap (cond (same_path q e.0) (Some e.1)) (at_put k v es q h (second (is_file_path e.0) (are_file_paths es) g))
            ∙ swapped (same_path q e.0) (same_path q k) (Some e.1) (Some v) (file_at es q) (λ a b.
            let same : k ≡ e.0 = sym (path_is q k b) ∙ path_is q e.0 a in
            let tied = sym c ∙ ap (λ (p : Path). path_cmp p e.0) same ∙ tied_itself path_order e.0 in cc)
      ] refl

  all_with : (t : Path → Bool) (new es : List (Path × X)) → T (list_all (λ e. t e.0) new) → T (list_all (λ e. t e.0) es) → T (list_all (λ e. t e.0) (with_all new es))
  all_with t [] es h g = g
  all_with t (e ∷ new) es h g = all_put t e.0 e.1 (with_all new es) (first _ _ h) (all_with t new es (second _ _ h) g)

  -- after many puts, a new leaf is found before an old one
  pub at_with_all : (new es : List (Path × X)) (q : Path) → T (are_file_paths new) → T (are_file_paths es) → file_at (with_all new es) q ≡ option_or (file_at new q) (file_at es q)
  at_with_all [] es q h g = refl
  at_with_all (e ∷ new) es q h g =
      let rest = second (is_file_path e.0) (are_file_paths new) h in
      at_put e.0 e.1 (with_all new es) q (first _ _ h) (all_with is_file_path new es rest g)
      ∙ elim (same_path q e.0) as (λ b. cond b (Some e.1) (file_at (with_all new es) q) ≡ option_or (cond b (Some e.1) (file_at new q)) (file_at es q)) [ true ↦ refl | false ↦ at_with_all new es q rest g ]

  -- ---- after a move

  -- below the new place is found what was below the old one
  pub at_moved : (s d : Path) (es : List (Path × X)) (r : Path) → file_at (moved s d (under s es)) (d ++ r) ≡ file_at es (s ++ r)
  at_moved s d [] r = refl
  at_moved s d (e ∷ es) r =
      elim (begins s e.0) as (λ b. begins s e.0 ≡ b → file_at (moved s d (cond b (e ∷ under s es) (under s es))) (d ++ r) ≡ cond (same_path (s ++ r) e.0) (Some e.1) (file_at es (s ++ r))) [
        | true ↦ λ k. λ i. cond ((same_after d r (drop (length s) e.0) ∙ same_dropped s r e.0 (passes _ k)) i) (Some e.1) (at_moved s d es r i)
        | false ↦ λ k. at_moved s d es r ∙ ap (λ b. cond b (Some e.1) (file_at es (s ++ r))) (sym (other_line s r e.0 k))
      ] refl

  all_moved : (s d : Path) (es : List (Path × X)) → T (list_all (λ e. begins d e.0) (moved s d es))
  all_moved s d [] = tt
  all_moved s d (e ∷ es) = both _ _ (begins_append d (drop (length s) e.0)) (all_moved s d es)

  -- elsewhere nothing that was moved is found
  pub none_moved : (s d : Path) (es : List (Path × X)) (q : Path) → (T (begins d q) → ⊥) → file_at (moved s d es) q ≡ None
  none_moved s d es q n = none_where (begins d) (moved s d es) q (all_moved s d es) n
