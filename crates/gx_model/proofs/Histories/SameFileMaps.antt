-- A file map is known by what it gives at each path; its paths rise, and none begins another.
use Rattle.std.proofs.Common.{◌≡◌, true, false, cond, refl, sym, ap, subst, ◌∙◌, List, [], ◌∷◌, ◌++◌, None, Some}
use Rattle.std.specs.Prelude.{T, not, is_some}
use Rattle.std.specs.List.{list_all}
use Rattle.std.specs.Bool.{passes}
use Rattle.std.specs.Ordering.{is_lt, ordering_reverse}
use Rattle.std.specs.declared.cmp.Ordering.TheVariants.{Less, Equal, Greater}
use Rattle.std.specs.Cmp.{tied_itself}
use Rattle.std.specs.FinMap.Entries.{below_all, is_sorted}
use Rattle.gx_model.specs.Texts.Paths.{Path, are_in_line, begins, path_cmp, same_path}
use Rattle.gx_model.specs.Histories.Files.{are_apart, file_at}
use Rattle.gx_model.proofs.Texts.PathTests.{both, first, is_true, not_both, or_comm, path_is, path_same, second}
use Rattle.gx_model.proofs.Histories.FileMapEdits.{Parts, path_order}
use Rattle.gx_model.proofs.Histories.PathRuns.{less_is, tail_parts}
use Rattle.gx_model.proofs.Histories.FoundFiles.{test_at, tied_paths}

module _ {X : Type 0} where
  below_chain : (p q : Path) (es : List (Path × X)) → path_cmp p q ≡ Less → T (below_all path_cmp q es) → T (below_all path_cmp p es)
  below_chain p q [] l h = tt
  below_chain p q (e ∷ es) l h =
      both _ _ (subst (λ r. T (is_lt r)) (sym (path_order.trans p q e.0 l (less_is _ (first _ _ h)))) tt)
      (below_chain p q es l (second (is_lt (path_cmp q e.0)) (below_all path_cmp q es) h))

  -- a path before all the others is none of them
  pub none_below : (p : Path) (es : List (Path × X)) → T (below_all path_cmp p es) → file_at es p ≡ None
  none_below p [] h = refl
  none_below p (e ∷ es) h =
      elim (same_path p e.0) as (λ b. same_path p e.0 ≡ b → cond b (Some e.1) (file_at es p) ≡ None) [
        | true ↦ λ k.
            let same : p ≡ e.0 = path_is p e.0 (passes _ k) in
            let tied = sym (less_is _ (first _ _ h)) ∙ ap (λ (q : Path). path_cmp q e.0) same ∙ tied_itself path_order e.0 in absurd cc
        | false ↦ λ k. none_below p es (second (is_lt (path_cmp p e.0)) (below_all path_cmp p es) h)
      ] refl

  at_first : (e : Path × X) (es : List (Path × X)) → file_at (e ∷ es) e.0 ≡ Some e.1
  at_first e es = ap (λ b. cond b (Some e.1) (file_at es e.0)) (is_true _ (path_same e.0))

  -- an entry before the first of another map is missed there
  missed : (e f : Path × X) (es fs : List (Path × X)) → path_cmp e.0 f.0 ≡ Less → T (below_all path_cmp f.0 fs) → file_at (e ∷ es) e.0 ≡ file_at (f ∷ fs) e.0 → ⊥
  missed e f es fs l h is =
      let none = none_below e.0 (f ∷ fs) (both _ _ (subst (λ r. T (is_lt r)) (sym l) tt) (below_chain e.0 f.0 fs l h)) in
      let some : Some e.1 ≡ None = sym (at_first e es) ∙ is ∙ none in cc

  tails : (p q : Path) (x y : X) (es fs : List (Path × X)) → T (below_all path_cmp p es) → T (below_all path_cmp p fs) → file_at ((p, x) ∷ es) q ≡ file_at ((p, y) ∷ fs) q → file_at es q ≡ file_at fs q
  tails p q x y es fs g h is =
      elim (same_path q p) as (λ b. same_path q p ≡ b → cond b (Some x) (file_at es q) ≡ cond b (Some y) (file_at fs q) → file_at es q ≡ file_at fs q) [
        | true ↦ λ k _.
            let same : q ≡ p = path_is q p (passes _ k) in
            let left : file_at es q ≡ None = ap (file_at es) same ∙ none_below p es g in
            let right : file_at fs q ≡ None = ap (file_at fs) same ∙ none_below p fs h in
            left ∙ sym right
        | false ↦ λ k e. e
      ] refl is

  -- file maps that give the same at every path are one
  pub same_maps : (es fs : List (Path × X)) → Parts es → Parts fs → ((q : Path) → file_at es q ≡ file_at fs q) → es ≡ fs
  same_maps [] [] g h is = refl
  same_maps [] (f ∷ fs) g h is = let e : None ≡ Some f.1 = is f.0 ∙ at_first f fs in absurd cc
  same_maps (e ∷ es) [] g h is = let k : Some e.1 ≡ None = sym (at_first e es) ∙ is e.0 in absurd cc
  same_maps (e ∷ es) (f ∷ fs) g h is =
      elim (path_cmp e.0 f.0) as (λ r. path_cmp e.0 f.0 ≡ r → e ∷ es ≡ f ∷ fs) [
        | Less ↦ λ l. absurd (missed e f es fs l (first (below_all path_cmp f.0 fs) _ h.sorted) (is e.0))
        | Greater ↦ λ l. absurd (missed f e fs es (path_order.antisymm f.0 e.0 ∙ ap ordering_reverse l) (first (below_all path_cmp e.0 es) _ g.sorted) (sym (is f.0)))
        | Equal ↦ λ l.
            let paths : e.0 ≡ f.0 = tied_paths e.0 f.0 (first _ _ g.paths) (first _ _ h.paths) l in
            let some : Some e.1 ≡ Some f.1 = sym (at_first e es) ∙ is e.0 ∙ ap (file_at (f ∷ fs)) paths ∙ at_first f fs in
            let values : e.1 ≡ f.1 = cc in
            let below_e = first (below_all path_cmp e.0 es) (is_sorted path_cmp es) g.sorted in
            let below_f = subst (λ (p : Path). T (below_all path_cmp p fs)) (sym paths) (first (below_all path_cmp f.0 fs) (is_sorted path_cmp fs) h.sorted) in
            let rest = same_maps es fs (tail_parts e es g) (tail_parts f fs h) (λ q. tails e.0 q e.1 f.1 es fs below_e below_f (is q ∙ ap (λ (p : Path). file_at ((p, f.1) ∷ fs) q) (sym paths))) in
            λ i. (paths i, values i) ∷ rest i
      ] refl

  -- each entry is before each later one
  pub rising : (before between after : List (Path × X)) (e f : Path × X) → T (is_sorted path_cmp (before ++ e ∷ between ++ f ∷ after)) → path_cmp e.0 f.0 ≡ Less
  rising [] between after e f h = less_is _ (later between (first (below_all path_cmp e.0 (between ++ f ∷ after)) _ h))
    where
      later : (between : List (Path × X)) → T (below_all path_cmp e.0 (between ++ f ∷ after)) → T (is_lt (path_cmp e.0 f.0))
      later [] k = first (is_lt (path_cmp e.0 f.0)) _ k
      later (g ∷ between) k = later between (second (is_lt (path_cmp e.0 g.0)) _ k)
  rising (b ∷ before) between after e f h = rising before between after e f (second (below_all path_cmp b.0 (before ++ e ∷ between ++ f ∷ after)) _ h)

  -- a file's path begins no other one's
  pub one_in_line : (es : List (Path × X)) (p q : Path) → T (are_apart es) → T (is_some (file_at es p)) → T (is_some (file_at es q)) → T (are_in_line p q) → p ≡ q
  one_in_line [] p q h k l i = absurd k
  one_in_line (e ∷ es) p q h k l i =
      elim (same_path p e.0) as (λ b. same_path p e.0 ≡ b → T (is_some (cond b (Some e.1) (file_at es p))) → p ≡ q) [
        | true ↦ λ a m. elim (same_path q e.0) as (λ b. same_path q e.0 ≡ b → T (is_some (cond b (Some e.1) (file_at es q))) → p ≡ q) [
          | true ↦ λ b n. path_is p e.0 (passes _ a) ∙ sym (path_is q e.0 (passes _ b))
          | false ↦ λ b n.
              absurd (not_both (are_in_line e.0 q) (test_at (λ r. not (are_in_line e.0 r)) es q (first _ _ h) n)
              (subst (λ (r : Path). T (are_in_line r q)) (path_is p e.0 (passes _ a)) i))
        ] refl l
        | false ↦ λ a m. elim (same_path q e.0) as (λ b. same_path q e.0 ≡ b → T (is_some (cond b (Some e.1) (file_at es q))) → p ≡ q) [
          | true ↦ λ b n.
              absurd (not_both (are_in_line e.0 p) (test_at (λ r. not (are_in_line e.0 r)) es p (first _ _ h) m)
              (subst (λ (r : Path). T (are_in_line r p)) (path_is q e.0 (passes _ b)) (turned p q i)))
          | false ↦ λ b n. one_in_line es p q (second (list_all (λ f. not (are_in_line e.0 f.0)) es) _ h) m n i
        ] refl l
      ] refl k
    where
      turned : (p q : Path) → T (are_in_line p q) → T (are_in_line q p)
      turned p q j = subst T (or_comm (begins p q) (begins q p)) j
