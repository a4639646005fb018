-- A ref that a commit goes out on is also the ref that its own commit goes out on.
use Rattle.std.proofs.Common.{◌≡◌, Bool, true, false, cond, ◌&&◌, Some, List, [], ◌∷◌, ◌++◌, map, refl, sym, ap, subst, ◌∙◌}
use Rattle.std.specs.Bool.{passes}
use Rattle.std.specs.FinMap.Entries.{find}
use Rattle.std.specs.List.{filter}
use Rattle.std.specs.Ordering.{eq_by_cmp}
use Rattle.std.specs.Prelude.{T}
use Rattle.gx_model.specs.Texts.{Bytes, byte_cmp}
use Rattle.gx_model.specs.Histories.Values.{Commit}
use Rattle.gx_model.specs.Histories.{Target}
use Rattle.gx_model.specs.Revisions.Ranges.{reaches}
use Rattle.gx_model.specs.Replay.{peeled_at}
use Rattle.gx_model.specs.Export.{is_reached}
use Rattle.gx_model.specs.Changes.{commit_ref, first_or_carrier, is_branch}
use Rattle.gx_model.proofs.Changes.ChangeReplays.{some_reach}
use Rattle.gx_model.proofs.Texts.PathTests.{both, first, second}
use Rattle.gx_model.proofs.Export.PublishedRefs.{Refs}
use Rattle.gx_model.proofs.Histories.ReachedCommits as reached
use Rattle.gx_model.proofs.Texts.TextMaps.{same_text, tied, tied_with_itself}

-- the names of the refs that pass
abbrev names : (Bytes × Target → Bool) → Refs → List Bytes
names P refs = map (λ r. r.0) (filter P refs)

-- a branch that passes
abbrev branches : (Bytes × Target → Bool) → Bytes × Target → Bool
branches P r = P r && is_branch r.0

only_branches : (P : Bytes × Target → Bool) (refs : Refs) → filter is_branch (names P refs) ≡ names (branches P) refs
only_branches P [] = refl
only_branches P (r ∷ refs) = by (P r) (is_branch r.0) refl (only_branches P refs) where
  by : (a b : Bool) → is_branch r.0 ≡ b → filter is_branch (names P refs) ≡ names (branches P) refs → filter is_branch (map (λ r. r.0) (cond a (r ∷ filter P refs) (filter P refs))) ≡ map (λ r. r.0) (cond (a && is_branch r.0) (r ∷ filter (branches P) refs) (filter (branches P) refs))
  by false b e again = again
  by true true e again =
      ap (λ t. cond t (r.0 ∷ filter is_branch (names P refs)) (filter is_branch (names P refs))) e ∙ ap (λ ns. r.0 ∷ ns) again
      ∙ ap (λ t. map (λ r. r.0) (cond t (r ∷ filter (branches P) refs) (filter (branches P) refs))) (sym e)
  by true false e again =
      ap (λ t. cond t (r.0 ∷ filter is_branch (names P refs)) (filter is_branch (names P refs))) e ∙ again
      ∙ ap (λ t. map (λ r. r.0) (cond t (r ∷ filter (branches P) refs) (filter (branches P) refs))) (sym e)

first_is_branch : (P : Bytes × Target → Bool) (refs : Refs) (q : Bytes) (rest : List Bytes) → names (branches P) refs ≡ q ∷ rest → T (is_branch q)
first_is_branch P [] q rest e = absurd cc
first_is_branch P (r ∷ refs) q rest e = by (branches P r) refl e (first_is_branch P refs q rest) where
  by : (t : Bool) → branches P r ≡ t → map (λ r. r.0) (cond t (r ∷ filter (branches P) refs) (filter (branches P) refs)) ≡ q ∷ rest → (names (branches P) refs ≡ q ∷ rest → T (is_branch q)) → T (is_branch q)
  by true k e again = let same : r.0 ≡ q = cc in subst (λ n. T (is_branch n)) same (second (P r) _ (subst T (sym k) tt))
  by false k e again = again e

module _ (P Q : Bytes × Target → Bool) (weaker : (r : Bytes × Target) → T (Q r) → T (P r)) where
  none_same : (refs : Refs) → names P refs ≡ [] → names Q refs ≡ []
  none_same [] e = refl
  none_same (r ∷ refs) e = by (P r) (Q r) refl refl e (none_same refs) where
    by : (a b : Bool) → P r ≡ a → Q r ≡ b → map (λ r. r.0) (cond a (r ∷ filter P refs) (filter P refs)) ≡ [] → (names P refs ≡ [] → names Q refs ≡ []) → map (λ r. r.0) (cond b (r ∷ filter Q refs) (filter Q refs)) ≡ []
    by true b k l e again = absurd cc
    by false true k l e again = absurd (subst T k (weaker r (subst T (sym l) tt)))
    by false false k l e again = again e

  -- the first that passes the weaker test is the first that passes both
  first_same : (refs : Refs) (q : Bytes) (x : Target) → find byte_cmp q refs ≡ Some x → T (Q (q, x)) → (rest : List Bytes) → names P refs ≡ q ∷ rest → (more : List Bytes) × (names Q refs ≡ q ∷ more)
  first_same [] q x f h rest e = absurd cc
  first_same (r ∷ refs) q x f h rest e = by (P r) (Q r) refl refl e (eq_by_cmp byte_cmp q r.0) refl f (first_same refs q x) where
    this : eq_by_cmp byte_cmp q r.0 ≡ true → r.1 ≡ x → T (Q r)
    this t is =
        let same = same_text q r.0 (tied q r.0 t) in
        subst (λ y. T (Q (r.0, y))) (sym is) (subst (λ n. T (Q (n, x))) same h)

    by : (a b : Bool) → P r ≡ a → Q r ≡ b → map (λ r. r.0) (cond a (r ∷ filter P refs) (filter P refs)) ≡ q ∷ rest → (t : Bool) → eq_by_cmp byte_cmp q r.0 ≡ t → cond t (Some r.1) (find byte_cmp q refs) ≡ Some x
        → (find byte_cmp q refs ≡ Some x → T (Q (q, x)) → (rest : List Bytes) → names P refs ≡ q ∷ rest → (more : List Bytes) × (names Q refs ≡ q ∷ more))
        → (more : List Bytes) × (map (λ r. r.0) (cond b (r ∷ filter Q refs) (filter Q refs)) ≡ q ∷ more)
    by true true k l e t m f again = let same : r.0 ≡ q = cc in (names Q refs, ap (λ n. n ∷ names Q refs) same)
    by true false k l e t m f again =
        let same : r.0 ≡ q = cc in
        let tie = subst (λ n. eq_by_cmp byte_cmp n r.0 ≡ true) same (tied_with_itself r.0) in
        let is : r.1 ≡ x = let g = ap (λ b. cond b (Some r.1) (find byte_cmp q refs)) (sym tie ∙ m) ∙ f in cc in
        absurd (subst T l (this tie is))
    by false true k l e t m f again = absurd (subst T k (weaker r (subst T (sym l) tt)))
    by false false k l e true m f again = let is : r.1 ≡ x = cc in absurd (subst T l (this m is))
    by false false k l e false m f again = again f h rest e

reaches_trans : (a b c : Commit) → T (reaches a b) → T (reaches b c) → T (reaches a c)
reaches_trans a b c h k = reached.least (reaches a) (λ d p i j. reached.closed a d p i j) b c h k

-- the first branch, or else the first ref, or else the carrier
abbrev first_name : List Bytes → List Bytes → Bytes
first_name bs ns = first_or_carrier (bs ++ ns)

module _ (refs : Refs) (d : Commit) (x : Target) (h : T (reaches (peeled_at x) d)) where
  abbrev P : Bytes × Target → Bool
  P r = reaches (peeled_at r.1) d

  abbrev Q : Bytes × Target → Bool
  Q r = reaches (peeled_at r.1) (peeled_at x)

  weaker : (r : Bytes × Target) → T (Q r) → T (P r)
  weaker r k = reaches_trans (peeled_at r.1) (peeled_at x) d k h

  weaker_branch : (r : Bytes × Target) → T (branches Q r) → T (branches P r)
  weaker_branch r k = both (P r) (is_branch r.0) (weaker r (first (Q r) (is_branch r.0) k)) (second (Q r) (is_branch r.0) k)

  by_names : (bs ns : List Bytes) → names (branches P) refs ≡ bs → names P refs ≡ ns → is_reached refs d ≡ true → find byte_cmp (first_name bs ns) refs ≡ Some x → first_name (names (branches Q) refs) (names Q refs) ≡ first_name bs ns
  by_names [] [] i j k f = absurd (some_reach refs d (passes _ k) j)
  by_names [] (q ∷ rest) i j k f =
      let none = none_same (branches P) (branches Q) weaker_branch refs i in
      let one = first_same P Q weaker refs q x f (reached.itself (peeled_at x)) rest j in
      λ l. first_name (none l) (one.1 l)
  by_names (q ∷ rest) ns i j k f =
      let one = first_same (branches P) (branches Q) weaker_branch refs q x f (both (Q (q, x)) (is_branch q) (reached.itself (peeled_at x)) (first_is_branch P refs q rest i)) rest i in
      ap (λ bs. first_name bs (names Q refs)) one.1

  -- where a commit goes out on a ref that reaches it, the ref's own commit goes out on it, too
  pub own_ref : is_reached refs d ≡ true → find byte_cmp (commit_ref refs d) refs ≡ Some x → commit_ref refs (peeled_at x) ≡ commit_ref refs d
  own_ref k f =
      let p = only_branches P refs in
      ap (λ bs. first_name bs (names Q refs)) (only_branches Q refs)
      ∙ by_names (names (branches P) refs) (names P refs) refl refl k (subst (λ bs. find byte_cmp (first_name bs (names P refs)) refs ≡ Some x) p f)
      ∙ ap (λ bs. first_name bs (names P refs)) (sym p)
