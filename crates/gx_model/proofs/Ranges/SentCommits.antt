-- Which commits and refs a range sends.
use Rattle.std.proofs.Common.{◌≡◌, Bool, true, false, cond, not, ◌&&◌, ◌||◌, List, [], ◌∷◌, ◌++◌, refl, sym, ap, subst, ◌∙◌, append-nil, append_assoc, inl, inr}
use Rattle.std.proofs.lemmas.List.{reverse-append, reverse-reverse}
use Rattle.std.proofs.lemmas.List.Elements.{filter-append}
use Rattle.std.specs.List.{filter, filter_map, list_all, list_any, AllByRecursion}
use Rattle.std.specs.Prelude.{reverse, T, ◌⊎◌}
use Rattle.gx_model.specs.Texts.{Bytes}
use Rattle.gx_model.specs.Histories.Values.{Commit, Value, blob_value, commit_of, commit_value, is_proper, parents_of, tag_value, tree_value}
use Rattle.gx_model.specs.Histories.{History, IsClosedAfter, IsIn, Target}
use Rattle.gx_model.specs.Revisions.Ranges.{Word, all_parents, alone, apart, between, listing, reaches, span, with_ancestors, without_ancestors, without_one}
use Rattle.gx_model.specs.Changes.{is_in_range}
use Rattle.gx_model.specs.Laws.ExportLaws.{IsOne}
use Rattle.gx_model.specs.Laws.HistoryLaws.{IsParent}
use Rattle.gx_model.specs.Laws.RangeLaws.{is_excluded}
use Rattle.gx_model.proofs.Histories.AddedValues.{in_left}
use Rattle.gx_model.proofs.Export.KeptCommits.{among}
use Rattle.gx_model.proofs.Texts.PathTests.{both, first, is_true, left_or, not_both, one_of, right_or, second}
use Rattle.gx_model.proofs.Export.PublishedRefs.{Refs}
use Rattle.gx_model.proofs.Histories.ReachedCommits as reached
use Rattle.gx_model.proofs.Export.ReachedValues.{a_commit, not_a_commit, one_filter, parents_all, parents_of_commit, passing}
use Rattle.gx_model.proofs.Ranges.ReceivedValues.{FollowsSent, IsKnown}

-- ---- words

-- whether a range word includes a commit
abbrev pub is_included : List Word → Commit → Bool
is_included words c = list_any (λ w. (span w).included c) words

-- whether a range lists a commit
abbrev pub is_sent : List Word → Commit → Bool
is_sent words c = is_included words c && not (is_excluded words c)

word_includes : (w : Word) (c p : Commit) → T ((span w).included c) → IsParent p (parents_of c) → T ((span w).included p)
word_includes (with_ancestors r) c p h i = reached.closed r c p h i
word_includes (without_ancestors r) c p h i = absurd h
word_includes (between a b) c p h i = reached.closed b c p h i
word_includes (apart a b) c p h i =
    one_of (reaches a c) (reaches b c) h (λ k. left_or (reaches a p) (reaches b p) (reached.closed a c p k i)) (λ k. right_or (reaches a p) (reaches b p) (reached.closed b c p k i))
word_includes (all_parents r) c p h i = reached.closed_some (parents_of r) c p h i
word_includes (alone r) c p h i = reached.closed r c p h i
word_includes (without_one r q) c p h i = reached.closed r c p h i

word_excludes : (w : Word) (c p : Commit) → T ((span w).excluded c) → IsParent p (parents_of c) → T ((span w).excluded p)
word_excludes (with_ancestors r) c p h i = absurd h
word_excludes (without_ancestors r) c p h i = reached.closed r c p h i
word_excludes (between a b) c p h i = reached.closed a c p h i
word_excludes (apart a b) c p h i =
    both (reaches a p) (reaches b p) (reached.closed a c p (first (reaches a c) (reaches b c) h) i) (reached.closed b c p (second (reaches a c) (reaches b c) h) i)
word_excludes (all_parents r) c p h i = absurd h
word_excludes (alone r) c p h i = reached.closed_some (parents_of r) c p h i
word_excludes (without_one r q) c p h i = reached.closed q c p h i

-- what is included includes its parents
included_parent : (words : List Word) (c p : Commit) → T (is_included words c) → IsParent p (parents_of c) → T (is_included words p)
included_parent [] c p h i = absurd h
included_parent (w ∷ words) c p h i =
    one_of ((span w).included c) (is_included words c) h (λ k. left_or ((span w).included p) _ (word_includes w c p k i)) (λ k. right_or ((span w).included p) _ (included_parent words c p k i))

excluded_parent : (words : List Word) (c p : Commit) → T (is_excluded words c) → IsParent p (parents_of c) → T (is_excluded words p)
excluded_parent [] c p h i = absurd h
excluded_parent (w ∷ words) c p h i =
    one_of ((span w).excluded c) (is_excluded words c) h (λ k. left_or ((span w).excluded p) _ (word_excludes w c p k i)) (λ k. right_or ((span w).excluded p) _ (excluded_parent words c p k i))

-- what an excluded commit reaches is excluded
pub excluded_below : (words : List Word) (c d : Commit) → T (is_excluded words c) → T (reaches c d) → T (is_excluded words d)
excluded_below words c d h k = reached.least (is_excluded words) (λ a p i j. excluded_parent words a p i j) c d h k

-- ---- the commits that are sent

filter_reverse : (P : Commit → Bool) (xs : List Commit) → filter P (reverse xs) ≡ reverse (filter P xs)
filter_reverse P [] = refl
filter_reverse P (x ∷ xs) =
    ap (filter P) (reverse-append (x ∷ []) xs) ∙ filter-append P (reverse xs) (x ∷ []) ∙ ap (λ ys. ys ++ filter P (x ∷ [])) (filter_reverse P xs)
    ∙ elim (P x) as (λ t. reverse (filter P xs) ++ cond t (x ∷ []) [] ≡ reverse (cond t (x ∷ filter P xs) (filter P xs))) [
      | true ↦ sym (reverse-append (x ∷ []) (filter P xs))
      | false ↦ append-nil (reverse (filter P xs))
    ]

-- the commits that are sent, in the order in which they were made
pub sent_are : (h : History) (words : List Word) → reverse (listing h words) ≡ passing (is_sent words) h.values
sent_are h words = ap reverse (filter_reverse (is_sent words) (filter_map commit_of h.values)) ∙ reverse-reverse (passing (is_sent words) h.values)

sent_test : (words : List Word) (c : Commit) → T (is_included words c) → is_excluded words c ≡ false → T (is_sent words c)
sent_test words c h e = both (is_included words c) _ h (subst (λ b. T (not b)) (sym e) tt)

pub not_excluded : (words : List Word) (c : Commit) → T (is_sent words c) → T (is_excluded words c) → ⊥
not_excluded words c h k = not_both (is_excluded words c) (second (is_included words c) _ h) k

module _ (words : List Word) (held : List Value) where
  abbrev Holds : List Value → Type 0
  Holds vs = (p : Commit) → IsIn vs (commit_value p) → is_excluded words p ≡ true → IsIn held (commit_value p)

  later : (before : List Value) (v : Value) (vs : List Value) → Holds (before ++ v ∷ vs) → Holds ((before ++ v ∷ []) ++ vs)
  later before v vs k q i e = k q (subst (λ (us : List Value). IsIn us (commit_value q)) (append_assoc before (v ∷ []) vs) i) e

  known : (before : List Value) (c : Commit) (vs : List Value) → Holds (before ++ commit_value c ∷ vs) → (q : Commit) → IsIn before (commit_value q) → T (is_included words q) → IsKnown held (passing (is_sent words) before) q
  known before c vs k q i t = by (is_excluded words q) refl where
    by : (b : Bool) → is_excluded words q ≡ b → IsKnown held (passing (is_sent words) before) q
    by true e = inr (k q (in_left before (commit_value c ∷ vs) (commit_value q) i) e)
    by false e = inl (one_filter (is_sent words) (filter_map commit_of before) q (among before q i) (sent_test words q t e))

  -- each is sent after its parents, or these are held
  pub follows_sent : (before vs : List Value) → IsClosedAfter before vs → T (list_all is_proper vs) → Holds (before ++ vs) → FollowsSent held (passing (is_sent words) before) (passing (is_sent words) vs)
  follows_sent before [] h p k = tt
  follows_sent before (blob_value x ∷ vs) h p k = subst (λ b. FollowsSent held b (passing (is_sent words) vs)) (not_a_commit (is_sent words) before (blob_value x) refl) (follows_sent (before ++ blob_value x ∷ []) vs h.2 p (later before (blob_value x) vs k))
  follows_sent before (tree_value f ∷ vs) h p k = subst (λ b. FollowsSent held b (passing (is_sent words) vs)) (not_a_commit (is_sent words) before (tree_value f) refl) (follows_sent (before ++ tree_value f ∷ []) vs h.2 (second (is_proper (tree_value f)) _ p) (later before (tree_value f) vs k))
  follows_sent before (tag_value t ∷ vs) h p k = subst (λ b. FollowsSent held b (passing (is_sent words) vs)) (not_a_commit (is_sent words) before (tag_value t) refl) (follows_sent (before ++ tag_value t ∷ []) vs h.2 (second (is_proper (tag_value t)) _ p) (later before (tag_value t) vs k))
  follows_sent before (commit_value c ∷ vs) h p k =
      let rest = follows_sent (before ++ commit_value c ∷ []) vs h.2 (second (is_proper (commit_value c)) _ p) (later before (commit_value c) vs k) in
      elim (is_sent words c) as (λ t. is_sent words c ≡ t → FollowsSent held (passing (is_sent words) before) (cond t (c ∷ passing (is_sent words) vs) (passing (is_sent words) vs))) [
        | true ↦ λ e. (
          is_true _ (first (is_proper (commit_value c)) _ p),
          parents_all (IsKnown held (passing (is_sent words) before)) (parents_of c) (λ q i. known before c vs k q (parents_of_commit before c h.1 q i) (included_parent words c q (first (is_included words c) _ (subst T (sym e) tt)) i)),
          subst (λ b. FollowsSent held b (passing (is_sent words) vs)) (a_commit (is_sent words) before c true e) rest,
        )
        | false ↦ λ e. subst (λ b. FollowsSent held b (passing (is_sent words) vs)) (a_commit (is_sent words) before c false e ∙ append-nil (passing (is_sent words) before)) rest
      ] refl

-- ---- the refs that are set

any_either : (words : List Word) (c : Commit) → T (is_in_range words c) → T (is_included words c) ⊎ T (is_excluded words c)
any_either [] c h = absurd h
any_either (w ∷ words) c h =
    one_of ((span w).included c || (span w).excluded c) (is_in_range words c) h
    (λ k. one_of ((span w).included c) ((span w).excluded c) k (λ i. inl (left_or ((span w).included c) _ i)) (λ i. inr (left_or ((span w).excluded c) _ i)))
    (λ k. elim (any_either words c k) [ inl i ↦ inl (right_or ((span w).included c) _ i) | inr i ↦ inr (right_or ((span w).excluded c) _ i) ])

-- the commit of a ref that is set is sent, or is excluded
pub sent_or_excluded : (vs : List Value) (words : List Word) (c : Commit) → IsIn vs (commit_value c) → T (is_in_range words c) → IsOne (passing (is_sent words) vs) c ⊎ (is_excluded words c ≡ true)
sent_or_excluded vs words c i h = by (is_excluded words c) refl (any_either words c h) where
  by : (b : Bool) → is_excluded words c ≡ b → T (is_included words c) ⊎ T (is_excluded words c) → IsOne (passing (is_sent words) vs) c ⊎ (is_excluded words c ≡ true)
  by true e k = inr e
  by false e k = elim k [
    | inl t ↦ inl (one_filter (is_sent words) (filter_map commit_of vs) c (among vs c i) (sent_test words c t e))
    | inr t ↦ absurd (subst T e t)
  ]

-- what holds of refs holds of those that are left, and these pass
pub refs_left : (P Q : Bytes × Target → Type 0) (t : Bytes × Target → Bool) → ((r : Bytes × Target) → P r → T (t r) → Q r) → (rs : Refs) → AllByRecursion P rs → AllByRecursion Q (filter t rs)
refs_left P Q t f [] h = tt
refs_left P Q t f (r ∷ rs) h =
    elim (t r) as (λ b. t r ≡ b → AllByRecursion Q (cond b (r ∷ filter t rs) (filter t rs))) [
      | true ↦ λ e. (f r h.0 (subst T (sym e) tt), refs_left P Q t f rs h.1)
      | false ↦ λ e. refs_left P Q t f rs h.1
    ] refl
