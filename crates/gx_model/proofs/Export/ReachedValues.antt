-- Which commits and values the refs of a history reach.
use Rattle.std.proofs.Common.{◌≡◌, Bool, true, false, cond, Option, None, List, [], ◌∷◌, ◌++◌, map, refl, sym, ap, subst, ◌∙◌, append-nil, append_assoc, inl, inr}
use Rattle.std.proofs.lemmas.Bool.{false≢true}
use Rattle.std.proofs.lemmas.List.Elements.{filter_map-append, filter-append}
use Rattle.std.specs.List.{list_all, filter, filter_map, AllByRecursion, cons_option}
use Rattle.std.specs.Prelude.{T, ◌⊎◌}
use Rattle.gx_model.specs.Export.{is_reached}
use Rattle.gx_model.specs.Laws.ExportLaws.{AnyReaches, IsOne}
use Rattle.gx_model.specs.Histories.{IsClosedAfter, IsIn, IsWhole, Reaches, Target, at_commit, at_tag, itself, through, value_at}
use Rattle.gx_model.specs.Laws.HistoryLaws.{IsParent}
use Rattle.gx_model.specs.Revisions.Ranges.{reaches, some_reaches}
use Rattle.gx_model.specs.Replay.{peeled_at}
use Rattle.gx_model.specs.Texts.{Bytes}
use Rattle.gx_model.specs.Histories.Values.{Commit, Commits, Value, blob_value, commit, commit_of, commit_value, is_proper, list_of, more, none, parents_of, parts, same_commit, tag_value, tree_value}
use Rattle.gx_model.proofs.Records.GrownRecords.{is_is_in}
use Rattle.gx_model.proofs.Export.KeptCommits.{FollowsAll, among, reaches_trans}
use Rattle.gx_model.proofs.Records.LinkedValues.{parts_after}
use Rattle.gx_model.proofs.Texts.PathTests.{both, first, is_true, left_or, one_of, right_or, second}
use Rattle.gx_model.proofs.Export.PublishedRefs.{Refs}
use Rattle.gx_model.proofs.Histories.SameValues.{commit_is}
use Rattle.gx_model.proofs.Histories.ReachedCommits as reached

pub one_in : (vs : List Value) (c : Commit) → IsOne (filter_map commit_of vs) c → IsIn vs (commit_value c)
one_in [] c h = absurd h
one_in (blob_value x ∷ vs) c h = inr (one_in vs c h)
one_in (tree_value f ∷ vs) c h = inr (one_in vs c h)
one_in (tag_value t ∷ vs) c h = inr (one_in vs c h)
one_in (commit_value d ∷ vs) c h = elim h [ inl e ↦ inl (ap commit_value e) | inr k ↦ inr (one_in vs c k) ]

pub one_filter : (R : Commit → Bool) (cs : List Commit) (c : Commit) → IsOne cs c → T (R c) → IsOne (filter R cs) c
one_filter R [] c h r = absurd h
one_filter R (d ∷ cs) c h r = by (R d) refl h (λ k. one_filter R cs c k r) where
  by : (t : Bool) → R d ≡ t → (d ≡ c) ⊎ IsOne cs c → (IsOne cs c → IsOne (filter R cs) c) → IsOne (cond t (d ∷ filter R cs) (filter R cs)) c
  by true e k again = elim k [ inl is ↦ inl is | inr i ↦ inr (again i) ]
  by false e k again = elim k [ inl is ↦ absurd (subst T (sym (ap R is) ∙ e) r) | inr i ↦ again i ]

pub filter_one : (R : Commit → Bool) (cs : List Commit) (c : Commit) → IsOne (filter R cs) c → IsOne cs c
filter_one R [] c h = absurd h
filter_one R (d ∷ cs) c h = by (R d) h (λ k. filter_one R cs c k) where
  by : (t : Bool) → IsOne (cond t (d ∷ filter R cs) (filter R cs)) c → (IsOne (filter R cs) c → IsOne cs c) → (d ≡ c) ⊎ IsOne cs c
  by true k again = elim k [ inl is ↦ inl is | inr i ↦ inr (again i) ]
  by false k again = inr (again k)

pub parents_all : (P : Commit → Type 0) (ps : Commits) → ((p : Commit) → IsParent p ps → P p) → AllByRecursion P (list_of ps)
parents_all P none f = tt
parents_all P (more p ps) f = (f p (inl refl), parents_all P ps (λ q i. f q (inr i)))

parent_in : (P : Value → Type 0) (ps : Commits) → AllByRecursion P (map commit_value (list_of ps)) → (p : Commit) → IsParent p ps → P (commit_value p)
parent_in P none h p i = absurd i
parent_in P (more q ps) h p i = elim i [ inl e ↦ subst (λ x. P (commit_value x)) e h.0 | inr k ↦ parent_in P ps h.1 p k ]

reached_parent : (refs : Refs) (c p : Commit) → T (is_reached refs c) → IsParent p (parents_of c) → T (is_reached refs p)
reached_parent [] c p h i = absurd h
reached_parent (r ∷ refs) c p h i = one_of (reaches (peeled_at r.1) c) (is_reached refs c) h (λ k. left_or _ _ (reached.closed (peeled_at r.1) c p k i)) (λ k. right_or (reaches (peeled_at r.1) p) _ (reached_parent refs c p k i))

pub parents_of_commit : (before : List Value) (c : Commit) → AllByRecursion (IsIn before) (parts (commit_value c)) → (p : Commit) → IsParent p (parents_of c) → IsIn before (commit_value p)
parents_of_commit before c h p i = parent_in (IsIn before) (parents_of c) h.1 p i

-- the commits among these values that pass
abbrev pub passing : (Commit → Bool) → List Value → List Commit
passing R vs = filter R (filter_map commit_of vs)

pub not_a_commit : (R : Commit → Bool) (before : List Value) (v : Value) → commit_of v ≡ None → passing R (before ++ v ∷ []) ≡ passing R before
not_a_commit R before v e = ap (filter R) (filter_map-append commit_of before (v ∷ []) ∙ ap (λ (o : Option Commit). filter_map commit_of before ++ cons_option o []) e ∙ append-nil (filter_map commit_of before))

pub a_commit : (R : Commit → Bool) (before : List Value) (c : Commit) (t : Bool) → R c ≡ t → passing R (before ++ commit_value c ∷ []) ≡ passing R before ++ cond t (c ∷ []) []
a_commit R before c t e =
    ap (filter R) (filter_map-append commit_of before (commit_value c ∷ [])) ∙ filter-append R (filter_map commit_of before) (c ∷ [])
    ∙ ap (λ b. passing R before ++ cond b (c ∷ []) []) e

abbrev reached_in : Refs → List Value → List Commit
reached_in refs vs = passing (is_reached refs) vs

pub follows : (refs : Refs) (before vs : List Value) → IsClosedAfter before vs → T (list_all is_proper vs) → FollowsAll (reached_in refs before) (reached_in refs vs)
follows refs before [] h p = tt
follows refs before (blob_value x ∷ vs) h p = subst (λ b. FollowsAll b (reached_in refs vs)) (not_a_commit (is_reached refs) before (blob_value x) refl) (follows refs (before ++ blob_value x ∷ []) vs h.2 p)
follows refs before (tree_value f ∷ vs) h p = subst (λ b. FollowsAll b (reached_in refs vs)) (not_a_commit (is_reached refs) before (tree_value f) refl) (follows refs (before ++ tree_value f ∷ []) vs h.2 (second (is_proper (tree_value f)) _ p))
follows refs before (tag_value t ∷ vs) h p = subst (λ b. FollowsAll b (reached_in refs vs)) (not_a_commit (is_reached refs) before (tag_value t) refl) (follows refs (before ++ tag_value t ∷ []) vs h.2 (second (is_proper (tag_value t)) _ p))
follows refs before (commit_value c ∷ vs) h p =
    let rest = follows refs (before ++ commit_value c ∷ []) vs h.2 (second (is_proper (commit_value c)) _ p) in
    elim (is_reached refs c) as (λ t. is_reached refs c ≡ t → FollowsAll (reached_in refs before) (cond t (c ∷ reached_in refs vs) (reached_in refs vs))) [
      | true ↦ λ e. (
        is_true _ (first (is_proper (commit_value c)) _ p),
        parents_all (IsOne (reached_in refs before)) (parents_of c) (λ q i. one_filter (is_reached refs) (filter_map commit_of before) q (among before q (parents_of_commit before c h.1 q i)) (reached_parent refs c q (subst T (sym e) tt) i)),
        λ i. false≢true (sym h.0 ∙ is_is_in before (commit_value c) (one_in before c (filter_one (is_reached refs) (filter_map commit_of before) c i))),
        subst (λ b. FollowsAll b (reached_in refs vs)) (a_commit (is_reached refs) before c true e) rest,
      )
      | false ↦ λ e. subst (λ b. FollowsAll b (reached_in refs vs)) (a_commit (is_reached refs) before c false e ∙ append-nil (reached_in refs before)) rest
    ] refl

-- ---- what the refs reach

mutual
  reach_is : (c d : Commit) → T (reaches c d) → Reaches (commit_value c) (commit_value d)
  reach_is (commit f ps t) d h =
      one_of (same_commit (commit f ps t) d) (some_reaches ps d) h (λ k. subst (λ x. Reaches (commit_value (commit f ps t)) (commit_value x)) (commit_is (commit f ps t) d k) (itself (commit_value (commit f ps t))))
      (λ k. let s = some_is ps d k in through (commit_value (commit f ps t)) s.0 (inr s.1) s.2)

  some_is : (ps : Commits) (d : Commit) → T (some_reaches ps d) → (w : Value) × IsIn (map commit_value (list_of ps)) w × Reaches w (commit_value d)
  some_is none d h = absurd h
  some_is (more p ps) d h = one_of (reaches p d) (some_reaches ps d) h (λ k. (commit_value p, inl refl, reach_is p d k)) (λ k. let s = some_is ps d k in (s.0, inr s.1, s.2))

peeled_reach : (x : Target) (c : Commit) → T (reaches (peeled_at x) c) → Reaches (value_at x) (commit_value c)
peeled_reach (at_commit d) c h = reach_is d c h
peeled_reach (at_tag t) c h = through (tag_value t) (commit_value t.target) (inl refl) (reach_is t.target c h)

ref_reaches : (refs : Refs) (c : Commit) (u : Value) → T (is_reached refs c) → Reaches (commit_value c) u → AnyReaches (map (λ r. value_at r.1) refs) u
ref_reaches [] c u h r = absurd h
ref_reaches (x ∷ refs) c u h r = one_of (reaches (peeled_at x.1) c) (is_reached refs c) h (λ k. inl (reaches_trans (value_at x.1) (commit_value c) u (peeled_reach x.1 c k) r)) (λ k. inr (ref_reaches refs c u k r))

pub commits_reached : (refs : Refs) (cs : List Commit) (u : Value) → T (list_all (is_reached refs) cs) → AnyReaches (map commit_value cs) u → AnyReaches (map (λ r. value_at r.1) refs) u
commits_reached refs [] u h r = absurd r
commits_reached refs (c ∷ cs) u h r = elim r [ inl k ↦ ref_reaches refs c u (first _ _ h) k | inr k ↦ commits_reached refs cs u (second (is_reached refs c) _ h) k ]

pub all_pass : (R : Commit → Bool) (cs : List Commit) → T (list_all R (filter R cs))
all_pass R [] = tt
all_pass R (c ∷ cs) = by (R c) refl (all_pass R cs) where
  by : (t : Bool) → R c ≡ t → T (list_all R (filter R cs)) → T (list_all R (cond t (c ∷ filter R cs) (filter R cs)))
  by true e h = both _ _ (subst T (sym e) tt) h
  by false e h = h

pub target_held : (vs : List Value) → IsWhole vs → (x : Target) → IsIn vs (value_at x) → IsIn vs (commit_value (peeled_at x))
target_held vs h (at_commit c) i = i
target_held vs h (at_tag t) i = (parts_after [] vs (tag_value t) h.closed i).0

pub all_reached : (refs : Refs) → AllByRecursion (λ r. T (is_reached refs (peeled_at r.1))) refs
all_reached refs = by [] refs where
  here : (before rest : Refs) (x : Bytes × Target) → T (is_reached (before ++ x ∷ rest) (peeled_at x.1))
  here [] rest x = left_or (reaches (peeled_at x.1) (peeled_at x.1)) _ (reached.itself (peeled_at x.1))
  here (y ∷ before) rest x = right_or (reaches (peeled_at y.1) (peeled_at x.1)) _ (here before rest x)

  by : (before rest : Refs) → AllByRecursion (λ r. T (is_reached (before ++ rest) (peeled_at r.1))) rest
  by before [] = tt
  by before (x ∷ rest) = (here before rest x, subst (λ rs. AllByRecursion (λ r. T (is_reached rs (peeled_at r.1))) rest) (append_assoc before (x ∷ []) rest) (by (before ++ x ∷ []) rest))
