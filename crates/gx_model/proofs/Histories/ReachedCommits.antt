-- The commits that one reaches are the least set with it and with the parents of its members.
use Rattle.std.proofs.Common.{Bool, refl, sym, subst, inl, inr}
use Rattle.std.specs.Prelude.{T}
use Rattle.gx_model.specs.Histories.Values.{Commit, commit, Commits, none, more, parents_of, same_commit}
use Rattle.gx_model.specs.Revisions.Ranges.{reaches, some_reaches}
use Rattle.gx_model.specs.Laws.HistoryLaws.{IsParent}
use Rattle.gx_model.proofs.Texts.PathTests.{left_or, right_or, one_of}
use Rattle.gx_model.proofs.Histories.SameValues.{commit_is, commit_same}

-- a commit reaches itself
pub itself : (c : Commit) → T (reaches c c)
itself (commit f ps t) = left_or (same_commit (commit f ps t) (commit f ps t)) (some_reaches ps (commit f ps t)) (commit_same (commit f ps t))

any_parent : (p : Commit) (cs : Commits) → IsParent p cs → T (some_reaches cs p)
any_parent p none h = absurd h
any_parent p (more c cs) h =
    elim h [
      | inl e ↦ left_or (reaches c p) (some_reaches cs p) (subst (λ d. T (reaches d p)) (sym e) (itself p))
      | inr k ↦ right_or (reaches c p) (some_reaches cs p) (any_parent p cs k)
    ]

mutual
  -- a commit reaches the parents of what it reaches
  pub closed : (a : Commit) (b p : Commit) → T (reaches a b) → IsParent p (parents_of b) → T (reaches a p)
  closed (commit f ps t) b p h k =
      one_of (same_commit (commit f ps t) b) (some_reaches ps b) h
      (λ s. right_or (same_commit (commit f ps t) p) (some_reaches ps p) (any_parent p ps (subst (λ d. IsParent p (parents_of d)) (sym (commit_is (commit f ps t) b s)) k)))
      (λ s. right_or (same_commit (commit f ps t) p) (some_reaches ps p) (closed_some ps b p s k))

  -- some commits reach the parents of what they reach
  pub closed_some : (cs : Commits) (b p : Commit) → T (some_reaches cs b) → IsParent p (parents_of b) → T (some_reaches cs p)
  closed_some none b p h k = absurd h
  closed_some (more c cs) b p h k =
      one_of (reaches c b) (some_reaches cs b) h
      (λ s. left_or (reaches c p) (some_reaches cs p) (closed c b p s k))
      (λ s. right_or (reaches c p) (some_reaches cs p) (closed_some cs b p s k))

module _ (P : Commit → Bool) (step : (d p : Commit) → T (P d) → IsParent p (parents_of d) → T (P p)) where
  mutual
    -- what a commit reaches is in each set that has it and the parents of its members
    pub least : (c : Commit) (d : Commit) → T (P c) → T (reaches c d) → T (P d)
    least (commit f ps t) d h k =
        one_of (same_commit (commit f ps t) d) (some_reaches ps d) k
        (λ s. subst (λ e. T (P e)) (commit_is (commit f ps t) d s) h)
        (λ s. least_some ps d (λ p i. step (commit f ps t) p h i) s)

    -- what some commits reach is in each such set
    pub least_some : (cs : Commits) (d : Commit) → ((p : Commit) → IsParent p cs → T (P p)) → T (some_reaches cs d) → T (P d)
    least_some none d h k = absurd k
    least_some (more c cs) d h k =
        one_of (reaches c d) (some_reaches cs d) k
        (λ s. least c d (h c (inl refl)) s)
        (λ s. least_some cs d (λ p i. h p (inr i)) s)
