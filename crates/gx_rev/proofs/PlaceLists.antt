-- Lists of places in order: what the commits at them reach, and a walk that goes down by them.
use Rattle.std.proofs.Common.{◌≡◌, ◌≢◌, ℕ, zero, suc, ◌+◌, ◌<◌, ◌≤◌, Bool, true, false, refl, sym, ap, subst, ◌∙◌, arith, List, [], ◌∷◌, ◌++◌, length, Some, None, ◌⊎◌, inl, inr}
use Rattle.std.specs.Prelude.{T, IsTrue, ◌↔◌, ◌==◌, Result, Ok, Err, IfOk}
use Rattle.std.specs.Bool.{passes}
use Rattle.std.specs.List.{AllByRecursion, slice_get}
use Rattle.std.specs.Ordering.{nat_cmp, match_ordering}
use Rattle.std.specs.declared.cmp.Ordering.TheVariants.{Less, Equal, Greater}
use Rattle.std.specs.BTreeSet.{insert_key}
use Rattle.std.specs.BTreeMap.Range.{IsLtBy}
use Rattle.std.proofs.Math.Dec.{eqb}
use Rattle.std.proofs.lemmas.Bool.Decides.{Decides-eqb, eqb_tells, nat_tests}
use Rattle.gx_model.specs.declared.objects.Kind.{Kind}
use Rattle.gx_model.specs.Histories.Values.{Commit, Commits, commit, commit_value, list_of, more, none, parents_of, same_commit}
use Rattle.gx_model.specs.Objects.{IsNamer}
use Rattle.gx_model.specs.Histories.{Records}
use Rattle.gx_model.specs.Laws.HistoryLaws.{IsParent}
use Rattle.gx_model.specs.Histories.Marks.{IsAt}
use Rattle.gx_model.specs.Revisions.Ranges.{reaches, some_reaches}
use Rattle.gx_model.specs.Records.Sound.{AnyByRecursion, IsSound}
use Rattle.gx_model.proofs.Revisions.Marking.{IsBefore, least}
use Rattle.gx_model.proofs.Texts.PathTests.{is_true, left_or, one_of, right_or}
use Rattle.gx_model.proofs.Histories.ReachedCommits.{itself}
use Rattle.gx_model.proofs.Histories.SameValues.{commit_is}
use Rattle.gx_model.proofs.Records.Standing.{parent_before, same_place}
use Rattle.gx_rev.specs.Parents.{IsCommitPlace}
use Rattle.gx_rev.specs.Ancestors.{AddsParents, IsCommitBefore, ReachesFrom, SomeReaches, TellsReached, behind_last}

-- ---- a place more, and the last one

pub same_number : (k x : ℕ) → nat_cmp k x ≡ Equal → k ≡ x
same_number k x e = grind (arith, nat_tests)

module _ (P : ℕ → Type 0) where
  pub all_insert : (k : ℕ) (xs : List ℕ) → P k → AllByRecursion P xs → AllByRecursion P (insert_key nat_cmp xs k)
  all_insert k [] p h = (p, tt)
  all_insert k (x ∷ xs) p h =
      elim (nat_cmp k x) as (λ o. AllByRecursion P (match_ordering o (k ∷ x ∷ xs) (x ∷ xs) (x ∷ insert_key nat_cmp xs k))) [
        | Less ↦ (p, h)
        | Equal ↦ h
        | Greater ↦ (h.0, all_insert k xs p h.1)
      ]

  any_old : (k : ℕ) (xs : List ℕ) → AnyByRecursion P xs → AnyByRecursion P (insert_key nat_cmp xs k)
  any_old k [] h = absurd h
  any_old k (x ∷ xs) h =
      elim (nat_cmp k x) as (λ o. AnyByRecursion P (match_ordering o (k ∷ x ∷ xs) (x ∷ xs) (x ∷ insert_key nat_cmp xs k))) [
        | Less ↦ inr h
        | Equal ↦ h
        | Greater ↦ elim h [ inl p ↦ inl p | inr q ↦ inr (any_old k xs q) ]
      ]

  any_new : (k : ℕ) (xs : List ℕ) → P k → AnyByRecursion P (insert_key nat_cmp xs k)
  any_new k [] p = inl p
  any_new k (x ∷ xs) p =
      elim (nat_cmp k x) as (λ o. nat_cmp k x ≡ o → AnyByRecursion P (match_ordering o (k ∷ x ∷ xs) (x ∷ xs) (x ∷ insert_key nat_cmp xs k))) [
        | Less ↦ λ e. inl p
        | Equal ↦ λ e. inl (subst P (same_number k x e) p)
        | Greater ↦ λ e. inr (any_new k xs p)
      ] refl

  any_inserted : (k : ℕ) (xs : List ℕ) → AnyByRecursion P (insert_key nat_cmp xs k) → AnyByRecursion P xs ⊎ P k
  any_inserted k [] h = elim h [ inl p ↦ inr p | inr z ↦ absurd z ]
  any_inserted k (x ∷ xs) h =
      elim (nat_cmp k x) as (λ o. AnyByRecursion P (match_ordering o (k ∷ x ∷ xs) (x ∷ xs) (x ∷ insert_key nat_cmp xs k)) → AnyByRecursion P (x ∷ xs) ⊎ P k) [
        | Less ↦ λ q. elim q [ inl p ↦ inr p | inr a ↦ inl a ]
        | Equal ↦ λ q. inl q
        | Greater ↦ λ q. elim q [ inl p ↦ inl (inl p) | inr a ↦ elim (any_inserted k xs a) [ inl b ↦ inl (inr b) | inr p ↦ inr p ] ]
      ] h

  pub any_last : (xs : List ℕ) (k : ℕ) → AnyByRecursion P (xs ++ k ∷ []) → AnyByRecursion P xs ⊎ P k
  any_last [] k h = elim h [ inl p ↦ inr p | inr z ↦ absurd z ]
  any_last (x ∷ xs) k h = elim h [ inl p ↦ inl (inl p) | inr q ↦ elim (any_last xs k q) [ inl a ↦ inl (inr a) | inr p ↦ inr p ] ]

  pub any_front : (xs : List ℕ) (k : ℕ) → AnyByRecursion P xs → AnyByRecursion P (xs ++ k ∷ [])
  any_front [] k h = absurd h
  any_front (x ∷ xs) k h = elim h [ inl p ↦ inl p | inr q ↦ inr (any_front xs k q) ]

  pub any_end : (xs : List ℕ) (k : ℕ) → P k → AnyByRecursion P (xs ++ k ∷ [])
  any_end [] k p = inl p
  any_end (x ∷ xs) k p = inr (any_end xs k p)

  pub all_last : (xs : List ℕ) (k : ℕ) → AllByRecursion P (xs ++ k ∷ []) → AllByRecursion P xs × P k
  all_last [] k h = (tt, h.0)
  all_last (x ∷ xs) k h = let rest = all_last xs k h.1 in ((h.0, rest.0), rest.1)

-- ---- how far down a walk is

pub behind_end : (xs : List ℕ) (k : ℕ) → behind_last (xs ++ k ∷ []) ≡ suc k
behind_end [] k = refl
behind_end (x ∷ []) k = refl
behind_end (x ∷ y ∷ ys) k = behind_end (y ∷ ys) k

pub behind_before : (r : Records) (n : ℕ) (xs : List ℕ) → AllByRecursion (IsCommitBefore r n) xs → behind_last xs ≤ n
behind_before r n [] h = omega arith
behind_before r n (x ∷ []) h = let l = h.0.0 in omega arith
behind_before r n (x ∷ y ∷ ys) h = behind_before r n (y ∷ ys) h.1

pub less_told : (q k : ℕ) → nat_cmp q k ≡ Less → q < k
less_told q k h = grind (arith, nat_tests)

-- places of commits that come before another
pub all_before : (r : Records) (k : ℕ) (xs : List ℕ) → AllByRecursion (IsCommitPlace r) xs → AllByRecursion (λ q. IsLtBy nat_cmp q k) xs → AllByRecursion (IsCommitBefore r k) xs
all_before r k [] h b = tt
all_before r k (x ∷ xs) h b = ((less_told x k b.0, h.0), all_before r k xs h.1 b.1)

pub all_places : (r : Records) (n : ℕ) (xs : List ℕ) → AllByRecursion (IsCommitBefore r n) xs → AllByRecursion (IsCommitPlace r) xs
all_places r n [] h = tt
all_places r n (x ∷ xs) h = (h.0.1, all_places r n xs h.1)

-- ---- parents

-- one of the first parents reaches a commit
abbrev pub FirstReach : Commits → ℕ → Commit → Type 0
FirstReach cs n d = (p : Commit) × IsBefore (list_of cs) n p × IsTrue (reaches p d)

is_parent : (cs : Commits) (i : ℕ) (p : Commit) → slice_get (list_of cs) i ≡ Some p → IsParent p cs
is_parent none i p e = absurd cc
is_parent (more c cs) zero p e = inl (let same : c ≡ p = cc in same)
is_parent (more c cs) (suc i) p e = inr (is_parent cs i p e)

parent_in : (cs : Commits) (i : ℕ) (p d : Commit) → slice_get (list_of cs) i ≡ Some p → T (reaches p d) → T (some_reaches cs d)
parent_in none i p d e h = absurd cc
parent_in (more c cs) zero p d e h = left_or (reaches c d) (some_reaches cs d) (let same : c ≡ p = cc in subst (λ q. T (reaches q d)) (sym same) h)
parent_in (more c cs) (suc i) p d e h = right_or (reaches c d) (some_reaches cs d) (parent_in cs i p d e h)

some_parent : (cs : Commits) (d : Commit) → T (some_reaches cs d) → FirstReach cs (length (list_of cs)) d
some_parent none d h = absurd h
some_parent (more c cs) d h =
    one_of (reaches c d) (some_reaches cs d) h
    (λ k. (c, (0, omega arith, refl), is_true _ k))
    (λ k. let f = some_parent cs d k in (f.0, (suc f.1.0, (let l = f.1.1 in omega arith), f.1.2), f.2))

-- what places reach once the first parents of a commit are among them
abbrev pub HasFirst : Records → Commits → ℕ → List ℕ → List ℕ → Type 0
HasFirst r cs n old now = (d : Commit) → SomeReaches r now d ↔ (SomeReaches r old d ⊎ FirstReach cs n d)

pub no_parent_yet : (r : Records) (cs : Commits) (old : List ℕ) → HasFirst r cs 0 old old
no_parent_yet r cs old d = (λ h. inl h, λ h. elim h [ inl a ↦ a | inr f ↦ absurd (let l = f.1.1 in omega arith) ])

first_more : (cs : Commits) (n : ℕ) (d : Commit) → FirstReach cs n d → FirstReach cs (n + 1) d
first_more cs n d f = (f.0, (f.1.0, (let l = f.1.1 in omega arith), f.1.2), f.2)

pub parent_inserted : (r : Records) (cs : Commits) (n : ℕ) (p : Commit) (i : ℕ) (old now : List ℕ) → slice_get (list_of cs) n ≡ Some p → IsAt r i p
    → HasFirst r cs n old now → HasFirst r cs (n + 1) old (insert_key nat_cmp now i)
parent_inserted r cs n p i old now e at has d = (forth, back)
  where
    forth : SomeReaches r (insert_key nat_cmp now i) d → SomeReaches r old d ⊎ FirstReach cs (n + 1) d
    forth h = elim (any_inserted (ReachesFrom r d) i now h) [
      | inl a ↦ elim ((has d).0 a) [ inl b ↦ inl b | inr f ↦ inr (first_more cs n d f) ]
      | inr w ↦
          let same : w.0 ≡ p = (let o : Some (commit_value w.0) ≡ Some (commit_value p) = sym w.1 ∙ at in cc o) in
          inr (p, (n, omega arith, e), subst (λ c. IsTrue (reaches c d)) same w.2)
    ]

    later : (f : FirstReach cs (n + 1) d) → ((eqb f.1.0 n ≡ true) × (f.1.0 ≡ n)) ⊎ ((eqb f.1.0 n ≡ false) × (f.1.0 ≢ n)) → SomeReaches r (insert_key nat_cmp now i) d
    later f (inl t) =
        let same : f.0 ≡ p = (let o : Some f.0 ≡ Some p = sym f.1.2 ∙ ap (slice_get (list_of cs)) t.1 ∙ e in cc o) in
        any_new (ReachesFrom r d) i now (p, at, subst (λ c. IsTrue (reaches c d)) same f.2)
    later f (inr o) = any_old (ReachesFrom r d) i now ((has d).1 (inr (f.0, (f.1.0, (let l = f.1.1 in let m = o.1 in omega arith), f.1.2), f.2)))

    back : SomeReaches r old d ⊎ FirstReach cs (n + 1) d → SomeReaches r (insert_key nat_cmp now i) d
    back h = elim h [ inl a ↦ any_old (ReachesFrom r d) i now ((has d).1 (inl a)) | inr f ↦ later f (eqb_tells f.1.0 n) ]

pub no_parent_more : (r : Records) (cs : Commits) (n : ℕ) (old now : List ℕ) → slice_get (list_of cs) n ≡ None → HasFirst r cs n old now → HasFirst r cs (n + 1) old now
no_parent_more r cs n old now e has d = (
  λ h. elim ((has d).0 h) [ inl b ↦ inl b | inr f ↦ inr (first_more cs n d f) ],
  λ h. elim h [ inl a ↦ (has d).1 (inl a) | inr f ↦ by f (eqb_tells f.1.0 n) ],
)
  where
    by : (f : FirstReach cs (n + 1) d) → ((eqb f.1.0 n ≡ true) × (f.1.0 ≡ n)) ⊎ ((eqb f.1.0 n ≡ false) × (f.1.0 ≢ n)) → SomeReaches r now d
    by f (inl t) = absurd (let o : Some f.0 ≡ None = sym f.1.2 ∙ ap (slice_get (list_of cs)) t.1 ∙ e in cc o)
    by f (inr o) = (has d).1 (inr (f.0, (f.1.0, (let l = f.1.1 in let m = o.1 in omega arith), f.1.2), f.2))

-- all parents are among the places
pub all_inserted : (r : Records) (cs : Commits) (n : ℕ) (old now : List ℕ) → length (list_of cs) ≤ n → HasFirst r cs n old now → AddsParents r cs old now
all_inserted r cs n old now l has d = (
  λ h. elim ((has d).0 h) [ inl a ↦ inl a | inr f ↦ inr (is_true _ (parent_in cs f.1.0 f.0 d f.1.2 (passes _ f.2))) ],
  λ h. elim h [ inl a ↦ (has d).1 (inl a) | inr q ↦ (has d).1 (inr (let f = some_parent cs d (passes _ q) in (f.0, (f.1.0, (let m = f.1.1 in omega arith), f.1.2), f.2))) ],
)

-- ---- the walk

pub through_parents : (c d : Commit) → T (some_reaches (parents_of c) d) → T (reaches c d)
through_parents (commit f ps t) d h = right_or (same_commit (commit f ps t) d) (some_reaches ps d) h

-- a commit reaches its parents
pub parent_reached : (c p : Commit) (i : ℕ) → slice_get (list_of (parents_of c)) i ≡ Some p → IsTrue (reaches c p)
parent_reached c p i e = is_true _ (through_parents c p (parent_in (parents_of c) i p p e (itself p)))

from_parents : (c d : Commit) → (c ≡ d → ⊥) → T (reaches c d) → T (some_reaches (parents_of c) d)
from_parents (commit f ps t) d n h = one_of (same_commit (commit f ps t) d) (some_reaches ps d) h (λ s. absurd (n (commit_is (commit f ps t) d s))) (λ k. k)

module _ (name : Kind → List ℕ → List ℕ) (namer : IsNamer name) (r : Records) (sound : IsSound name r) where
  -- what a commit reaches stands no later
  reached_before : (c d : Commit) (i : ℕ) → IsAt r i c → T (reaches c d) → (j : ℕ) × (j ≤ i) × IsAt r j d
  reached_before c d i e h =
      least (λ b. (j : ℕ) × (j ≤ i) × IsAt r j b) (λ b p q k. let w = parent_before name namer r sound b p q.0 q.2 k in (w.0, (let l = w.1 in let m = q.1 in omega arith), w.2)) c d (i, omega arith, e) h

  -- what is reached from places before one stands before it too
  pub place_below : (k : ℕ) (xs : List ℕ) (d : Commit) → AllByRecursion (IsCommitBefore r k) xs → SomeReaches r xs d → (j : ℕ) × (j < k) × IsAt r j d
  place_below k [] d h w = absurd w
  place_below k (x ∷ xs) d h w = elim w [
    | inl p ↦ (let b = reached_before p.0 d x p.1 (passes _ p.2) in (b.0, (let l = b.1 in let m = h.0.0 in omega arith), b.2))
    | inr q ↦ place_below k xs d h.1 q
  ]

  -- the place of a parent by its number
  pub parent_place : (c p : Commit) (i j n : ℕ) → IsAt r i c → slice_get (list_of (parents_of c)) n ≡ Some p → IsAt r j p → IsCommitBefore r i j
  parent_place c p i j n e q f =
      let w = parent_before name namer r sound c p i e (is_parent (parents_of c) n p q) in
      let s = same_place name namer r sound (commit_value p) w.0 j w.2 f in
      ((let l = w.1 in omega arith), (p, f))

  module _ (last : ℕ) (d : Commit) (at : IsAt r last d) where
    not_later : (k : ℕ) → ReachesFrom r d k → last ≤ k
    not_later k w =
        let b = reached_before w.0 d k w.1 (passes _ w.2) in
        let s = same_place name namer r sound (commit_value d) b.0 last b.2 at in
        (let l = b.1 in omega arith)

    none_before : (n : ℕ) (xs : List ℕ) → n ≤ last → AllByRecursion (IsCommitBefore r n) xs → SomeReaches r xs d → ⊥
    none_before n [] l h w = w
    none_before n (x ∷ xs) l h w = elim w [
      | inl p ↦ (let m = not_later x p in let o = h.0.0 in omega arith)
      | inr q ↦ none_before n xs l h.1 q
    ]

    -- the walk has come down to the last place
    pub at_last : (xs : List ℕ) (k : ℕ) → k ≤ last → AllByRecursion (IsCommitBefore r k) xs → IsTrue (k == last) ↔ SomeReaches r (xs ++ k ∷ []) d
    at_last xs k l h = (
      λ e. any_end (ReachesFrom r d) xs k (let same : k ≡ last = (Decides-eqb k last).0 e in (d, subst (λ n. IsAt r n d) (sym same) at, is_true _ (itself d))),
      λ w. elim (any_last (ReachesFrom r d) xs k w) [
        | inl a ↦ absurd (none_before k xs l h a)
        | inr p ↦ (let m = not_later k p in (Decides-eqb k last).1 (omega arith))
      ],
    )

    -- with its parents in its place, a commit that isn't the last reaches it still
    pub stepped : (xs new : List ℕ) (k : ℕ) (c : Commit) → last < k → IsAt r k c → AddsParents r (parents_of c) xs new → SomeReaches r new d ↔ SomeReaches r (xs ++ k ∷ []) d
    stepped xs new k c l e adds = (
      λ h. elim ((adds d).0 h) [
        | inl a ↦ any_front (ReachesFrom r d) xs k a
        | inr q ↦ any_end (ReachesFrom r d) xs k (c, e, is_true _ (through_parents c d (passes _ q)))
      ],
      λ h. elim (any_last (ReachesFrom r d) xs k h) [
        | inl a ↦ (adds d).1 (inl a)
        | inr w ↦
            let same : w.0 ≡ c = (let o : Some (commit_value w.0) ≡ Some (commit_value c) = sym w.1 ∙ e in cc o) in
            (adds d).1 (inr (is_true _ (from_parents c d (λ s. other (subst (λ q. IsAt r k q) s e)) (passes _ (subst (λ q. IsTrue (reaches q d)) same w.2)))))
      ],
    )
      where
        other : IsAt r k d → ⊥
        other f = let s = same_place name namer r sound (commit_value d) k last f at in omega arith

pub none_left : (xs : List ℕ) → (0 < length xs → ⊥) → xs ≡ []
none_left [] h = refl
none_left (x ∷ xs) h = absurd (h (omega arith))

same_tests : (a b : Bool) → (a ≡ true → b ≡ true) → (b ≡ true → a ≡ true) → a ≡ b
same_tests true b f g = sym (f refl)
same_tests false true f g = g refl
same_tests false false f g = refl

-- from one place, a walk tells what its commit reaches
pub one_reaches : {E : Type 0} (r : Records) (new old : Commit) (place : ℕ) (keys : List ℕ) (answer : Result Bool E) → keys ≡ place ∷ [] → IsAt r place new
    → IfOk answer (λ is. IsTrue is ↔ SomeReaches r keys old) → IfOk answer (λ is. is ≡ reaches new old)
one_reaches r new old place keys (Err e) k at h = tt
one_reaches r new old place keys (Ok is) k at h =
    same_tests is (reaches new old)
    (λ t. by (subst (λ ks. SomeReaches r ks old) k (h.0 t)))
    (λ t. h.1 (subst (λ ks. SomeReaches r ks old) (sym k) (inl (new, at, t))))
  where
    by : SomeReaches r (place ∷ []) old → reaches new old ≡ true
    by w = elim w [
      | inl p ↦
          let same : p.0 ≡ new = (let o : Some (commit_value p.0) ≡ Some (commit_value new) = sym p.1 ∙ at in cc o) in
          subst (λ c. reaches c old ≡ true) same p.2
      | inr z ↦ absurd z
    ]

-- what is told of places that reach the same
pub told_later : {E : Type 0} (r : Records) (old new : List ℕ) (last : ℕ) (answer : Result Bool E) → ((made : Commit) → IsAt r last made → SomeReaches r new made ↔ SomeReaches r old made) → TellsReached r new last answer → TellsReached r old last answer
told_later r old new last (Err e) same told made at = tt
told_later r old new last (Ok is) same told made at =
    let s = same made at in
    let t = told made at in
    ((λ h. s.0 (t.0 h)), (λ h. t.1 (s.1 h)))
