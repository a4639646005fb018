-- Two walks that meet: how they begin, each of their steps, and what is marked once one of them has come to its end.
use Rattle.std.proofs.Common.{◌≡◌, ℕ, suc, ◌<◌, Bool, true, false, refl, sym, ap, subst, ◌∙◌, arith, List, [], ◌∷◌, ◌++◌, length, length-set, set, Some, ◌⊎◌, inl, inr}
use Rattle.std.specs.Prelude.{T, IsTrue, OnOk, Result, Ok, Err, ◌&&◌, ◌||◌}
use Rattle.std.specs.Bool.{passes}
use Rattle.std.specs.List.{AllByRecursion}
use Rattle.std.specs.Ordering.{nat_cmp, match_ordering}
use Rattle.std.specs.declared.cmp.Ordering.TheVariants.{Less, Equal, Greater}
use Rattle.std.specs.BTreeSet.{insert_key}
use Rattle.std.specs.BTreeMap.Range.{IsLtBy}
use Rattle.std.proofs.lemmas.Bool.Decides.{eqb_tells}
use Rattle.gx_model.specs.declared.objects.Kind.{Kind}
use Rattle.gx_model.specs.Histories.Values.{Commit, commit_value, parents_of}
use Rattle.gx_model.specs.Objects.{IsNamer}
use Rattle.gx_model.specs.Histories.{Records}
use Rattle.gx_model.specs.Histories.Marks.{IsAt, IsMarked}
use Rattle.gx_model.specs.Laws.RepositoryLaws.{values_of}
use Rattle.gx_model.specs.Revisions.Ranges.{reaches, some_reaches}
use Rattle.gx_model.specs.Records.Sound.{IsSound}
use Rattle.gx_model.proofs.Texts.PathTests.{both, is_true}
use Rattle.gx_model.proofs.Histories.ReachedCommits.{itself}
use Rattle.gx_model.proofs.Records.Standing.{at_within, same_place}
use Rattle.gx_rev.specs.Ancestors.{AddsParents, AddsParentsAt, IsCommitBefore, ReachesFrom, SomeReaches, behind_last}
use Rattle.gx_rev.specs.Meetings.{AreMeeting, GoesDown, IsCommonAt, IsCovered, reach_both}
use Rattle.gx_rev.specs.Parents.{IsCommitPlace}
use Rattle.gx_rev.specs.Tips.{AddsTips}
use Rattle.gx_rev.proofs.ParentPlaces.{set_here, set_there}
use Rattle.gx_rev.proofs.PlaceLists.{all_last, all_places, any_end, any_front, any_last, behind_before, behind_end, less_told, place_below, same_number, stepped, through_parents}
use Rattle.gx_rev.proofs.Tips.{marks_more, reaches_on, same_tips}

-- a place behind all others is put back where it was
pub put_back : (xs : List ℕ) (k : ℕ) → AllByRecursion (λ q. IsLtBy nat_cmp q k) xs → insert_key nat_cmp xs k ≡ xs ++ k ∷ []
put_back [] k h = refl
put_back (x ∷ xs) k h =
    elim (nat_cmp k x) as (λ o. nat_cmp k x ≡ o → match_ordering o (k ∷ x ∷ xs) (x ∷ xs) (x ∷ insert_key nat_cmp xs k) ≡ x ∷ xs ++ k ∷ []) [
      | Less ↦ λ e. absurd (let l = less_told k x e in let m = less_told x k h.0 in omega (arith, l, m))
      | Equal ↦ λ e. absurd (let s = same_number k x e in let m = less_told x k h.0 in omega (arith, s, m))
      | Greater ↦ λ e. ap (λ ys. x ∷ ys) (put_back xs k h.1)
    ] refl

both_true : (a b : Bool) → a ≡ true → b ≡ true → (a && b) ≡ true
both_true true b f g = g
both_true false b f g = absurd cc

first_true : (a b : Bool) → (a && b) ≡ true → a ≡ true
first_true true b f = refl
first_true false b f = f

second_true : (a b : Bool) → (a && b) ≡ true → b ≡ true
second_true true b f = f
second_true false b f = absurd cc

same_commit_at : (r : Records) (i : ℕ) (c d : Commit) → IsAt r i c → IsAt r i d → c ≡ d
same_commit_at r i c d e f = let o : Some (commit_value c) ≡ Some (commit_value d) = sym e ∙ f in cc o

module _ (r : Records) (a b : Commit) (old : List Bool) where
  -- both walks begin with the commits themselves
  pub begun : (i j : ℕ) → length old ≡ length (values_of r) → IsAt r i a → IsAt r j b → AreMeeting r a b old old (i ∷ []) (j ∷ [])
  begun i j l e f = record {
    began = l;
    long = l;
    left_places = ((a, e), tt);
    right_places = ((b, f), tt);
    from_left = λ d h. elim h [ inl w ↦ subst (λ c. IsTrue (reaches c d)) (same_commit_at r i w.0 a w.1 e) w.2 | inr z ↦ absurd z ];
    from_right = λ d h. elim h [ inl w ↦ subst (λ c. IsTrue (reaches c d)) (same_commit_at r j w.0 b w.1 f) w.2 | inr z ↦ absurd z ];
    keeps = λ i h. h;
    only = λ i h. inl h;
    all = λ d h. inr (inl (a, e, first_true (reaches a d) (reaches b d) h), inl (b, f, second_true (reaches a d) (reaches b d) h));
  }

  -- the one walk and the other
  pub swapped : (marks : List Bool) (xs ys : List ℕ) → AreMeeting r a b old marks xs ys → AreMeeting r b a old marks ys xs
  swapped marks xs ys m = record {
    began = m.began;
    long = m.long;
    left_places = m.right_places;
    right_places = m.left_places;
    from_left = m.from_right;
    from_right = m.from_left;
    keeps = m.keeps;
    only = λ i h. elim (m.only i h) [ inl k ↦ inl k | inr w ↦ inr (w.0, w.1, turned a b w.0 w.2) ];
    all = λ d h. elim (m.all d (turned b a d h)) [
      | inl w ↦ inl (w.0, w.1, w.2, w.3, turned a b w.0 w.4, w.5)
      | inr p ↦ inr (p.1, p.0)
    ];
  }
    where
      turned : (p q d : Commit) → IsTrue (reach_both p q d) → IsTrue (reach_both q p d)
      turned p q d h = both_true (reaches q d) (reaches p d) (second_true (reaches p d) (reaches q d) h) (first_true (reaches p d) (reaches q d) h)

  -- both come to one place, which is marked
  pub met : (marks : List Bool) (xs ys : List ℕ) (k : ℕ) → k < length marks → AreMeeting r a b old marks (xs ++ k ∷ []) (ys ++ k ∷ []) → AreMeeting r a b old (set marks k true) xs ys
  met marks xs ys k l m = record {
    began = m.began;
    long = length-set marks k true ∙ m.long;
    left_places = lefts.0;
    right_places = (all_last (IsCommitPlace r) ys k m.right_places).0;
    from_left = λ d h. m.from_left d (any_front (ReachesFrom r d) xs k h);
    from_right = λ d h. m.from_right d (any_front (ReachesFrom r d) ys k h);
    keeps = λ i h. stays i (m.keeps i h);
    only = λ i h. elim (eqb_tells k i) [
      | inl t ↦ inr (subst (IsCommonAt r a b) t.1 (here, at, common))
      | inr n ↦ m.only i (sym (set_there marks k i true false n.1) ∙ h)
    ];
    all = λ d h. elim (m.all d h) [
      | inl w ↦ inl (w.0, w.1, w.2, stays w.1 w.3, w.4, w.5)
      | inr p ↦ elim (any_last (ReachesFrom r d) xs k p.0) [
        | inr w ↦ inl (covered d w)
        | inl f ↦ elim (any_last (ReachesFrom r d) ys k p.1) [ inr w ↦ inl (covered d w) | inl g ↦ inr (f, g) ]
      ]
    ];
  }
    where
      lefts : AllByRecursion (IsCommitPlace r) xs × IsCommitPlace r k
      lefts = all_last (IsCommitPlace r) xs k m.left_places

      here : Commit
      here = lefts.1.0

      at : IsAt r k here
      at = lefts.1.1

      common : IsTrue (reach_both a b here)
      common = both_true (reaches a here) (reaches b here)
          (m.from_left here (any_end (ReachesFrom r here) xs k (here, at, is_true _ (itself here))))
          (m.from_right here (any_end (ReachesFrom r here) ys k (here, at, is_true _ (itself here))))

      stays : (i : ℕ) → IsMarked marks i → IsMarked (set marks k true) i
      stays i h = elim (eqb_tells k i) [
        | inl t ↦ subst (IsMarked (set marks k true)) t.1 (set_here marks k true false l)
        | inr n ↦ set_there marks k i true false n.1 ∙ h
      ]

      covered : (d : Commit) → ReachesFrom r d k → IsCovered r a b (set marks k true) d
      covered d w = (here, k, at, set_here marks k true false l, common, subst (λ c. IsTrue (reaches c d)) (same_commit_at r k w.0 here w.1 at) w.2)

  module _ (name : Kind → List ℕ → List ℕ) (namer : IsNamer name) (sound : IsSound name r) where
    -- the one that is behind the other goes on to the parents
    pub left_stepped : (marks : List Bool) (xs new ys : List ℕ) (k : ℕ) (c : Commit) → IsAt r k c → AddsParents r (parents_of c) xs new
        → AllByRecursion (IsCommitBefore r k) new → AllByRecursion (IsCommitBefore r k) ys → AreMeeting r a b old marks (xs ++ k ∷ []) ys → AreMeeting r a b old marks new ys
    left_stepped marks xs new ys k c e adds low below m = record {
      began = m.began;
      long = m.long;
      left_places = all_places r k new low;
      right_places = m.right_places;
      from_left = λ d h. m.from_left d (back d ((adds d).0 h));
      from_right = m.from_right;
      keeps = m.keeps;
      only = m.only;
      all = λ d h. elim (m.all d h) [
        | inl w ↦ inl w
        | inr p ↦ inr (
          (let q = place_below name namer r sound k ys d below p.1 in (stepped name namer r sound q.0 d q.2 xs new k c q.1 e adds).1 p.0),
          p.1,
        )
      ];
    }
      where
        back : (d : Commit) → SomeReaches r xs d ⊎ IsTrue (some_reaches (parents_of c) d) → SomeReaches r (xs ++ k ∷ []) d
        back d h = elim h [
          | inl f ↦ any_front (ReachesFrom r d) xs k f
          | inr q ↦ any_end (ReachesFrom r d) xs k (c, e, is_true _ (through_parents c d (passes _ q)))
        ]

    -- with one walk at its end, all that both reach is reached from a mark
    pub left_done : (marks : List Bool) (ys : List ℕ) → AreMeeting r a b old marks [] ys → AddsTips r (reach_both a b) old marks
    left_done marks ys m = marks_more r Among (reach_both a b) old marks (m.long ∙ sym m.began) record {
      keeps = m.keeps;
      only = λ i h. elim (m.only i h) [ inl k ↦ inl k | inr w ↦ inr (w.0, (w.2, (i, w.1, h)), w.1) ];
      all = λ s q i e. subst (IsMarked marks) (same_place name namer r sound (commit_value s) q.1.0 i q.1.1 e) q.1.2;
    } into from
      where
        Among : Commit → Type 0
        Among s = IsTrue (reach_both a b s) × ((i : ℕ) × IsAt r i s × IsMarked marks i)

        into : (s d : Commit) → Among s → T (reaches s d) → T (reach_both a b d)
        into s d q k = both (reaches a d) (reaches b d)
            (reaches_on a s d (passes _ (first_true (reaches a s) (reaches b s) q.0)) k)
            (reaches_on b s d (passes _ (second_true (reaches a s) (reaches b s) q.0)) k)

        from : (d : Commit) → T (reach_both a b d) → (s : Commit) × ((i : ℕ) × IsAt r i s) × Among s × T (reaches s d)
        from d k = elim (m.all d (is_true _ k)) [
          | inl w ↦ (w.0, (w.1, w.2), (w.4, (w.1, w.2, w.3)), passes _ w.5)
          | inr p ↦ absurd p.0
        ]

-- ---- one step of both

all_under : (r : Records) (j k : ℕ) (ys : List ℕ) → j < k → AllByRecursion (IsCommitBefore r j) ys → IsCommitPlace r j → AllByRecursion (IsCommitBefore r k) (ys ++ j ∷ [])
all_under r j k [] l h p = ((l, p), tt)
all_under r j k (y ∷ ys) l h p = (((let m = h.0.0 in omega (arith, l, m)), h.0.1), all_under r j k ys l h.1 p)

pub both_met : (r : Records) (marks : List Bool) (xs ys lefts rights : List ℕ) (k j : ℕ) → lefts ≡ xs ++ k ∷ [] → rights ≡ ys ++ j ∷ [] → k ≡ j
    → AllByRecursion (IsCommitBefore r k) xs → AllByRecursion (IsCommitBefore r j) ys → IsCommitPlace r k → GoesDown r lefts rights marks xs ys (set marks k true) true
both_met r marks xs ys lefts rights k j wl wr e low below place = (
  λ a b old m.
      let m1 = subst (λ zs. AreMeeting r a b old marks zs rights) wl m in
      let m2 = subst (λ zs. AreMeeting r a b old marks (xs ++ k ∷ []) zs) wr m1 in
      let m3 = subst (λ i. AreMeeting r a b old marks (xs ++ k ∷ []) (ys ++ i ∷ [])) (sym e) m2 in
      let within = at_within (values_of r) k (commit_value place.0) place.1 in
      let long = m.long in
      met r a b old marks xs ys k (omega (arith, within, long)) m3,
  (let p = behind_before r k xs low in
      let q = behind_before r j ys below in
      let s : behind_last lefts ≡ suc k = ap behind_last wl ∙ behind_end xs k in
      let t : behind_last rights ≡ suc j = ap behind_last wr ∙ behind_end ys j in
      omega (arith, p, q, s, t)),
)

pub left_down : (name : Kind → List ℕ → List ℕ) (namer : IsNamer name) (r : Records) (sound : IsSound name r) (marks : List Bool) (xs new ys lefts rights kept : List ℕ) (k j : ℕ)
    → lefts ≡ xs ++ k ∷ [] → rights ≡ ys ++ j ∷ [] → kept ≡ ys ++ j ∷ [] → j < k → AllByRecursion (IsCommitBefore r j) ys → IsCommitPlace r k
    → AddsParentsAt r k xs new → AllByRecursion (IsCommitBefore r k) new → GoesDown r lefts rights marks new kept marks true
left_down name namer r sound marks xs new ys lefts rights kept k j wl wr wk l below place adds low = (
  λ a b old m.
      let m1 = subst (λ zs. AreMeeting r a b old marks zs rights) wl m in
      let m2 = subst (λ zs. AreMeeting r a b old marks (xs ++ k ∷ []) zs) wr m1 in
      let other = (all_last (IsCommitPlace r) ys j m2.right_places).1 in
      subst (λ zs. AreMeeting r a b old marks new zs) (sym wk)
      (left_stepped r a b old name namer sound marks xs new (ys ++ j ∷ []) k place.0 place.1 (adds place.0 place.1) low (all_under r j k ys l below other) m2),
  (let p = behind_before r k new low in
      let q : behind_last kept ≡ suc j = ap behind_last wk ∙ behind_end ys j in
      let s : behind_last lefts ≡ suc k = ap behind_last wl ∙ behind_end xs k in
      let t : behind_last rights ≡ suc j = ap behind_last wr ∙ behind_end ys j in
      omega (arith, p, q, s, t)),
)

-- the same of the other walk
pub right_down : (r : Records) (marks : List Bool) (lefts rights kept new : List ℕ) → GoesDown r rights lefts marks new kept marks true → GoesDown r lefts rights marks kept new marks true
right_down r marks lefts rights kept new d = (
  λ a b old m. swapped r b a old marks new kept (d.0 b a old (swapped r a b old marks lefts rights m)),
  (let l = d.1 in omega (arith, l)),
)

-- ---- what is marked in the end

pub all_met : (name : Kind → List ℕ → List ℕ) (namer : IsNamer name) (r : Records) (sound : IsSound name r) (a b : Commit) (old marks : List Bool) (xs ys : List ℕ) → (xs ≡ [] ⊎ ys ≡ []) → AreMeeting r a b old marks xs ys
    → AddsTips r (reach_both a b) old marks
all_met name namer r sound a b old marks xs ys (inl e) m = left_done r a b old name namer sound marks ys (subst (λ zs. AreMeeting r a b old marks zs ys) e m)
all_met name namer r sound a b old marks xs ys (inr e) m =
    same_more r (reach_both b a) (reach_both a b) old marks (λ d. turned (reaches b d) (reaches a d))
    (left_done r b a old name namer sound marks xs (subst (λ zs. AreMeeting r b a old marks zs xs) e (swapped r a b old marks xs ys m)))
  where
    turned : (p q : Bool) → (p && q) ≡ (q && p)
    turned true true = refl
    turned true false = refl
    turned false true = refl
    turned false false = refl

    same_more : (r : Records) (P Q : Commit → Bool) (old marks : List Bool) → ((c : Commit) → P c ≡ Q c) → AddsTips r P old marks → AddsTips r Q old marks
    same_more r P Q old marks h f test t = same_tips r (λ c. test c || P c) (λ c. test c || Q c) marks (λ c. ap (λ x. test c || x) (h c)) (f test t)

pub on_ok : {A E X Y : Type 0} (result : Result A E) → (X → Y) → OnOk result X → OnOk result Y
on_ok (Ok x) f h = f h
on_ok (Err e) f h = tt
