-- Tips that are added, and tips that are spread by one pass over the values from the last to the first.
use Rattle.std.proofs.Common.{◌≡◌, ◌≢◌, ℕ, zero, suc, ◌+◌, ◌<◌, ◌≤◌, Bool, true, false, refl, sym, ap, subst, ◌∙◌, arith, List, [], ◌∷◌, length, replicate, Some, ◌⊎◌, inl, inr}
use Rattle.std.proofs.lemmas.List.{length-replicate}
use Rattle.std.specs.Prelude.{T, ◌||◌, slice_index_or}
use Rattle.std.specs.Bool.{passes}
use Rattle.std.specs.List.{slice_get}
use Rattle.std.proofs.Math.Dec.{eqb}
use Rattle.std.proofs.lemmas.Bool.Decides.{eqb_tells}
use Rattle.gx_model.specs.declared.objects.Kind.{Kind}
use Rattle.gx_model.specs.Histories.Values.{Commit, Commits, Value, blob_value, commit_value, more, none, parents_of, tag_value, tree_value}
use Rattle.gx_model.specs.Objects.{IsNamer}
use Rattle.gx_model.specs.Histories.{Records}
use Rattle.gx_model.specs.Laws.HistoryLaws.{IsParent}
use Rattle.gx_model.specs.Histories.Marks.{IsAt, IsMarked, Marks, holds, marks_of}
use Rattle.gx_model.specs.Revisions.Ranges.{no_commit, reaches, some_reaches}
use Rattle.gx_model.specs.Laws.RepositoryLaws.{values_of}
use Rattle.gx_model.specs.Records.Sound.{IsSound}
use Rattle.gx_model.proofs.Revisions.Marking.{least, marks_are}
use Rattle.gx_model.proofs.Texts.PathTests.{is_true, left_or, one_of, right_or}
use Rattle.gx_model.proofs.Histories.ReachedCommits.{closed, itself}
use Rattle.gx_model.proofs.Records.Standing.{parent_before, same_place}
use Rattle.gx_rev.specs.Tips.{AddsTips, AreTips}

-- ---- what is reached

pub reaches_on : (a b c : Commit) → T (reaches a b) → T (reaches b c) → T (reaches a c)
reaches_on a b c h k = least (λ d. T (reaches a d)) (λ d p q l. closed a d p q l) b c h k

-- what some commits reach is reached from one of them
reached_from : (cs : Commits) (d : Commit) → T (some_reaches cs d) → (p : Commit) × IsParent p cs × T (reaches p d)
reached_from none d h = absurd h
reached_from (more c cs) d h =
    one_of (reaches c d) (some_reaches cs d) h
    (λ k. (c, inl refl, k))
    (λ k. let f = reached_from cs d k in (f.0, inr f.1, f.2))

reached_through : (cs : Commits) (p d : Commit) → IsParent p cs → T (reaches p d) → T (some_reaches cs d)
reached_through none p d h k = absurd h
reached_through (more c cs) p d h k =
    elim h [
      | inl e ↦ left_or (reaches c d) (some_reaches cs d) (subst (λ q. T (reaches q d)) (sym e) k)
      | inr l ↦ right_or (reaches c d) (some_reaches cs d) (reached_through cs p d l k)
    ]

-- ---- tips that are added

pub same_tips : (r : Records) (P Q : Commit → Bool) (marks : List Bool) → ((c : Commit) → P c ≡ Q c) → AreTips r P marks → AreTips r Q marks
same_tips r P Q marks h a = subst (λ test. AreTips r test marks) (λ i c. h c i) a

none_marked : (n i : ℕ) → IsMarked (replicate n false) i → ⊥
none_marked zero i h = cc
none_marked (suc n) zero h = cc
none_marked (suc n) (suc i) h = none_marked n i h

-- with no mark nothing is reached
pub no_tips : (r : Records) (marks : List Bool) → marks ≡ replicate (length (values_of r)) false → AreTips r no_commit marks
no_tips r marks e = record {
  long = ap length e ∙ length-replicate (length (values_of r)) false;
  only = λ i h. absurd (none_marked (length (values_of r)) i (subst (λ ms. IsMarked ms i) e h));
  all = λ d h. absurd (let f : false ≡ true = h in cc f);
}

or_false : (b : Bool) → b ≡ (b || false)
or_false true = refl
or_false false = refl

pub none_more : (r : Records) (marks : List Bool) → AddsTips r no_commit marks marks
none_more r marks test a = same_tips r test (λ c. test c || false) marks (λ c. or_false (test c)) a

pub or_assoc : (a b c : Bool) → ((a || b) || c) ≡ (a || (b || c))
or_assoc true b c = refl
or_assoc false b c = refl

pub both_more : (r : Records) (P Q : Commit → Bool) (old marks new : List Bool) → AddsTips r P old marks → AddsTips r Q marks new → AddsTips r (λ c. P c || Q c) old new
both_more r P Q old marks new f g test a = same_tips r (λ c. (test c || P c) || Q c) (λ c. test c || (P c || Q c)) new (λ c. or_assoc (test c) (P c) (Q c)) (g (λ c. test c || P c) (f test a))

-- marks of some commits more, each at a place, that reach the commits that pass
pub marks_more : (r : Records) (Among : Commit → Type 0) (Q : Commit → Bool) (old new : List Bool) → length new ≡ length old → Marks r Among old new
    → ((s d : Commit) → Among s → T (reaches s d) → T (Q d)) → ((d : Commit) → T (Q d) → (s : Commit) × ((i : ℕ) × IsAt r i s) × Among s × T (reaches s d)) → AddsTips r Q old new
marks_more r Among Q old new l m into from test a = record {
  long = l ∙ a.long;
  only = λ i h. elim (m.only i h) [
    | inl b ↦ let t = a.only i b in (t.0, t.1, λ d k. is_true _ (left_or (test d) (Q d) (passes _ (t.2 d k))))
    | inr b ↦ (b.0, b.2, λ d k. is_true _ (right_or (test d) (Q d) (into b.0 d b.1 (passes _ k))))
  ];
  all = λ d h. one_of (test d) (Q d) (passes _ h)
      (λ k. let t = a.all d (is_true _ k) in (t.0, t.1, t.2, m.keeps t.1 t.3, t.4))
      (λ k. let f = from d k in (f.0, f.1.0, f.1.1, m.all f.0 f.2 f.1.0 f.1.1, is_true _ f.3));
}

-- one commit more
pub commit_more : (r : Records) (c : Commit) (i : ℕ) (old new : List Bool) → IsAt r i c → length new ≡ length old → Marks r (λ d. d ≡ c) old new → AddsTips r (reaches c) old new
commit_more r c i old new e l m = marks_more r (λ d. d ≡ c) (reaches c) old new l m (λ s d f k. subst (λ u. T (reaches u d)) f k) (λ d k. (c, (i, e), refl, k))

-- what is marked is what the tips reach, so far: marked commits from a place on have their parents marked
pub record AreSpread (r : Records) (tips marks : List Bool) (left : ℕ) : Type 0 where
  pub kept : (test : Commit → Bool) → AreTips r test tips → AreTips r test marks
  pub parents : (i : ℕ) (c p : Commit) → left ≤ i → IsMarked marks i → IsAt r i c → IsParent p (parents_of c) → (j : ℕ) → IsAt r j p → IsMarked marks j

marked_within : (marks : List Bool) (i : ℕ) → IsMarked marks i → i < length marks
marked_within [] i h = absurd cc
marked_within (m ∷ ms) zero h = omega arith
marked_within (m ∷ ms) (suc i) h = let k = marked_within ms i h in omega arith

pub none_spread : (r : Records) (marks : List Bool) → AreSpread r marks marks (length marks)
none_spread r marks = record {
  kept = λ test a. a;
  parents = λ i c p h k e q j l. absurd (let o = marked_within marks i k in omega arith);
}

module _ (name : Kind → List ℕ → List ℕ) (namer : IsNamer name) (r : Records) (sound : IsSound name r) where
  -- the parents of a commit more
  pub parents_more : (c : Commit) (i : ℕ) (old new : List Bool) → IsAt r i c → length new ≡ length old → Marks r (λ p. IsParent p (parents_of c)) old new → AddsTips r (some_reaches (parents_of c)) old new
  parents_more c i old new e l m =
      marks_more r (λ p. IsParent p (parents_of c)) (some_reaches (parents_of c)) old new l m (λ s d p k. reached_through (parents_of c) s d p k)
      (λ d k. let f = reached_from (parents_of c) d k in let w = parent_before name namer r sound c f.0 i e f.1 in (f.0, (w.0, w.2), f.1, f.2))

  -- ---- one pass

  -- a place that isn't marked is passed
  pub passed : (tips marks : List Bool) (left : ℕ) → slice_index_or marks left false ≡ false → AreSpread r tips marks (left + 1) → AreSpread r tips marks left
  passed tips marks left f a = record {
    kept = a.kept;
    parents = λ i c p h k e q j l. elim (eqb_tells i left) [
      | inl t ↦ absurd (let s : true ≡ false = sym k ∙ ap (λ n. slice_index_or marks n false) t.1 ∙ f in cc s)
      | inr o ↦ a.parents i c p (let n = o.1 in omega arith) k e q j l
    ];
  }

  -- the parents of a marked commit are marked
  pub spread_one : (here : Commit) (tips marks new : List Bool) (left : ℕ) → IsMarked marks left → IsAt r left here → length new ≡ length marks → Marks r (λ p. IsParent p (parents_of here)) marks new → AreSpread r tips marks (left + 1) → AreSpread r tips new left
  spread_one here tips marks new left h e l m a = record {
    kept = λ test t. still test (a.kept test t);
    parents = λ i c p g k f q j o. by i c p g k f q j o (eqb_tells i left);
  }
    where
      from_parent : (p d : Commit) → IsParent p (parents_of here) → T (reaches p d) → T (reaches here d)
      from_parent p d q k = reaches_on here p d (closed here here p (itself here) q) k

      from_here : (test : Commit → Bool) → AreTips r test marks → (d : Commit) → T (reaches here d) → T (test d)
      from_here test t d k =
          let s = t.only left h in
          let same : s.0 ≡ here = (let o : Some (commit_value s.0) ≡ Some (commit_value here) = sym s.1 ∙ e in cc o) in
          passes _ (s.2 d (is_true _ (subst (λ u. T (reaches u d)) (sym same) k)))

      still : (test : Commit → Bool) → AreTips r test marks → AreTips r test new
      still test t = record {
        long = l ∙ t.long;
        only = λ i k. elim (m.only i k) [
          | inl b ↦ t.only i b
          | inr b ↦ (b.0, b.2, λ d q. is_true _ (from_here test t d (from_parent b.0 d b.1 (passes _ q))))
        ];
        all = λ d q. let s = t.all d q in (s.0, s.1, s.2, m.keeps s.1 s.3, s.4);
      }

      by : (i : ℕ) (c p : Commit) → left ≤ i → IsMarked new i → IsAt r i c → IsParent p (parents_of c) → (j : ℕ) → IsAt r j p → ((eqb i left ≡ true) × (i ≡ left)) ⊎ ((eqb i left ≡ false) × (i ≢ left)) → IsMarked new j
      by i c p g k f q j o (inl t) =
          let same : c ≡ here = (let u : Some (commit_value c) ≡ Some (commit_value here) = sym f ∙ ap (slice_get (values_of r)) t.1 ∙ e in cc u) in
          m.all p (subst (λ d. IsParent p (parents_of d)) same q) j o
      by i c p g k f q j o (inr u) = elim (m.only i k) [
        | inl b ↦ m.keeps j (a.parents i c p (let n = u.1 in omega arith) b f q j o)
        | inr b ↦ absurd (
            let w = parent_before name namer r sound here b.0 left e b.1 in
            let s = same_place name namer r sound (commit_value b.0) i w.0 b.2 w.2 in
            let n = w.1 in omega arith)
      ]

  -- from a place on, what is marked is what the tips reach
  pub spread_above : (test : Commit → Bool) (tips marks : List Bool) (left : ℕ) → AreTips r test tips → AreSpread r tips marks left → (i : ℕ) (d : Commit) → left ≤ i → IsAt r i d → slice_index_or marks i false ≡ test d
  spread_above test tips marks left t a i d h e = by (slice_index_or marks i false) refl (test d) refl
    where
      reached_there : T (test d) → (j : ℕ) × IsAt r j d × (left ≤ j → IsMarked marks j)
      reached_there k =
          let s = (a.kept test t).all d (is_true _ k) in
          least (λ c. (j : ℕ) × IsAt r j c × (left ≤ j → IsMarked marks j))
          (λ c p q k. let w = parent_before name namer r sound c p q.0 q.1 k in (w.0, w.2, λ l. let n = w.1 in a.parents q.0 c p (omega (arith, l, n)) (q.2 (omega (arith, l, n))) q.1 k w.0 w.2)) s.0 d (s.1, s.2, λ l. s.3) (passes _ s.4)

      by : (b : Bool) → slice_index_or marks i false ≡ b → (c : Bool) → test d ≡ c → slice_index_or marks i false ≡ test d
      by true f true g = f ∙ sym g
      by false f false g = f ∙ sym g
      by true f false g = absurd (
          let w = (a.kept test t).only i f in
          let same : w.0 ≡ d = (let o : Some (commit_value w.0) ≡ Some (commit_value d) = sym w.1 ∙ e in cc o) in
          let o : true ≡ false = sym (w.2 d (is_true _ (subst (λ c. T (reaches c d)) (sym same) (itself d)))) ∙ g in cc o)
      by false f true g = absurd (
          let w = reached_there (passes _ g) in
          let s = same_place name namer r sound (commit_value d) w.0 i w.1 e in
          let o : true ≡ false = sym (w.2 (omega (arith, h, s))) ∙ ap (λ n. slice_index_or marks n false) s ∙ f in cc o)

  -- in the end all that the tips reach is marked
  pub all_spread : (test : Commit → Bool) (tips marks : List Bool) → AreTips r test tips → AreSpread r tips marks 0 → marks ≡ marks_of test (values_of r)
  all_spread test tips marks t a = marks_are marks (values_of r) test (a.kept test t).long by
    where
      other : (i : ℕ) (v : Value) → slice_get (values_of r) i ≡ Some v → ((c : Commit) → Some v ≡ Some (commit_value c) → ⊥) → (b : Bool) → slice_index_or marks i false ≡ b → slice_index_or marks i false ≡ false
      other i v e n false f = f
      other i v e n true f = let w = (a.kept test t).only i f in absurd (n w.0 (sym e ∙ w.1))

      by : (i : ℕ) (v : Value) → slice_get (values_of r) i ≡ Some v → slice_index_or marks i false ≡ holds test v
      by i (blob_value x) e = other i (blob_value x) e (λ c k. cc k) (slice_index_or marks i false) refl
      by i (tree_value x) e = other i (tree_value x) e (λ c k. cc k) (slice_index_or marks i false) refl
      by i (tag_value x) e = other i (tag_value x) e (λ c k. cc k) (slice_index_or marks i false) refl
      by i (commit_value d) e = spread_above test tips marks 0 t a i d (omega arith) e
