-- Marks of commits: of one more, of the parents of one, and of all that pass a test.
use Rattle.std.proofs.Common.{◌≡◌, ◌≢◌, ℕ, zero, suc, ◌+◌, ◌<◌, ◌≤◌, Bool, true, false, refl, sym, ap, subst, ◌∙◌, arith, List, [], ◌∷◌, length, set, None, Some, ◌⊎◌, inl, inr, get_or-set_same, get_or-set_other}
use Rattle.std.specs.Prelude.{T, slice_index_or}
use Rattle.std.specs.List.{slice_get}
use Rattle.std.proofs.Math.Dec.{eqb}
use Rattle.std.proofs.lemmas.Bool.Decides.{eqb_tells}
use Rattle.gx_model.specs.declared.objects.Kind.{Kind}
use Rattle.gx_model.specs.Histories.Values.{Commit, Commits, Value, commit, commit_value, list_of, more, none, parents_of, same_commit}
use Rattle.gx_model.specs.Objects.{IsNamer}
use Rattle.gx_model.specs.Histories.{Records}
use Rattle.gx_model.specs.Laws.HistoryLaws.{IsParent}
use Rattle.gx_model.specs.Revisions.Ranges.{reaches, some_reaches}
use Rattle.gx_model.specs.Records.Sound.{IsSound}
use Rattle.gx_model.proofs.Texts.PathTests.{one_of}
use Rattle.gx_model.proofs.Histories.SameValues.{commit_is}
use Rattle.gx_model.specs.Histories.Marks.{IsAt, IsMarked, Marks, holds, marks_of}
use Rattle.gx_model.proofs.Records.Standing.{same_place}

-- one of the first n
abbrev pub IsBefore : List Commit → ℕ → Commit → Type 0
IsBefore cs n c = (i : ℕ) × (i < n) × (slice_get cs i ≡ Some c)

-- ---- a mark

-- the mark at one place
pub one_marked : (r : Records) (marks : List Bool) (i : ℕ) (c : Commit) → i < length marks → IsAt r i c → ((j : ℕ) → IsAt r j c → i ≡ j) → Marks r (λ d. d ≡ c) marks (set marks i true)
one_marked r marks i c h e one = record {
  keeps = λ j k. at j (eqb_tells j i) k;
  only = λ j k. by j (eqb_tells j i) k;
  all = λ d s j k. subst (λ n. IsMarked (set marks i true) n) (one j (k ∙ ap (λ u. Some (commit_value u)) s)) (get_or-set_same marks i true false h);
}
  where
    at : (j : ℕ) → ((eqb j i ≡ true) × (j ≡ i)) ⊎ ((eqb j i ≡ false) × (j ≢ i)) → IsMarked marks j → IsMarked (set marks i true) j
    at j (inl t) k = subst (λ n. IsMarked (set marks i true) n) (sym t.1) (get_or-set_same marks i true false h)
    at j (inr f) k = get_or-set_other marks i j true false f.1 ∙ k

    by : (j : ℕ) → ((eqb j i ≡ true) × (j ≡ i)) ⊎ ((eqb j i ≡ false) × (j ≢ i)) → IsMarked (set marks i true) j → IsMarked marks j ⊎ ((d : Commit) × (d ≡ c) × IsAt r j d)
    by j (inl t) k = inr (c, refl, subst (λ n. IsAt r n c) (sym t.1) e)
    by j (inr f) k = inl (sym (get_or-set_other marks i j true false f.1) ∙ k)

-- no mark more
pub same_marked : (r : Records) (cs : List Commit) (marks : List Bool) → Marks r (IsBefore cs 0) marks marks
same_marked r cs marks = record { keeps = λ j k. k; only = λ j k. inl k; all = λ d b j k. absurd (let h = b.1 in omega arith) }

-- one parent more
pub next_marked : (r : Records) (cs : List Commit) (n : ℕ) (c : Commit) (old marks new : List Bool) → slice_get cs n ≡ Some c → Marks r (IsBefore cs n) old marks → Marks r (λ d. d ≡ c) marks new → Marks r (IsBefore cs (n + 1)) old new
next_marked r cs n c old marks new e m k = record {
  keeps = λ j h. k.keeps j (m.keeps j h);
  only = λ j h. elim (k.only j h) [
    | inl a ↦ elim (m.only j a) [
      | inl b ↦ inl b
      | inr b ↦ inr (b.0, (b.1.0, (let l = b.1.1 in omega arith), b.1.2), b.2)
    ]
    | inr a ↦ inr (a.0, (n, omega arith, e ∙ ap Some (sym a.1)), a.2)
  ];
  all = λ d b j h. by d b j h (eqb_tells b.0 n);
}
  where
    by : (d : Commit) (b : IsBefore cs (n + 1) d) (j : ℕ) → IsAt r j d → ((eqb b.0 n ≡ true) × (b.0 ≡ n)) ⊎ ((eqb b.0 n ≡ false) × (b.0 ≢ n)) → IsMarked new j
    by d b j h (inl t) = k.all d (let same : Some d ≡ Some c = sym b.2 ∙ ap (slice_get cs) t.1 ∙ e in cc same) j h
    by d b j h (inr f) = k.keeps j (m.all d (b.0, (let l = b.1 in let o = f.1 in omega arith), b.2) j h)

pub no_next : (r : Records) (cs : List Commit) (n : ℕ) (old marks : List Bool) → slice_get cs n ≡ None → Marks r (IsBefore cs n) old marks → Marks r (IsBefore cs (n + 1)) old marks
no_next r cs n old marks e m = record {
  keeps = m.keeps;
  only = λ j h. elim (m.only j h) [ inl b ↦ inl b | inr b ↦ inr (b.0, (b.1.0, (let l = b.1.1 in omega arith), b.1.2), b.2) ];
  all = λ d b j h. by d b j h (eqb_tells b.0 n);
}
  where
    by : (d : Commit) (b : IsBefore cs (n + 1) d) (j : ℕ) → IsAt r j d → ((eqb b.0 n ≡ true) × (b.0 ≡ n)) ⊎ ((eqb b.0 n ≡ false) × (b.0 ≢ n)) → IsMarked marks j
    by d b j h (inl t) = absurd (let same : Some d ≡ None = sym b.2 ∙ ap (slice_get cs) t.1 ∙ e in cc same)
    by d b j h (inr f) = m.all d (b.0, (let l = b.1 in let o = f.1 in omega arith), b.2) j h

-- ---- parents by their numbers

parent_in : (cs : Commits) (i : ℕ) (p : Commit) → slice_get (list_of cs) i ≡ Some p → IsParent p cs
parent_in none i p e = absurd cc
parent_in (more c cs) zero p e = inl (let same : c ≡ p = cc in same)
parent_in (more c cs) (suc i) p e = inr (parent_in cs i p e)

parent_number : (cs : Commits) (p : Commit) → IsParent p cs → IsBefore (list_of cs) (length (list_of cs)) p
parent_number none p h = absurd h
parent_number (more c cs) p h = elim h [ inl e ↦ (0, omega arith, ap Some e) | inr k ↦ let m = parent_number cs p k in (suc m.0, (let l = m.1 in omega arith), m.2) ]

pub all_parents : (r : Records) (cs : Commits) (n : ℕ) (old new : List Bool) → length (list_of cs) ≤ n → Marks r (IsBefore (list_of cs) n) old new → Marks r (λ p. IsParent p cs) old new
all_parents r cs n old new h m = record {
  keeps = m.keeps;
  only = λ j k. elim (m.only j k) [ inl a ↦ inl a | inr b ↦ inr (b.0, parent_in cs b.1.0 b.0 b.1.2, b.2) ];
  all = λ d p j k. let b = parent_number cs d p in m.all d (b.0, (let l = b.1 in omega arith), b.2) j k;
}

-- ---- what is reached

module _ (Q : Commit → Type 0) (step : (c p : Commit) → Q c → IsParent p (parents_of c) → Q p) where
  mutual
    pub least : (c d : Commit) → Q c → T (reaches c d) → Q d
    least (commit f ps t) d q h =
        one_of (same_commit (commit f ps t) d) (some_reaches ps d) h
        (λ s. subst Q (commit_is (commit f ps t) d s) q)
        (λ s. least_some ps d (λ p k. step (commit f ps t) p q k) s)

    least_some : (cs : Commits) (d : Commit) → ((p : Commit) → IsParent p cs → Q p) → T (some_reaches cs d) → Q d
    least_some none d q h = absurd h
    least_some (more c cs) d q h =
        one_of (reaches c d) (some_reaches cs d) h
        (λ s. least c d (q c (inl refl)) s)
        (λ s. least_some cs d (λ p k. q p (inr k)) s)

-- marks are told place by place
pub marks_are : (marks : List Bool) (vs : List Value) (test : Commit → Bool) → length marks ≡ length vs → ((i : ℕ) (v : Value) → slice_get vs i ≡ Some v → slice_index_or marks i false ≡ holds test v) → marks ≡ marks_of test vs
marks_are [] [] test l h = refl
marks_are [] (v ∷ vs) test l h = absurd (omega arith)
marks_are (m ∷ ms) [] test l h = absurd (omega arith)
marks_are (m ∷ ms) (v ∷ vs) test l h = let e = h 0 v refl in let rest = marks_are ms vs test (omega arith) (λ i w k. h (suc i) w k) in λ i. e i ∷ rest i

module _ (name : Kind → List ℕ → List ℕ) (namer : IsNamer name) (r : Records) (sound : IsSound name r) where
  pub mark_there : (marks : List Bool) (i : ℕ) (c : Commit) → i < length marks → IsAt r i c → Marks r (λ d. d ≡ c) marks (set marks i true)
  mark_there marks i c h e = one_marked r marks i c h e (λ j k. same_place name namer r sound (commit_value c) i j e k)

-- what a mark among all tells
pub mark_tells : (vs : List Value) (test : Commit → Bool) (i : ℕ) (v : Value) (default : Bool) → slice_get vs i ≡ Some v → slice_index_or (marks_of test vs) i default ≡ holds test v
mark_tells [] test i v default e = absurd cc
mark_tells (w ∷ vs) test zero v default e = let same : w ≡ v = cc in ap (holds test) same
mark_tells (w ∷ vs) test (suc i) v default e = mark_tells vs test i v default e
