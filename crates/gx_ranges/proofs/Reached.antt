-- What commits reach, as tests, and where it stands.
use Rattle.std.proofs.Common.{◌≡◌, ℕ, zero, suc, ◌+◌, ◌≤◌, Bool, true, false, refl, sym, ap, ◌∙◌, arith, List, [], ◌∷◌, ◌++◌, take, length, Some, None, inl, inr, ◌⊎◌}
use Rattle.std.specs.Prelude.{IsTrue, ◌||◌}
use Rattle.std.specs.Bool.{passes}
use Rattle.std.specs.List.{list_any, slice_get}
use Rattle.std.proofs.lemmas.List.Folds.{list_any-append}
use Rattle.gx_model.specs.declared.objects.Kind.{Kind}
use Rattle.gx_model.specs.Histories.Values.{Commit, Commits, commit, commit_value, list_of, more, none, parents_of, same_commit}
use Rattle.gx_model.specs.Objects.{IsNamer}
use Rattle.gx_model.specs.Histories.{Records}
use Rattle.gx_model.specs.Histories.Marks.{IsAt}
use Rattle.gx_model.specs.Revisions.Ranges.{reaches, some_reaches}
use Rattle.gx_model.specs.Records.Sound.{IsSound}
use Rattle.gx_model.specs.Texts.{Bytes}
use Rattle.gx_model.proofs.Histories.SameValues.{commit_is}
use Rattle.gx_model.proofs.Records.Standing.{parent_before, same_place}
use Rattle.gx_model.proofs.Revisions.Marking.{least}
use Rattle.gx_model.proofs.Texts.PathTests.{is_true}
use Rattle.gx_rev.proofs.Tips.{reaches_on}

-- ---- tests

pub or_turned : (a b : Bool) → (a || b) ≡ (b || a)
or_turned true true = refl
or_turned true false = refl
or_turned false true = refl
or_turned false false = refl

pub or_none : (a : Bool) → (a || false) ≡ a
or_none true = refl
or_none false = refl

pub or_joined : (a b c : Bool) → ((a || b) || c) ≡ (a || (b || c))
or_joined true b c = refl
or_joined false b c = refl

-- one test more, put first or last
pub or_passed : (a b c : Bool) → (a || (b || c)) ≡ ((b || c) || a)
or_passed a b c = or_turned a (b || c)

pub or_first : (a b : Bool) → IsTrue a → IsTrue (a || b)
or_first true b h = refl
or_first false b h = absurd cc

pub or_second : (a b : Bool) → IsTrue b → IsTrue (a || b)
or_second true b h = refl
or_second false b h = h

pub or_either : (a b : Bool) → IsTrue (a || b) → IsTrue a ⊎ IsTrue b
or_either true b h = inl refl
or_either false b h = inr h

pub true_or_false : (a : Bool) → IsTrue a ⊎ (a ≡ false)
true_or_false true = inl refl
true_or_false false = inr refl

pub same_tests : (a b : Bool) → (IsTrue a → IsTrue b) → (IsTrue b → IsTrue a) → a ≡ b
same_tests true b f g = sym (f refl)
same_tests false true f g = g refl
same_tests false false f g = refl

-- ---- commits

pub one_commit : (r : Records) (i : ℕ) (c d : Commit) → IsAt r i c → IsAt r i d → c ≡ d
one_commit r i c d e f = let o : Some (commit_value c) ≡ Some (commit_value d) = sym e ∙ f in cc o

pub reaches_further : (a b c : Commit) → IsTrue (reaches a b) → IsTrue (reaches b c) → IsTrue (reaches a c)
reaches_further a b c h k = is_true _ (reaches_on a b c (passes _ h) (passes _ k))

-- a commit reaches itself, and what its parents reach
pub reaches_by : (c d : Commit) → IsTrue (reaches c d) → (c ≡ d) ⊎ IsTrue (some_reaches (parents_of c) d)
reaches_by (commit f ps t) d h = elim (or_either (same_commit (commit f ps t) d) (some_reaches ps d) h) [
  | inl s ↦ inl (commit_is (commit f ps t) d (passes _ s))
  | inr k ↦ inr k
]

pub by_parents : (c d : Commit) → IsTrue (some_reaches (parents_of c) d) → IsTrue (reaches c d)
by_parents (commit f ps t) d h = or_second (same_commit (commit f ps t) d) (some_reaches ps d) h

-- whether one of the first parents reaches a commit
abbrev pub first_reach : Commits → ℕ → Commit → Bool
first_reach cs n d = list_any (λ p. reaches p d) (take n (list_of cs))

all_reach : (cs : Commits) (d : Commit) → list_any (λ p. reaches p d) (list_of cs) ≡ some_reaches cs d
all_reach none d = refl
all_reach (more c cs) d = ap (λ b. reaches c d || b) (all_reach cs d)

taken_all : {X : Type 0} (xs : List X) (n : ℕ) → length xs ≤ n → take n xs ≡ xs
taken_all [] zero h = refl
taken_all [] (suc n) h = refl
taken_all (x ∷ xs) zero h = absurd (omega arith)
taken_all (x ∷ xs) (suc n) h = ap (λ ys. x ∷ ys) (taken_all xs n (omega arith))

taken_more : {X : Type 0} (xs : List X) (n : ℕ) (x : X) → slice_get xs n ≡ Some x → take (suc n) xs ≡ take n xs ++ x ∷ []
taken_more [] n x e = absurd cc
taken_more (y ∷ ys) zero x e = let same : y ≡ x = cc in ap (λ z. z ∷ []) same
taken_more (y ∷ ys) (suc n) x e = ap (λ zs. y ∷ zs) (taken_more ys n x e)

taken_same : {X : Type 0} (xs : List X) (n : ℕ) → slice_get xs n ≡ None → take (suc n) xs ≡ take n xs
taken_same [] zero e = refl
taken_same [] (suc n) e = refl
taken_same (y ∷ ys) zero e = absurd cc
taken_same (y ∷ ys) (suc n) e = ap (λ zs. y ∷ zs) (taken_same ys n e)

pub no_first : (cs : Commits) (d : Commit) → first_reach cs 0 d ≡ false
no_first none d = refl
no_first (more c cs) d = refl

pub first_more : (cs : Commits) (n : ℕ) (p d : Commit) → slice_get (list_of cs) n ≡ Some p → first_reach cs (n + 1) d ≡ (first_reach cs n d || reaches p d)
first_more cs n p d e =
    let s : n + 1 ≡ suc n = omega arith in
    ap (λ m. first_reach cs m d) s ∙ ap (list_any (λ q. reaches q d)) (taken_more (list_of cs) n p e)
    ∙ list_any-append (λ q. reaches q d) (take n (list_of cs)) (p ∷ []) ∙ ap (λ b. first_reach cs n d || b) (or_none (reaches p d))

pub first_same : (cs : Commits) (n : ℕ) (d : Commit) → slice_get (list_of cs) n ≡ None → first_reach cs (n + 1) d ≡ first_reach cs n d
first_same cs n d e =
    let s : n + 1 ≡ suc n = omega arith in
    ap (λ m. first_reach cs m d) s ∙ ap (list_any (λ q. reaches q d)) (taken_same (list_of cs) n e)

pub first_all : (cs : Commits) (n : ℕ) (d : Commit) → length (list_of cs) ≤ n → first_reach cs n d ≡ some_reaches cs d
first_all cs n d h = ap (list_any (λ q. reaches q d)) (taken_all (list_of cs) n h) ∙ all_reach cs d

-- what a commit reaches stands no later
module _ (name : Kind → Bytes → Bytes) (namer : IsNamer name) (r : Records) (sound : IsSound name r) where
  pub reached_at : (c d : Commit) (i : ℕ) → IsAt r i c → IsTrue (reaches c d) → (j : ℕ) × (j ≤ i) × IsAt r j d
  reached_at c d i e h =
      least (λ b. (k : ℕ) × (k ≤ i) × IsAt r k b) (λ b p q k. let w = parent_before name namer r sound b p q.0 q.2 k in (w.0, (let l = w.1 in let m = q.1 in omega arith), w.2)) c d (i, omega arith, e) (passes _ h)

  pub reached_before : (c d : Commit) (i j : ℕ) → IsAt r i c → IsAt r j d → IsTrue (reaches c d) → j ≤ i
  reached_before c d i j e f h =
      let w = reached_at c d i e h in
      let s = same_place name namer r sound (commit_value d) w.0 j w.2 f in
      let l = w.1 in omega arith
