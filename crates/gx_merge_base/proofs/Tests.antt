-- Tests of the commits of lists.
use Rattle.std.proofs.Common.{◌≡◌, ℕ, zero, suc, Bool, true, false, refl, sym, ap, subst, ◌∙◌, List, [], ◌∷◌, ◌++◌, map, Some, inl, inr}
use Rattle.std.specs.Prelude.{IsTrue, ◌&&◌, ◌||◌, reverse}
use Rattle.std.specs.List.{AllByRecursion, filter_map, list_all, list_any, slice_get}
use Rattle.std.proofs.lemmas.Grind.{reverse_onto}
use Rattle.std.proofs.lemmas.List.Folds.{list_any-append}
use Rattle.gx_model.specs.Histories.Values.{Commit, Value, blob_value, commit_of, commit_value, tag_value, tree_value}
use Rattle.gx_ranges.proofs.Reached.{or_either, or_first, or_none, or_second, or_turned}

pub both_of : (a b : Bool) → IsTrue (a && b) → IsTrue a × IsTrue b
both_of true b h = (refl, h)
both_of false b h = absurd cc

pub both_if : (a b : Bool) → IsTrue a → IsTrue b → IsTrue (a && b)
both_if true b h k = k
both_if false b h k = absurd cc

pub and_joined : (a b c : Bool) → ((a && b) && c) ≡ (a && (b && c))
and_joined true b c = refl
and_joined false b c = refl

pub and_all : (a : Bool) → (a && true) ≡ a
and_all true = refl
and_all false = refl

-- something passes
pub some_passing : {X : Type 0} (p : X → Bool) (xs : List X) → IsTrue (list_any p xs) → (x : X) × IsTrue (p x)
some_passing p [] h = absurd cc
some_passing p (x ∷ xs) h = elim (or_either (p x) (list_any p xs) h) [ inl a ↦ (x, a) | inr a ↦ some_passing p xs a ]

-- the same of a list as it is turned
pub any_turned : {X : Type 0} (p : X → Bool) (xs : List X) → list_any p (reverse xs) ≡ list_any p xs
any_turned p [] = refl
any_turned p (x ∷ xs) =
    ap (list_any p) (reverse_onto xs x [])
    ∙ list_any-append p (reverse xs) (x ∷ [])
    ∙ ap (λ b. b || (p x || false)) (any_turned p xs)
    ∙ ap (λ b. list_any p xs || b) (or_none (p x))
    ∙ or_turned (list_any p xs) (p x)

pub any_mapped : {X Y : Type 0} (p : Y → Bool) (f : X → Y) (xs : List X) → list_any p (map f xs) ≡ list_any (λ x. p (f x)) xs
any_mapped p f [] = refl
any_mapped p f (x ∷ xs) = ap (λ b. p (f x) || b) (any_mapped p f xs)

pub all_mapped : {X Y : Type 0} (p : Y → Bool) (f : X → Y) (xs : List X) → list_all p (map f xs) ≡ list_all (λ x. p (f x)) xs
all_mapped p f [] = refl
all_mapped p f (x ∷ xs) = ap (λ b. p (f x) && b) (all_mapped p f xs)

-- a commit that stands among values passes
pub any_commit : (p : Commit → Bool) (vs : List Value) (i : ℕ) (c : Commit) → slice_get vs i ≡ Some (commit_value c) → IsTrue (p c) → IsTrue (list_any p (filter_map commit_of vs))
any_commit p [] i c e h = absurd cc
any_commit p (commit_value d ∷ vs) zero c e h = let same : d ≡ c = cc in or_first (p d) (list_any p (filter_map commit_of vs)) (subst (λ x. IsTrue (p x)) (sym same) h)
any_commit p (commit_value d ∷ vs) (suc i) c e h = or_second (p d) (list_any p (filter_map commit_of vs)) (any_commit p vs i c e h)
any_commit p (blob_value x ∷ vs) zero c e h = absurd cc
any_commit p (blob_value x ∷ vs) (suc i) c e h = any_commit p vs i c e h
any_commit p (tree_value x ∷ vs) zero c e h = absurd cc
any_commit p (tree_value x ∷ vs) (suc i) c e h = any_commit p vs i c e h
any_commit p (tag_value x ∷ vs) zero c e h = absurd cc
any_commit p (tag_value x ∷ vs) (suc i) c e h = any_commit p vs i c e h

-- what holds of all holds of one of them
pub holds_behind : {X : Type 0} (P : X → Type 0) (xs : List X) (y : X) (ys : List X) → AllByRecursion P (xs ++ y ∷ ys) → P y
holds_behind P [] y ys h = h.0
holds_behind P (x ∷ xs) y ys h = holds_behind P xs y ys h.1
