-- Steps that lead from place to place.
use Rattle.std.proofs.Common.{◌≡◌, ℕ, Bool, true, false, cond, refl, sym, ap, ◌∙◌, arith, List, [], ◌∷◌, ◌++◌, inl, inr}
use Rattle.std.specs.Prelude.{IsTrue, ◌&&◌, ◌||◌, nat_eq}
use Rattle.std.specs.BTreeMap.{is_at}
use Rattle.std.specs.BTreeSet.{BTreeSet, contains}
use Rattle.std.specs.List.{list_any}
use Rattle.std.specs.Ordering.{nat_cmp}
use Rattle.std.proofs.lemmas.Bool.{and_from, and_parts, eq-eqb, eqb-true}
use Rattle.std.proofs.lemmas.Bool.Decides.{nat_tests}
use Rattle.gx_ranges.proofs.Reached.{or_either, or_first, or_none, or_second}
use Rattle.gx_tips.proofs.Places.{IsAdded}
use Rattle.gx_ref_filters.specs.Steps.{AreLeading, Step, leads_by}

-- ---- places

pub same_place : (k q : ℕ) → IsTrue (nat_eq k q) → k ≡ q
same_place k q h = eqb-true k q h

pub at_itself : (k : ℕ) → IsTrue (nat_eq k k)
at_itself k = eq-eqb k k refl

pub at_same : (k q : ℕ) → k ≡ q → IsTrue (nat_eq k q)
at_same k q e = eq-eqb k q e

at_equal : (k q : ℕ) → is_at (nat_cmp k) q ≡ nat_eq k q
at_equal k q = grind (arith, nat_tests)

-- ---- steps

-- steps behind others lead on
pub led_on : (test : ℕ → Bool) (xs ys : List Step) (q : ℕ) → leads_by test (xs ++ ys) q ≡ leads_by (leads_by test ys) xs q
led_on test [] ys q = refl
led_on test (x ∷ xs) ys q =
    ap (λ b. b || (nat_eq x.0 q && leads_by test (xs ++ ys) x.1)) (led_on test xs ys q)
    ∙ ap (λ b. leads_by (leads_by test ys) xs q || (nat_eq x.0 q && b)) (led_on test xs ys x.1)

-- where more places pass, no fewer lead there
pub led_further : (p q : ℕ → Bool) → ((k : ℕ) → IsTrue (p k) → IsTrue (q k)) → (xs : List Step) (k : ℕ) → IsTrue (leads_by p xs k) → IsTrue (leads_by q xs k)
led_further p q f [] k h = f k h
led_further p q f (x ∷ xs) k h = elim (or_either (leads_by p xs k) (nat_eq x.0 k && leads_by p xs x.1) h) [
  | inl a ↦ or_first (leads_by q xs k) (nat_eq x.0 k && leads_by q xs x.1) (led_further p q f xs k a)
  | inr a ↦
      let w = and_parts (nat_eq x.0 k) (leads_by p xs x.1) a in
      or_second (leads_by q xs k) (nat_eq x.0 k && leads_by q xs x.1) (and_from (nat_eq x.0 k) (leads_by q xs x.1) w.0 (led_further p q f xs x.1 w.1))
]

pub led_alike : (p q : ℕ → Bool) → ((k : ℕ) → p k ≡ q k) → (xs : List Step) (k : ℕ) → leads_by p xs k ≡ leads_by q xs k
led_alike p q f [] k = f k
led_alike p q f (x ∷ xs) k =
    ap (λ b. b || (nat_eq x.0 k && leads_by p xs x.1)) (led_alike p q f xs k) ∙ ap (λ b. leads_by q xs k || (nat_eq x.0 k && b)) (led_alike p q f xs x.1)

-- a place that passes leads there
pub led_at : (p : ℕ → Bool) (xs : List Step) (k : ℕ) → IsTrue (p k) → IsTrue (leads_by p xs k)
led_at p [] k h = h
led_at p (x ∷ xs) k h = or_first (leads_by p xs k) (nat_eq x.0 k && leads_by p xs x.1) (led_at p xs k h)

-- ---- the set of places

-- the places that were found lead on by what is left as all steps lead to a place
abbrev pub AreLeft : ℕ → List Step → List Step → BTreeSet ℕ → Type 0
AreLeft place all left places = (from : ℕ) → leads_by (contains nat_cmp places) left from ≡ leads_by (nat_eq place) all from

module _ (place : ℕ) (all : List Step) where
  pub first_place : (old new : BTreeSet ℕ) → old.keys ≡ [] → IsAdded place old new → AreLeft place all all new
  first_place old new e added = led_alike (contains nat_cmp new) (nat_eq place) here all
    where
      none : (q : ℕ) → contains nat_cmp old q ≡ false
      none q = ap (list_any (is_at (nat_cmp q))) e

      here : (q : ℕ) → contains nat_cmp new q ≡ nat_eq place q
      here q = added q ∙ ap (cond (is_at (nat_cmp place) q) true) (none q) ∙ by (is_at (nat_cmp place) q) ∙ at_equal place q
        where
          by : (b : Bool) → cond b true false ≡ b
          by true = refl
          by false = refl

  module _ (left rest : List Step) (above below : ℕ) (old : BTreeSet ℕ) (was : left ≡ rest ++ (above, below) ∷ []) (so : AreLeft place all left old) where
    -- the last step goes, with the places that it adds
    step_gone : (new : BTreeSet ℕ) → ((q : ℕ) → leads_by (contains nat_cmp old) ((above, below) ∷ []) q ≡ contains nat_cmp new q) → AreLeft place all rest new
    step_gone new f from =
        sym (led_alike (leads_by (contains nat_cmp old) ((above, below) ∷ [])) (contains nat_cmp new) f rest from)
        ∙ sym (led_on (contains nat_cmp old) rest ((above, below) ∷ []) from)
        ∙ ap (λ xs. leads_by (contains nat_cmp old) xs from) (sym was) ∙ so from

    pub place_added : (new : BTreeSet ℕ) → contains nat_cmp old below ≡ true → IsAdded above old new → AreLeft place all rest new
    place_added new h added = step_gone new (λ q. ap (λ b. contains nat_cmp old q || (nat_eq above q && b)) h ∙ by (nat_eq above q) (contains nat_cmp old q) ∙ ap (λ b. cond b true (contains nat_cmp old q)) (sym (at_equal above q)) ∙ sym (added q))
      where
        by : (b c : Bool) → (c || (b && true)) ≡ cond b true c
        by true true = refl
        by true false = refl
        by false true = refl
        by false false = refl

    pub place_passed : contains nat_cmp old below ≡ false → AreLeft place all rest old
    place_passed h = step_gone old (λ q. ap (λ b. contains nat_cmp old q || (nat_eq above q && b)) h ∙ by (nat_eq above q) (contains nat_cmp old q))
      where
        by : (b c : Bool) → (c || (b && false)) ≡ c
        by true c = or_none c
        by false c = or_none c

  pub all_gone : (left : List Step) (places : BTreeSet ℕ) → left ≡ [] → AreLeft place all left places → AreLeading place all places
  all_gone left places e so = λ from. ap (λ xs. leads_by (contains nat_cmp places) xs from) (sym e) ∙ so from
