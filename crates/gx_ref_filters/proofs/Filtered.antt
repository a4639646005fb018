-- Filters one after the other: what each keeps of what those before it kept.
use Rattle.std.proofs.Common.{◌≡◌, ℕ, zero, suc, ◌+◌, ◌<◌, drop, get_or, length, map, Bool, true, false, cond, refl, sym, ap, subst, ◌∙◌, arith, List, [], ◌∷◌, ◌++◌, Option, Some, None, Result, Ok, Err}
use Rattle.std.specs.Prelude.{IfSome, ◌&&◌}
use Rattle.std.specs.List.{filter, list_all}
use Rattle.gx_model.specs.declared.objects.Kind.{Kind}
use Rattle.gx_model.specs.Faults.{Given, ◌>>=◌}
use Rattle.gx_model.specs.Histories.{Records, Target}
use Rattle.gx_model.specs.Records.HistoryOf.{history_of}
use Rattle.gx_model.specs.Revisions.Ranges.{WordFault, each_from}
use Rattle.gx_model.specs.Texts.{Bytes}
use Rattle.gx_questions.specs.Answers.{Refuses}
use Rattle.gx_questions.specs.declared.fault.AskFault.{AskFault}
use Rattle.gx_questions.specs.declared.fault.AskFault.TheVariants.{OutOfMemory, ReadFailed, Damaged, Revision}
use Rattle.gx_ranges.specs.Answers.{RefusesWord, refused_at}
use Rattle.gx_print.proofs.ReadWords.{AreRead, all_read, next_fails, next_read}
use Rattle.gx_rev.specs.RevFaults.{fault_of}
use Rattle.gx_tips.specs.Tips.{AreAllRefs, AreTips, IsTip, targets}
use Rattle.gx_tips.specs.declared.tips.Tip.{Tip}
use Rattle.gx_tips.proofs.SetRefs.{all_targets}
use Rattle.gx_asks.specs.declared.question.RefFilter.{RefFilter}
use Rattle.gx_ref_filters.specs.Filters.{AreKept, Filter, kept_refs, passing_refs, shown_filter, test_of}
use Rattle.gx_ref_filters.specs.Patterns.{is_named}
use Rattle.gx_ref_filters.proofs.Kept.{kept_so}

-- ---- lists

with_true : (a : Bool) → a ≡ (a && true)
with_true true = refl
with_true false = refl

and_joined : (a b c : Bool) → ((a && b) && c) ≡ (a && (b && c))
and_joined true b c = refl
and_joined false b c = refl

filter_alike : {X : Type 0} (p q : X → Bool) → ((x : X) → p x ≡ q x) → (xs : List X) → filter p xs ≡ filter q xs
filter_alike p q f xs = λ i. filter (λ x. f x i) xs

filter_twice : {X : Type 0} (p q : X → Bool) (xs : List X) → filter q (filter p xs) ≡ filter (λ x. p x && q x) xs
filter_twice p q [] = refl
filter_twice p q (x ∷ xs) = elim (p x) as (λ b. filter q (cond b (x ∷ filter p xs) (filter p xs)) ≡ cond (b && q x) (x ∷ filter (λ y. p y && q y) xs) (filter (λ y. p y && q y) xs)) [
  | true ↦ ap (λ ys. cond (q x) (x ∷ ys) ys) (filter_twice p q xs)
  | false ↦ filter_twice p q xs
]

drops_one : {X : Type 0} (xs : List X) (i : ℕ) (d : X) → i < length xs → drop i xs ≡ get_or xs i d ∷ drop (i + 1) xs
drops_one [] i d l = absurd (omega (arith, l))
drops_one (x ∷ xs) zero d l = refl
drops_one (x ∷ xs) (suc i) d l = let s : suc i + 1 ≡ suc (i + 1) = omega arith in rw s (drops_one xs i d (omega (arith, l)))

-- one test more
test_more : (tests : List (Target → Bool)) (test : Target → Bool) (held : Target) → (list_all (λ t. t held) tests && test held) ≡ list_all (λ t. t held) (tests ++ test ∷ [])
test_more [] test held = with_true (test held)
test_more (t ∷ ts) test held = and_joined (t held) (list_all (λ u. u held) ts) (test held) ∙ ap (λ b. t held && b) (test_more ts test held)

-- nothing was read yet
none_read : {X Y : Type 0} (f : X → Given Y) (all : List X) → AreRead f all all 0 []
none_read f all = by (each_from 1 f all)
  where
    by : {Y : Type 0} (r : Result (List Y) WordFault) → r ≡ (r >>= λ ys. Ok ([] ++ ys))
    by (Ok ys) = refl
    by (Err e) = refl

-- ---- filters

-- refs that a filter keeps of others
abbrev pub IsPassed : (Kind → Bytes → Bytes) → (ℕ → ℕ) → Filter → List Tip → List Tip → Records → Type 0
IsPassed name stands asked refs passed r = (test : Target → Bool) × (test_of name (history_of r) asked ≡ Ok test) × AreKept stands (λ ref. test ref.1) refs r passed

module _ (name : Kind → Bytes → Bytes) (stands : ℕ → ℕ) (patterns : List Bytes) (all : List Filter) (refs : List Tip) where
  -- whether a name matches, and a target passes these tests
  abbrev pub passes : List (Target → Bool) → Bytes × Target → Bool
  passes tests ref = is_named patterns ref.0 && list_all (λ test. test ref.1) tests

  -- the first filters gave tests, which these refs pass
  abbrev pub AreFiltered : List Filter → ℕ → List Tip → Records → Type 0
  AreFiltered left count kept r =
      (tests : List (Target → Bool)) × AreRead (test_of name (history_of r)) all left count tests × AreKept stands (passes tests) refs r kept

  pub none_filtered : (told : Option Records) (kept : List Tip) → kept ≡ filter (λ tip. is_named patterns tip.name.now) refs → IfSome told (λ r. AreAllRefs stands r refs) → IfSome told (AreFiltered all 0 kept)
  none_filtered None kept e a = tt
  none_filtered (Some r) kept e a = (
    [],
    none_read (test_of name (history_of r)) all,
    kept_so stands r (IsTip stands r) (λ tip. is_named patterns tip.name.now) (passes []) refs kept (λ tip t. with_true (is_named patterns tip.name.now)) a.each a.each e,
  )

  pub filtered_tips : (told : Option Records) (left : List Filter) (count : ℕ) (kept : List Tip) → IfSome told (AreFiltered left count kept) → IfSome told (AreTips stands kept)
  filtered_tips None left count kept f = tt
  filtered_tips (Some r) left count kept f = f.2.each

  module _ (asked : Filter) (now left : List Filter) (count : ℕ) (kept : List Tip) (from : now ≡ asked ∷ left) where
    pub next_filtered : (told : Option Records) (passed : List Tip) → IfSome told (AreFiltered now count kept)
        → IfSome told (λ r. (test : Target → Bool) × (test_of name (history_of r) asked ≡ Ok test) × AreKept stands (λ ref. test ref.1) kept r passed) → IfSome told (AreFiltered left (count + 1) passed)
    next_filtered None passed f p = tt
    next_filtered (Some r) passed f p = (
      f.0 ++ p.0 ∷ [],
      next_read (test_of name (history_of r)) all left asked count f.0 p.0 p.1 (subst (λ fs. AreRead (test_of name (history_of r)) all fs count f.0) from f.1),
      record {
        kept = p.2.kept ∙ ap (filter (λ ref. p.0 ref.1)) f.2.kept ∙ filter_twice (passes f.0) (λ ref. p.0 ref.1) (targets r refs)
            ∙ filter_alike (λ ref. passes f.0 ref && p.0 ref.1) (passes (f.0 ++ p.0 ∷ []))
            (λ ref. and_joined (is_named patterns ref.0) (list_all (λ test. test ref.1) f.0) (p.0 ref.1) ∙ ap (λ b. is_named patterns ref.0 && b) (test_more f.0 p.0 ref.1)) (targets r refs);
        each = p.2.each;
      },
    )

    pub next_refused : (told : Option Records) (kind : AskFault) (at : ℕ) → at ≡ count + 1 → IfSome told (AreFiltered now count kept) → Refuses told (λ r. test_of name (history_of r) asked) kind
        → RefusesWord told (λ r. kept_refs name (history_of r) all patterns) (refused_at at kind).word (refused_at at kind).kind
    unfolding kept_refs
    next_refused told OutOfMemory at e f h = refl
    next_refused told ReadFailed at e f h = refl
    next_refused told Damaged at e f h = (refl, h)
    next_refused None (Revision g) at e f h = tt
    next_refused (Some r) (Revision g) at e f h =
        ap (λ given. given >>= λ tests. Ok (passing_refs (history_of r) patterns tests))
        (next_fails (test_of name (history_of r)) all left asked count f.0 (fault_of g) h (subst (λ fs. AreRead (test_of name (history_of r)) all fs count f.0) from f.1)
        ∙ ap (λ n. Err (record { word = n; fault = fault_of g })) (let s : 1 + count ≡ at = omega (arith, e) in s))

  -- the next of the filters that the code has
  module _ (filters : List RefFilter) (place : ℕ) (d : RefFilter) (kept : List Tip) (l : place < length filters) where
    from_there : map shown_filter (drop place filters) ≡ shown_filter (get_or filters place d) ∷ map shown_filter (drop (place + 1) filters)
    from_there = ap (map shown_filter) (drops_one filters place d l)

    pub filter_passed : (told : Option Records) (given passed : List Tip) → given ≡ kept → IfSome told (AreFiltered (map shown_filter (drop place filters)) place kept)
        → IfSome told (IsPassed name stands (shown_filter (get_or filters place d)) given passed) → IfSome told (AreFiltered (map shown_filter (drop (place + 1) filters)) (place + 1) passed)
    filter_passed told given passed e f p =
        next_filtered (shown_filter (get_or filters place d)) (map shown_filter (drop place filters)) (map shown_filter (drop (place + 1) filters)) place kept from_there told passed f
        (subst (λ xs. IfSome told (IsPassed name stands (shown_filter (get_or filters place d)) xs passed)) e p)

    pub filter_refused : (told : Option Records) (kind : AskFault) (at : ℕ) → at ≡ place + 1 → IfSome told (AreFiltered (map shown_filter (drop place filters)) place kept)
        → Refuses told (λ r. test_of name (history_of r) (shown_filter (get_or filters place d))) kind
        → RefusesWord told (λ r. kept_refs name (history_of r) all patterns) (refused_at at kind).word (refused_at at kind).kind
    filter_refused = next_refused (shown_filter (get_or filters place d)) (map shown_filter (drop place filters)) (map shown_filter (drop (place + 1) filters)) place kept from_there

  pub all_filtered : (told : Option Records) (left : List Filter) (count : ℕ) (kept : List Tip) → left ≡ [] → IfSome told (λ r. AreAllRefs stands r refs) → IfSome told (AreFiltered left count kept)
      → IfSome told (λ r. (kept_refs name (history_of r) all patterns ≡ Ok (targets r kept)) × AreTips stands kept r)
  unfolding kept_refs
  all_filtered None left count kept e a f = tt
  all_filtered (Some r) left count kept e a f = (
    ap (λ given. given >>= λ tests. Ok (passing_refs (history_of r) patterns tests)) (all_read (test_of name (history_of r)) all count f.0 (subst (λ fs. AreRead (test_of name (history_of r)) all fs count f.0) e f.1))
        ∙ ap Ok (ap (filter (passes f.0)) (sym (all_targets stands r refs a)) ∙ sym f.2.kept),
    f.2.each,
  )
