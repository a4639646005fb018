-- Tips that hand out numbers, and commits that are given theirs, one after the other.
use Rattle.std.proofs.Common.{◌≡◌, ℕ, zero, suc, ◌+◌, ◌<◌, ◌≤◌, Bool, true, false, refl, sym, ap, subst, ◌∙◌, arith, List, [], ◌∷◌, ◌++◌, length, take, Some, None, inl, inr, ◌⊎◌}
use Rattle.std.specs.Prelude.{nat_lt, ◌&&◌, ◌||◌}
use Rattle.std.specs.List.{AllByRecursion, slice_get}
use Rattle.std.specs.List.Sorted.{IsStrictlySortedBy}
use Rattle.std.proofs.lemmas.Bool.{le-ltb, lt-ltb, ltb-false, ltb-true}
use Rattle.std.proofs.lemmas.List.Folds.{list_any_more}
use Rattle.std.proofs.lemmas.Option.{get_or_from_slice_get, slice_get_within}
use Rattle.gx_model.specs.declared.objects.Kind.{Kind}
use Rattle.gx_model.specs.declared.objects.Kind.TheVariants as kinds
use Rattle.gx_model.specs.Histories.{Records}
use Rattle.gx_model.specs.Histories.Marks.{IsAt}
use Rattle.gx_model.specs.Histories.Values.{Commit, commit_value}
use Rattle.gx_model.specs.Laws.RepositoryLaws.{values_of}
use Rattle.gx_model.specs.Objects.{IsNamer}
use Rattle.gx_model.specs.Records.Sound.{IsSound}
use Rattle.gx_model.specs.Revisions.Ranges.{reaches}
use Rattle.gx_model.specs.Texts.{Bytes}
use Rattle.gx_model.proofs.Records.HeldPlaces.{held_place}
use Rattle.gx_model.proofs.Records.HeldValues.{commit_held}
use Rattle.gx_model.proofs.Records.Standing.{as_many, at_within, commit_at_place, same_place}
use Rattle.gx_object.specs.declared.name.Name.{Name}
use Rattle.gx_objects.specs.Answers.{GoesUp}
use Rattle.gx_ranges.specs.Fronts.{AreBelow, IsTip}
use Rattle.gx_ranges.proofs.Reached.{or_none}
use Rattle.gx_ranges.proofs.Tips.{number_of}
use Rattle.gx_rev.specs.Objects.{IsHeldAs, commit_at}
use Rattle.gx_tips.specs.Spans.{AreNewestFirst}
use Rattle.gx_tips.specs.declared.tips.Tip.{Tip}
use Rattle.gx_branches.specs.Ranks.{AreRanked, AreRanks, HandsDown, HoldTips, IsRank, Lowers, Ranked, all_unranked, lead_below, rank_there, tips_reach}
use Rattle.gx_branches.proofs.RankedFronts.{rank_is}

pub held_at : {X : Type 0} (P : X → Type 0) (xs : List X) (i : ℕ) (x : X) → slice_get xs i ≡ Some x → AllByRecursion P xs → P x
held_at P [] i x e h = absurd cc
held_at P (y ∷ xs) zero x e h = let same : y ≡ x = cc in subst P same h.0
held_at P (y ∷ xs) (suc i) x e h = held_at P xs i x e h.1

-- what a list has behind its end, for the prover
abbrev pub no_name : Name
no_name = record { bytes = [] }

abbrev pub no_tip : Tip
no_tip = record { name = record { ref_ptr = (0, 0); now = [] }; object = no_name; commit = no_name; place = 0 }

-- ---- tips

-- the first tips handed out their numbers
pub record HoldFirst (stands : ℕ → ℕ) (tips : List Tip) (number : ℕ) (front : List Ranked) (r : Records) : Type 0 where
  pub ranked : AreRanked stands front r
  pub passed : (limit : ℕ) (d : Commit) → limit ≤ number → lead_below r front limit d ≡ tips_reach r (take limit tips) d
  pub ahead : (limit : ℕ) (d : Commit) → number ≤ limit → lead_below r front limit d ≡ tips_reach r (take number tips) d

none_reach : (r : Records) (tips : List Tip) (d : Commit) → false ≡ tips_reach r (take 0 tips) d
none_reach r [] d = refl
none_reach r (x ∷ xs) d = refl

no_ranked : (stands : ℕ → ℕ) (r : Records) → AreRanked stands [] r
unfolding IsStrictlySortedBy
no_ranked stands r = record { tips = tt; order = tt }

pub hold_none : (stands : ℕ → ℕ) (tips : List Tip) (r : Records) → HoldFirst stands tips 0 [] r
hold_none stands tips r = record {
  ranked = no_ranked stands r;
  passed = λ limit d l. let e : 0 ≡ limit = omega (arith, l) in none_reach r tips d ∙ ap (λ n. tips_reach r (take n tips) d) e;
  ahead = λ limit d l. none_reach r tips d;
}

pub hold_next : (stands : ℕ → ℕ) (tips : List Tip) (number : ℕ) (tip : Tip) (old new : List Ranked) (r : Records) → slice_get tips number ≡ Some tip → HoldFirst stands tips number old r
    → Lowers stands (reaches (commit_at r tip.commit)) number old new r → HoldFirst stands tips (number + 1) new r
hold_next stands tips number tip old new r e h l = record {
  ranked = l.ranked;
  passed = λ limit d m. by limit d m (nat_lt number limit) refl;
  ahead = λ limit d m. next limit d (let k : number < limit = omega (arith, m) in k);
}
  where
    next : (limit : ℕ) (d : Commit) → number < limit → lead_below r new limit d ≡ tips_reach r (take (number + 1) tips) d
    next limit d m =
        l.leads limit d ∙ ap (λ b. lead_below r old limit d || (b && reaches (commit_at r tip.commit) d)) (lt-ltb number limit m)
        ∙ ap (λ b. b || reaches (commit_at r tip.commit) d) (h.ahead limit d (omega (arith, m)))
        ∙ ap (λ t. tips_reach r (take number tips) d || reaches (commit_at r t.commit) d) (sym (get_or_from_slice_get tips number tip tip e))
        ∙ sym (list_any_more (λ t. reaches (commit_at r t.commit) d) tips number tip (slice_get_within tips number tip e))

    before : (limit : ℕ) (d : Commit) → limit ≤ number → lead_below r new limit d ≡ tips_reach r (take limit tips) d
    before limit d m =
        l.leads limit d ∙ ap (λ b. lead_below r old limit d || (b && reaches (commit_at r tip.commit) d)) (le-ltb number limit m) ∙ or_none _ ∙ h.passed limit d m

    by : (limit : ℕ) (d : Commit) → limit ≤ number + 1 → (b : Bool) → nat_lt number limit ≡ b → lead_below r new limit d ≡ tips_reach r (take limit tips) d
    by limit d m true f =
        let k = ltb-true number limit f in
        let last : number + 1 ≡ limit = omega (arith, m, k) in
        next limit d k ∙ ap (λ n. tips_reach r (take n tips) d) last
    by limit d m false f = let k = ltb-false number limit f in before limit d k

pub hold_all : (stands : ℕ → ℕ) (tips : List Tip) (number : ℕ) (front : List Ranked) (r : Records) → length tips ≤ number → HoldFirst stands tips number front r → HoldTips stands tips r front
hold_all stands tips number front r l h = record { ranked = h.ranked; leads = λ limit d m. h.passed limit d (omega (arith, l, m)) }

-- ---- commits

-- the first commits were given their numbers, and the others are still reached as they were
pub record RanksFirst (stands : ℕ → ℕ) (first : List Ranked) (count : ℕ) (names : List Name) (number : ℕ) (now : List Ranked) (ranks : List ℕ) (r : Records) : Type 0 where
  pub ranked : AreRanked stands now r
  pub long : length ranks ≡ number
  pub within : number ≤ length names
  pub each : (i : ℕ) (commit : Name) (rank : ℕ) → slice_get names i ≡ Some commit → slice_get ranks i ≡ Some rank → IsRank first count r (commit_at r commit) rank
  pub still : (i : ℕ) (commit : Name) (limit : ℕ) → number ≤ i → slice_get names i ≡ Some commit → lead_below r now limit (commit_at r commit) ≡ lead_below r first limit (commit_at r commit)

pub ranks_none : (stands : ℕ → ℕ) (first : List Ranked) (count : ℕ) (names : List Name) (r : Records) → AreRanked stands first r → RanksFirst stands first count names 0 first [] r
ranks_none stands first count names r a = record {
  ranked = a;
  long = refl;
  within = omega arith;
  each = λ i commit rank e f. absurd (let o : None ≡ Some rank = f in cc o);
  still = λ i commit limit l e. refl;
}

appended : (xs : List ℕ) (x i y : ℕ) → slice_get (xs ++ x ∷ []) i ≡ Some y → (slice_get xs i ≡ Some y) ⊎ ((i ≡ length xs) × (x ≡ y))
appended [] x zero y e = inr (refl, cc)
appended [] x (suc i) y e = absurd cc
appended (w ∷ xs) x zero y e = inl e
appended (w ∷ xs) x (suc i) y e = elim (appended xs x i y e) [ inl a ↦ inl a | inr a ↦ inr (ap suc a.0, a.1) ]

longer : (xs : List ℕ) (x : ℕ) → length (xs ++ x ∷ []) ≡ length xs + 1
longer [] x = refl
longer (y ∷ xs) x = let rest = longer xs x in omega (arith, rest)

module _ (name : Kind → Bytes → Bytes) (namer : IsNamer name) (r : Records) (sound : IsSound name r) (stands : ℕ → ℕ) (order : GoesUp stands (length r.records)) where
  -- a later commit stands before an earlier one
  later_stands : (names : List Name) (i j : ℕ) (n m : Name) (place : ℕ) → AreNewestFirst names r → i < j → slice_get names i ≡ Some n → slice_get names j ≡ Some m → IsTip stands r (place, n)
      → (l : ℕ) × IsAt r l (commit_at r m) × (stands l < place)
  later_stands names i j n m place h l e f t =
      let held = held_at (IsHeldAs kinds.Commit r) names j m f h.commits in
      let there = held_place name namer r sound m.bytes (commit_held name namer r sound m.bytes held) in
      let at = commit_at_place name namer r sound m.bytes there.0 held there.2 in
      let own = held_place name namer r sound n.bytes (commit_held name namer r sound n.bytes t.0) in
      let k = number_of name namer r sound stands order (place, n) t in
      let same = same_place name namer r sound (commit_value (commit_at r n)) k.0 own.0 k.1 (commit_at_place name namer r sound n.bytes own.0 t.0 own.2) in
      let low = h.order i j own.0 there.0 n m l e f own.1 there.1 in
      let within : own.0 < length r.records = (let w = at_within (values_of r) k.0 (commit_value (commit_at r n)) k.1 in let c = as_many name namer r sound in omega (arith, same, w, c)) in
      let up = order there.0 own.0 low within in
      let q = ap stands same in
      let s = k.2 in (there.0, at, omega (arith, up, q, s))

  pub ranks_next : (first : List Ranked) (count : ℕ) (names : List Name) (number : ℕ) (commit : Name) (place : ℕ) (now new : List Ranked) (ranks more : List ℕ)
      → slice_get names number ≡ Some commit → IsTip stands r (place, commit) → AreNewestFirst names r → HandsDown stands place now new r → AreBelow (suc place) (all_unranked new)
      → more ≡ ranks ++ rank_there new place count ∷ [] → RanksFirst stands first count names number now ranks r → RanksFirst stands first count names (number + 1) new more r
  ranks_next first count names number commit place now new ranks more e t h down b m w = record {
    ranked = down.ranked;
    long = ap length m ∙ longer ranks (rank_there new place count) ∙ ap (λ n. n + 1) w.long;
    within = (let l = slice_get_within names number commit e in omega (arith, l));
    each = λ i n rank f g. elim (appended ranks (rank_there new place count) i rank (sym (ap (λ xs. slice_get xs i) m) ∙ g)) [
      | inl a ↦ w.each i n rank f a
      | inr a ↦ subst (IsRank first count r (commit_at r n)) a.1 (subst (λ q. IsRank first count r (commit_at r q) (rank_there new place count)) (named i n f (a.0 ∙ w.long)) here)
    ];
    still = λ i n limit l f.
        let s = later_stands names number i commit n place h (omega (arith, l)) e f t in
        down.same limit s.0 (commit_at r n) s.1 (let u = s.2 in omega (arith, u)) ∙ w.still i n limit (omega (arith, l)) f;
  }
    where
      named : (i : ℕ) (n : Name) → slice_get names i ≡ Some n → i ≡ number → commit ≡ n
      named i n f s = let o : Some commit ≡ Some n = sym e ∙ ap (slice_get names) (sym s) ∙ f in cc o

      here : IsRank first count r (commit_at r commit) (rank_there new place count)
      here limit l =
          let k = number_of name namer r sound stands order (place, commit) t in
          rank_is name namer r sound stands order place count new down.ranked b k.0 (commit_at r commit) k.1 k.2 limit l
          ∙ down.same limit k.0 (commit_at r commit) k.1 (let s = k.2 in omega (arith, s)) ∙ w.still number commit limit (omega arith) e

pub ranks_all : (stands : ℕ → ℕ) (first : List Ranked) (count : ℕ) (names : List Name) (number : ℕ) (now : List Ranked) (ranks : List ℕ) (r : Records) → length names ≤ number
    → RanksFirst stands first count names number now ranks r → AreRanks first count names r ranks
ranks_all stands first count names number now ranks r l w = record { long = (let a = w.long in let b = w.within in omega (arith, l, a, b)); each = w.each }
