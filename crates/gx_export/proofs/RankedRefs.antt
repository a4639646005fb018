-- Ranks of refs, one list of marks for each rank: what is marked for a rank is what the refs up to it reach.
use Rattle.std.proofs.Common.{◌≡◌, ◌∙◌, ℕ, zero, suc, ◌+◌, ◌<◌, ◌≤◌, Bool, true, false, List, [], ◌∷◌, ◌++◌, length, take, get_or, replicate, None, Some, refl, sym, ap, subst, arith, set, length-set}
use Rattle.std.specs.Prelude.{min, nat_le, slice_index_or, ◌||◌}
use Rattle.std.specs.List.{slice_get}
use Rattle.std.proofs.lemmas.List.{length-map, take_all}
use Rattle.std.proofs.Math.Nat.{lt_of_not-le}
use Rattle.std.proofs.lemmas.Bool.{leb-true, le-leb, true≢false}
use Rattle.gx_model.specs.declared.objects.Kind.{Kind}
use Rattle.gx_model.specs.Export.{is_reached}
use Rattle.gx_model.specs.Histories.Marks.{IsAt, IsMarked, Marks}
use Rattle.gx_model.specs.Histories.Values.{Commit, Commits, list_of, parents_of}
use Rattle.gx_model.specs.Histories.{Records, Target}
use Rattle.gx_model.specs.Laws.HistoryLaws.{IsParent}
use Rattle.gx_model.specs.Laws.RepositoryLaws.{values_of}
use Rattle.gx_model.specs.Objects.{IsNamer}
use Rattle.gx_model.specs.Records.Sound.{IsSound}
use Rattle.gx_model.specs.Replay.{peeled_at}
use Rattle.gx_model.specs.Revisions.Ranges.{reaches}
use Rattle.gx_model.specs.Texts.{Bytes}
use Rattle.gx_model.proofs.Revisions.Marking.{IsBefore, all_parents, mark_there, next_marked, no_next, same_marked}
use Rattle.gx_rev.specs.Tips.{AreTips}
use Rattle.gx_rev.proofs.Tips.{AreSpread, commit_more, no_tips, none_spread, or_assoc, passed, same_tips, spread_above, spread_one}
use Rattle.gx_export.specs.Branches.{AreRanked, HaveTips, IsLowered, at_most}

-- ---- one rank

gt_from : (i k : ℕ) → (i ≤ k → ⊥) → k < i
gt_from i k n = lt_of_not-le n

at_set : (k : ℕ) (ranks : List ℕ) (i v : ℕ) → at_most k (set ranks i v) ≡ set (at_most k ranks) i (nat_le v k)
at_set k [] i v = refl
at_set k (r ∷ ranks) zero v = refl
at_set k (r ∷ ranks) (suc i) v = ap (λ rs. nat_le r k ∷ rs) (at_set k ranks i v)

-- the mark for one rank
pub at_place : (k : ℕ) (ranks : List ℕ) (i : ℕ) → i < length ranks → slice_index_or (at_most k ranks) i false ≡ nat_le (get_or ranks i 0) k
at_place k [] i h = absurd (omega (arith, h))
at_place k (r ∷ ranks) zero h = refl
at_place k (r ∷ ranks) (suc i) h = at_place k ranks i (omega (arith, h))

set_same : (xs : List Bool) (i : ℕ) (b : Bool) → slice_index_or xs i false ≡ b → i < length xs → set xs i b ≡ xs
set_same [] i b e h = refl
set_same (x ∷ xs) zero b e h = ap (λ y. y ∷ xs) (sym e)
set_same (x ∷ xs) (suc i) b e h = ap (λ ys. x ∷ ys) (set_same xs i b e (omega (arith, h)))

below_both : (a b k v : ℕ) → v ≡ min a b → k < b → nat_le v k ≡ nat_le a k
below_both a b k v e h = by (nat_le a k) refl (nat_le v k) refl
  where
    by : (s : Bool) → nat_le a k ≡ s → (t : Bool) → nat_le v k ≡ t → nat_le v k ≡ nat_le a k
    by true i true j = j ∙ sym i
    by false i false j = j ∙ sym i
    by true i false j =
        let l = leb-true a k i in
        let m : v ≤ k = omega (arith, l, e) in
        absurd (true≢false (sym (le-leb v k m) ∙ j))
    by false i true j =
        let l = leb-true v k j in
        let m : a ≤ k = omega (arith, l, e, h) in
        absurd (true≢false (sym (le-leb a k m) ∙ i))

module _ (name : Kind → List ℕ → List ℕ) (namer : IsNamer name) (r : Records) (sound : IsSound name r) where
  -- the rank of the commit at a place
  pub lowered : (c : Commit) (ranks : List ℕ) (place rank v : ℕ) → IsAt r place c → place < length ranks → v ≡ min (get_or ranks place 0) rank → IsLowered r (λ d. d ≡ c) rank ranks (set ranks place v)
  lowered c ranks place rank v at within e = record {
    long = length-set ranks place v;
    marks = λ k h.
        let marked : nat_le v k ≡ true = le-leb v k (omega (arith, e, h)) in
        let within' : place < length (at_most k ranks) = omega (arith, within, length-map ranks (λ x. nat_le x k)) in
        subst (Marks r (λ d. d ≡ c) (at_most k ranks)) (sym (at_set k ranks place v ∙ ap (set (at_most k ranks) place) marked))
        (mark_there name namer r sound (at_most k ranks) place c within' at);
    same = λ k h.
        let within' : place < length (at_most k ranks) = omega (arith, within, length-map ranks (λ x. nat_le x k)) in
        at_set k ranks place v ∙ set_same (at_most k ranks) place (nat_le v k) (at_place k ranks place within ∙ sym (below_both (get_or ranks place 0) rank k v e h)) within';
  }

-- ---- refs, one after the other

reached_more : (refs : List (Bytes × Target)) (ref : Bytes × Target) (d : Commit) → (is_reached refs d || reaches (peeled_at ref.1) d) ≡ is_reached (refs ++ ref ∷ []) d
reached_more [] ref d = or_false (reaches (peeled_at ref.1) d)
  where
    or_false : (b : Bool) → (false || b) ≡ (b || false)
    or_false true = refl
    or_false false = refl
reached_more (q ∷ refs) ref d = or_assoc (reaches (peeled_at q.1) d) (is_reached refs d) (reaches (peeled_at ref.1) d) ∙ ap (λ b. reaches (peeled_at q.1) d || b) (reached_more refs ref d)

-- the refs up to a rank, of those that were passed
abbrev passed_refs : ℕ → ℕ → List (Bytes × Target) → List (Bytes × Target)
passed_refs i k refs = take i (take (k + 1) refs)

next_passed : (i k : ℕ) (refs : List (Bytes × Target)) (ref : Bytes × Target) → slice_get refs i ≡ Some ref → i ≤ k → passed_refs (i + 1) k refs ≡ passed_refs i k refs ++ ref ∷ []
next_passed i k refs ref e h = let one : i + 1 ≡ suc i = omega arith in let two : k + 1 ≡ suc k = omega arith in ap (λ n. take n (take (k + 1) refs)) one ∙ ap (λ n. take (suc i) (take n refs)) two ∙ by i k refs e h ∙ ap (λ n. take i (take n refs) ++ ref ∷ []) (sym two)
  where
    by : (i k : ℕ) (refs : List (Bytes × Target)) → slice_get refs i ≡ Some ref → i ≤ k → take (suc i) (take (suc k) refs) ≡ take i (take (suc k) refs) ++ ref ∷ []
    by i k [] e h = absurd (cc e)
    by zero k (x ∷ refs) e h = let same : x ≡ ref = cc e in ap (λ y. y ∷ []) same
    by (suc i) zero (x ∷ refs) e h = absurd (omega (arith, h))
    by (suc i) (suc k) (x ∷ refs) e h = ap (λ ys. x ∷ ys) (by i k refs e (omega (arith, h)))

no_more_passed : (i k : ℕ) (refs : List (Bytes × Target)) → k < i → passed_refs (i + 1) k refs ≡ passed_refs i k refs
no_more_passed i k refs h =
    take_all (i + 1) (take (k + 1) refs) (omega (arith, h, length_take (k + 1) refs)) ∙ sym (take_all i (take (k + 1) refs) (omega (arith, h, length_take (k + 1) refs)))
  where
    length_take : (n : ℕ) (xs : List (Bytes × Target)) → length (take n xs) ≤ n
    length_take zero [] = omega arith
    length_take zero (x ∷ xs) = omega arith
    length_take (suc n) [] = omega arith
    length_take (suc n) (x ∷ xs) = omega (arith, length_take n xs)

-- up to each rank, what the refs that were passed reach
pub record ArePassed (r : Records) (refs : List (Bytes × Target)) (ranks : List ℕ) (i : ℕ) : Type 0 where
  pub long : length ranks ≡ length (values_of r)
  pub tips : (k : ℕ) → k < length refs → AreTips r (is_reached (passed_refs i k refs)) (at_most k ranks)

none_at_most : (k n m : ℕ) → k < n → at_most k (replicate m n) ≡ replicate m false
none_at_most k n zero h = refl
none_at_most k n (suc m) h =
    let none : nat_le n k ≡ false = above (nat_le n k) refl in
    λ i. none i ∷ none_at_most k n m h i
  where
    above : (b : Bool) → nat_le n k ≡ b → nat_le n k ≡ false
    above false e = e
    above true e = absurd (let l = leb-true n k e in omega (arith, l, h))

long_replicate : (m n : ℕ) → length (replicate {A = ℕ} m n) ≡ m
long_replicate zero n = refl
long_replicate (suc m) n = omega (arith, long_replicate m n)

-- no ref was passed yet
pub none_passed : (r : Records) (refs : List (Bytes × Target)) (ranks : List ℕ) → ranks ≡ replicate (length (values_of r)) (length refs) → ArePassed r refs ranks 0
none_passed r refs ranks e = record {
  long = ap length e ∙ long_replicate (length (values_of r)) (length refs);
  tips = λ k h. no_tips r (at_most k ranks) (ap (at_most k) e ∙ none_at_most k (length refs) (length (values_of r)) h);
}

-- one ref more, whose commit has its rank
pub next_ranked : (r : Records) (refs : List (Bytes × Target)) (ref : Bytes × Target) (c : Commit) (i place : ℕ) (ranks new : List ℕ) → slice_get refs i ≡ Some ref → c ≡ peeled_at ref.1 → IsAt r place c → IsLowered r (λ d. d ≡ c) i ranks new → ArePassed r refs ranks i → ArePassed r refs new (i + 1)
next_ranked r refs ref c i place ranks new e p at l a = record {
  long = l.long ∙ a.long;
  tips = λ k h. by k h (nat_le i k) refl;
}
  where
    longs : (k : ℕ) → length (at_most k new) ≡ length (at_most k ranks)
    longs k = length-map new (λ x. nat_le x k) ∙ l.long ∙ sym (length-map ranks (λ x. nat_le x k))

    by : (k : ℕ) → k < length refs → (b : Bool) → nat_le i k ≡ b → AreTips r (is_reached (passed_refs (i + 1) k refs)) (at_most k new)
    by k h true j =
        let le = leb-true i k j in
        let more = commit_more r c place (at_most k ranks) (at_most k new) at (longs k) (l.marks k le) (is_reached (passed_refs i k refs)) (a.tips k h) in
        subst (λ rs. AreTips r (is_reached rs) (at_most k new)) (sym (next_passed i k refs ref e le))
        (same_tips r (λ d. is_reached (passed_refs i k refs) d || reaches c d) (is_reached (passed_refs i k refs ++ ref ∷ [])) (at_most k new) (λ d. ap (λ t. is_reached (passed_refs i k refs) d || reaches t d) p ∙ reached_more (passed_refs i k refs) ref d) more)
    by k h false j =
        let lt : k < i = below (nat_le i k) j in
        subst (λ rs. AreTips r (is_reached rs) (at_most k new)) (sym (no_more_passed i k refs lt)) (subst (AreTips r (is_reached (passed_refs i k refs))) (sym (l.same k lt)) (a.tips k h))
      where
        below : (b : Bool) → nat_le i k ≡ false → k < i
        below b f = gt_from i k (λ m. true≢false (sym (le-leb i k m) ∙ f))

-- all refs were passed
pub all_ranked : (r : Records) (refs : List (Bytes × Target)) (ranks : List ℕ) (i : ℕ) → length refs ≤ i → ArePassed r refs ranks i → HaveTips r refs ranks
all_ranked r refs ranks i h a = record {
  long = a.long;
  tips = λ k l. subst (λ rs. AreTips r (is_reached rs) (at_most k ranks)) (take_all i (take (k + 1) refs) (omega (arith, h, short (k + 1) refs))) (a.tips k l);
}
  where
    short : (n : ℕ) (xs : List (Bytes × Target)) → length (take n xs) ≤ length xs
    short zero [] = omega arith
    short zero (x ∷ xs) = omega arith
    short (suc n) [] = omega arith
    short (suc n) (x ∷ xs) = omega (arith, short n xs)

-- ---- parents

-- commits of a list, one after the other
pub lowered_none : (r : Records) (cs : List Commit) (rank : ℕ) (ranks : List ℕ) → IsLowered r (IsBefore cs 0) rank ranks ranks
lowered_none r cs rank ranks = record { long = refl; marks = λ k h. same_marked r cs (at_most k ranks); same = λ k h. refl }

pub lowered_next : (r : Records) (cs : List Commit) (n rank : ℕ) (c : Commit) (old ranks new : List ℕ) → slice_get cs n ≡ Some c → IsLowered r (IsBefore cs n) rank old ranks → IsLowered r (λ d. d ≡ c) rank ranks new → IsLowered r (IsBefore cs (n + 1)) rank old new
lowered_next r cs n rank c old ranks new e a b = record {
  long = b.long ∙ a.long;
  marks = λ k h. next_marked r cs n c (at_most k old) (at_most k ranks) (at_most k new) e (a.marks k h) (b.marks k h);
  same = λ k h. b.same k h ∙ a.same k h;
}

pub lowered_passed : (r : Records) (cs : List Commit) (n rank : ℕ) (old ranks : List ℕ) → slice_get cs n ≡ None → IsLowered r (IsBefore cs n) rank old ranks → IsLowered r (IsBefore cs (n + 1)) rank old ranks
lowered_passed r cs n rank old ranks e a = record { long = a.long; marks = λ k h. no_next r cs n (at_most k old) (at_most k ranks) e (a.marks k h); same = a.same }

pub lowered_all : (r : Records) (cs : Commits) (n rank : ℕ) (old new : List ℕ) → length (list_of cs) ≤ n → IsLowered r (IsBefore (list_of cs) n) rank old new → IsLowered r (λ p. IsParent p cs) rank old new
lowered_all r cs n rank old new h a = record { long = a.long; marks = λ k l. all_parents r cs n (at_most k old) (at_most k new) h (a.marks k l); same = a.same }

-- ---- one pass

-- up to each rank, what is marked has its parents marked from a place on
pub record AreHanded (r : Records) (n : ℕ) (tips ranks : List ℕ) (left : ℕ) : Type 0 where
  pub long : length ranks ≡ length tips
  pub spread : (k : ℕ) → k < n → AreSpread r (at_most k tips) (at_most k ranks) left

pub none_handed : (r : Records) (n : ℕ) (tips : List ℕ) → AreHanded r n tips tips (length tips)
none_handed r n tips = record {
  long = refl;
  spread = λ k h. subst (AreSpread r (at_most k tips) (at_most k tips)) (length-map tips (λ x. nat_le x k)) (none_spread r (at_most k tips));
}

module _ (name : Kind → List ℕ → List ℕ) (namer : IsNamer name) (r : Records) (sound : IsSound name r) where
  not_yet : (k : ℕ) (ranks : List ℕ) (left : ℕ) → left < length ranks → k < get_or ranks left 0 → slice_index_or (at_most k ranks) left false ≡ false
  not_yet k ranks left within h = at_place k ranks left within ∙ above (nat_le (get_or ranks left 0) k) refl
    where
      above : (b : Bool) → nat_le (get_or ranks left 0) k ≡ b → nat_le (get_or ranks left 0) k ≡ false
      above false e = e
      above true e = absurd (let l = leb-true (get_or ranks left 0) k e in omega (arith, l, h))

  -- what no ref reaches is passed
  pub handed_past : (n : ℕ) (tips ranks : List ℕ) (left : ℕ) → left < length ranks → n ≤ get_or ranks left 0 → AreHanded r n tips ranks (left + 1) → AreHanded r n tips ranks left
  handed_past n tips ranks left within h a = record {
    long = a.long;
    spread = λ k l. passed name namer r sound (at_most k tips) (at_most k ranks) left (not_yet k ranks left within (omega (arith, h, l))) (a.spread k l);
  }

  -- a commit's rank is handed to its parents
  pub handed_down : (here : Commit) (n : ℕ) (tips ranks new : List ℕ) (left : ℕ) → left < length ranks → IsAt r left here → IsLowered r (λ p. IsParent p (parents_of here)) (get_or ranks left 0) ranks new → AreHanded r n tips ranks (left + 1) → AreHanded r n tips new left
  handed_down here n tips ranks new left within at l a = record {
    long = l.long ∙ a.long;
    spread = λ k h. by k h (nat_le (get_or ranks left 0) k) refl;
  }
    where
      by : (k : ℕ) → k < n → (b : Bool) → nat_le (get_or ranks left 0) k ≡ b → AreSpread r (at_most k tips) (at_most k new) left
      by k h true j =
          spread_one name namer r sound here (at_most k tips) (at_most k ranks) (at_most k new) left (at_place k ranks left within ∙ j) at
          (length-map new (λ x. nat_le x k) ∙ l.long ∙ sym (length-map ranks (λ x. nat_le x k))) (l.marks k (leb-true (get_or ranks left 0) k j)) (a.spread k h)
      by k h false j =
          let lt : k < get_or ranks left 0 = gt_from (get_or ranks left 0) k (λ m. true≢false (sym (le-leb (get_or ranks left 0) k m) ∙ j)) in
          subst (λ ms. AreSpread r (at_most k tips) ms left) (sym (l.same k lt)) (passed name namer r sound (at_most k tips) (at_most k ranks) left (not_yet k ranks left within lt) (a.spread k h))

  -- a commit stands where a ref's rank does
  pub ranked_commit : (refs : List (Bytes × Target)) (tips ranks : List ℕ) (left at : ℕ) → at < length ranks → get_or ranks at 0 < length refs → HaveTips r refs tips → AreHanded r (length refs) tips ranks left → (c : Commit) × IsAt r at c
  ranked_commit refs tips ranks left at within h t a =
      let k = get_or ranks at 0 in
      let marked : IsMarked (at_most k ranks) at = at_place k ranks at within ∙ le-leb k k (omega arith) in
      let s = ((a.spread k h).kept (is_reached (take (k + 1) refs)) (t.tips k h)).only at marked in
      (s.0, s.1)

  pub all_handed : (refs : List (Bytes × Target)) (tips ranks : List ℕ) (left first : ℕ) → left ≤ first → HaveTips r refs tips → AreHanded r (length refs) tips ranks left → AreRanked r refs first ranks
  all_handed refs tips ranks left first f t a = record {
    long = a.long ∙ t.long;
    marks = λ k h place made l at. spread_above name namer r sound (is_reached (take (k + 1) refs)) (at_most k tips) (at_most k ranks) left (t.tips k h) (a.spread k h) place made (omega (arith, f, l)) at;
  }
