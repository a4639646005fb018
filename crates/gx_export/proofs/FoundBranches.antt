-- The ref that a commit goes out on, and whether a ref reaches it, by the rank of the commit.
use Rattle.std.proofs.Common.{◌≡◌, ◌∙◌, ℕ, zero, suc, ◌+◌, ◌<◌, ◌≤◌, Bool, true, false, cond, List, [], ◌∷◌, ◌++◌, map, length, take, get_or, Option, Some, None, refl, append-nil, sym, ap, subst, arith}
use Rattle.std.specs.Prelude.{nat_le, ◌&&◌, ◌||◌}
use Rattle.std.specs.Borrow.{Bor}
use Rattle.std.specs.List.{filter, list_all, slice_get, AllByRecursion}
use Rattle.std.proofs.lemmas.List.{map-append, take_all}
use Rattle.std.proofs.Math.Seq.{take-suc}
use Rattle.std.proofs.lemmas.List.Elements.{filter-append}
use Rattle.std.proofs.lemmas.List.Folds.{list_any-append}
use Rattle.std.proofs.lemmas.Bool.{leb-true, le-leb, true≢false}
use Rattle.gx_model.specs.Changes.{commit_ref, first_or_carrier, is_branch, reaching}
use Rattle.gx_model.specs.Export.{carrier, is_reached}
use Rattle.gx_model.specs.Histories.Marks.{IsAt}
use Rattle.gx_model.specs.Histories.Values.{Commit, commit_value}
use Rattle.gx_model.specs.Histories.{Records, Target}
use Rattle.gx_model.specs.Laws.RepositoryLaws.{values_of}
use Rattle.gx_model.specs.Records.HistoryOf.{target_in, value_of_name}
use Rattle.gx_model.specs.Replay.{peeled_at}
use Rattle.gx_model.specs.Revisions.Ranges.{reaches}
use Rattle.gx_model.specs.Texts.{Bytes}
use Rattle.gx_model.proofs.Records.Standing.{at_within}
use Rattle.gx_object.specs.declared.name.Name.{Name}
use Rattle.gx_repo.specs.Refs.{shown_lent_ref}
use Rattle.gx_export.specs.Branches.{AreRanked, candidates, is_below, name_at_rank, name_or_carrier, shown_tips, targets}
use Rattle.gx_export.proofs.RankedRefs.{at_place}

-- ---- the ref that a rank gives

le_suc : (m k : ℕ) → nat_le m k ≡ nat_le (suc m) (suc k)
le_suc m k = by (nat_le m k) refl (nat_le (suc m) (suc k)) refl
  where
    by : (a : Bool) → nat_le m k ≡ a → (b : Bool) → nat_le (suc m) (suc k) ≡ b → nat_le m k ≡ nat_le (suc m) (suc k)
    by true i true j = i ∙ sym j
    by false i false j = i ∙ sym j
    by true i false j = absurd (let l = leb-true m k i in true≢false (sym (le-leb (suc m) (suc k) (omega (arith, l))) ∙ j))
    by false i true j = absurd (let l = leb-true (suc m) (suc k) j in true≢false (sym (le-leb m k (omega (arith, l))) ∙ i))

never : (m n : ℕ) → n < m → nat_le m n ≡ false
never m n h = by (nat_le m n) refl
  where
    by : (b : Bool) → nat_le m n ≡ b → nat_le m n ≡ false
    by false e = e
    by true e = absurd (let l = leb-true m n e in omega (arith, l, h))

-- the name of what stands at a place, or the carrier
abbrev ref_or_carrier : Option (Bytes × Target) → Bytes
ref_or_carrier None = carrier
ref_or_carrier (Some ref) = ref.0

abbrev reaches_from : Commit → Bytes × Target → Bool
reaches_from c ref = reaches (peeled_at ref.1) c

abbrev found_first : Commit → Bytes × Target → List (Bytes × Target) → Bool → Bytes
found_first c x refs b = first_or_carrier (map (λ r. r.0) (cond b (x ∷ filter (reaches_from c) refs) (filter (reaches_from c) refs)))

first_found : (refs : List (Bytes × Target)) (c : Commit) (n : ℕ) → ((k : ℕ) → k < length refs → nat_le n k ≡ is_reached (take (k + 1) refs) c) → ref_or_carrier (slice_get refs n) ≡ first_or_carrier (map (λ r. r.0) (filter (reaches_from c) refs))
first_found [] c n h = refl
first_found (x ∷ refs) c n h = by (first_found refs c) (reaches_from c x) refl n (h 0 (omega arith)) later
  where
    later : (k : ℕ) → k < length refs → nat_le n (suc k) ≡ (reaches_from c x || is_reached (take (k + 1) refs) c)
    later k l = let step : suc k + 1 ≡ suc (k + 1) = omega arith in h (suc k) (omega (arith, l)) ∙ ap (λ i. is_reached (take i (x ∷ refs)) c) step

    by : ((m : ℕ) → ((k : ℕ) → k < length refs → nat_le m k ≡ is_reached (take (k + 1) refs) c) → ref_or_carrier (slice_get refs m) ≡ first_or_carrier (map (λ r. r.0) (filter (reaches_from c) refs)))
        → (b : Bool) → reaches_from c x ≡ b → (m : ℕ) → nat_le m 0 ≡ (reaches_from c x || false) → ((k : ℕ) → k < length refs → nat_le m (suc k) ≡ (reaches_from c x || is_reached (take (k + 1) refs) c)) → ref_or_carrier (slice_get (x ∷ refs) m) ≡ found_first c x refs (reaches_from c x)
    by ih true e zero z l = sym (ap (found_first c x refs) e)
    by ih true e (suc m) z l = absurd (let l = leb-true (suc m) 0 (z ∙ ap (λ b. b || false) e) in omega (arith, l))
    by ih false e zero z l = absurd (true≢false (sym (le-leb zero 0 (omega arith)) ∙ z ∙ ap (λ b. b || false) e))
    by ih false e (suc m) z l = ih m (λ k i. le_suc m k ∙ l k i ∙ ap (λ b. b || is_reached (take (k + 1) refs) c) e) ∙ sym (ap (found_first c x refs) e)

branches_first : (refs : List (Bytes × Target)) (c : Commit) → filter is_branch (reaching refs c) ≡ map (λ r. r.0) (filter (reaches_from c) (filter (λ ref. is_branch ref.0) refs))
branches_first [] c = refl
branches_first (x ∷ refs) c =
    let rest = branches_first refs c in
    elim (reaches_from c x) as (λ a. reaches_from c x ≡ a → filter is_branch (map (λ r. r.0) (cond a (x ∷ filter (reaches_from c) refs) (filter (reaches_from c) refs))) ≡ map (λ r. r.0) (filter (reaches_from c) (cond (is_branch x.0) (x ∷ filter (λ ref. is_branch ref.0) refs) (filter (λ ref. is_branch ref.0) refs)))) [
      | true ↦ λ e. elim (is_branch x.0) as (λ b. cond b (x.0 ∷ filter is_branch (reaching refs c)) (filter is_branch (reaching refs c)) ≡ map (λ r. r.0) (filter (reaches_from c) (cond b (x ∷ filter (λ ref. is_branch ref.0) refs) (filter (λ ref. is_branch ref.0) refs)))) [
        | true ↦ ap (λ ns. x.0 ∷ ns) rest ∙ sym (ap (λ a. map (λ r. r.0) (cond a (x ∷ filter (reaches_from c) (filter (λ ref. is_branch ref.0) refs)) (filter (reaches_from c) (filter (λ ref. is_branch ref.0) refs)))) e)
        | false ↦ rest
      ]
      | false ↦ λ e. elim (is_branch x.0) as (λ b. filter is_branch (reaching refs c) ≡ map (λ r. r.0) (filter (reaches_from c) (cond b (x ∷ filter (λ ref. is_branch ref.0) refs) (filter (λ ref. is_branch ref.0) refs)))) [
        | true ↦ rest ∙ sym (ap (λ a. map (λ r. r.0) (cond a (x ∷ filter (reaches_from c) (filter (λ ref. is_branch ref.0) refs)) (filter (reaches_from c) (filter (λ ref. is_branch ref.0) refs)))) e)
        | false ↦ rest
      ]
    ] refl

-- the ref of a commit is the first candidate's that reaches it
candidate_is : (refs : List (Bytes × Target)) (c : Commit) → first_or_carrier (map (λ r. r.0) (filter (reaches_from c) (candidates refs))) ≡ commit_ref refs c
candidate_is refs c =
    ap first_or_carrier (ap (map (λ r. r.0)) (filter-append (reaches_from c) (filter (λ ref. is_branch ref.0) refs) refs) ∙ map-append (λ r. r.0) (filter (reaches_from c) (filter (λ ref. is_branch ref.0) refs)) (filter (reaches_from c) refs)
    ∙ ap (λ ns. ns ++ reaching refs c) (sym (branches_first refs c)))

targets_filter : (r : Records) (refs : List (Bytes × Bytes)) → targets r (filter (λ ref. is_branch ref.0) refs) ≡ filter (λ ref. is_branch ref.0) (targets r refs)
targets_filter r [] = refl
targets_filter r (x ∷ refs) =
    let rest = targets_filter r refs in
    elim (is_branch x.0) as (λ b. targets r (cond b (x ∷ filter (λ ref. is_branch ref.0) refs) (filter (λ ref. is_branch ref.0) refs)) ≡ cond b ((x.0, target_in (value_of_name r.records x.1)) ∷ filter (λ ref. is_branch ref.0) (targets r refs)) (filter (λ ref. is_branch ref.0) (targets r refs))) [
      | true ↦ ap (λ rs. (x.0, target_in (value_of_name r.records x.1)) ∷ rs) rest
      | false ↦ rest
    ]

targets_are : (r : Records) (refs : List (Bytes × Bytes)) → targets r (candidates refs) ≡ candidates (targets r refs)
targets_are r refs = map-append (λ ref. (ref.0, target_in (value_of_name r.records ref.1))) (filter (λ ref. is_branch ref.0) refs) refs ∙ ap (λ rs. rs ++ targets r refs) (targets_filter r refs)

names_are : (r : Records) (tips : List (Bor Bytes × Name)) (n : ℕ) → name_or_carrier (slice_get tips n) ≡ ref_or_carrier (slice_get (targets r (shown_tips tips)) n)
names_are r [] n = refl
names_are r (t ∷ tips) zero = refl
names_are r (t ∷ tips) (suc n) = names_are r tips n

rank_there : (ranks : List ℕ) (place : ℕ) → place < length ranks → slice_get ranks place ≡ Some (get_or ranks place 0)
rank_there [] place h = absurd (omega (arith, h))
rank_there (x ∷ ranks) zero h = refl
rank_there (x ∷ ranks) (suc place) h = rank_there ranks place (omega (arith, h))

-- as many targets as tips
pub tips_long : (r : Records) (tips : List (Bor Bytes × Name)) → length (targets r (shown_tips tips)) ≡ length tips
tips_long r [] = refl
tips_long r (t ∷ tips) = let rest = tips_long r tips in omega (arith, rest)

-- what the candidates reach is what the refs reach
candidates_reach : (refs : List (Bytes × Target)) (c : Commit) → is_reached (candidates refs) c ≡ is_reached refs c
candidates_reach refs c = list_any-append (reaches_from c) (filter (λ ref. is_branch ref.0) refs) refs ∙ within refs
  where
    both : (a f r : Bool) → (f || r) ≡ r → ((a || f) || (a || r)) ≡ (a || r)
    both true f r h = refl
    both false f r h = h

    one : (a f r : Bool) → (f || r) ≡ r → (f || (a || r)) ≡ (a || r)
    one true true r h = refl
    one true false r h = refl
    one false f r h = h

    within : (xs : List (Bytes × Target)) → (is_reached (filter (λ ref. is_branch ref.0) xs) c || is_reached xs c) ≡ is_reached xs c
    within [] = refl
    within (x ∷ xs) =
        elim (is_branch x.0) as (λ b. (is_reached (cond b (x ∷ filter (λ ref. is_branch ref.0) xs) (filter (λ ref. is_branch ref.0) xs)) c || (reaches_from c x || is_reached xs c)) ≡ (reaches_from c x || is_reached xs c)) [
          | true ↦ both (reaches_from c x) (is_reached (filter (λ ref. is_branch ref.0) xs) c) (is_reached xs c) (within xs)
          | false ↦ one (reaches_from c x) (is_reached (filter (λ ref. is_branch ref.0) xs) c) (is_reached xs c) (within xs)
        ]

module _ (r : Records) (refs : List (Bytes × Bytes)) (tips : List (Bor Bytes × Name)) (e : shown_tips tips ≡ candidates refs) (ranks : List ℕ) (first : ℕ) (a : AreRanked r (targets r (shown_tips tips)) first ranks) (place : ℕ) (made : Commit) (from : first ≤ place) (at : IsAt r place made) where
  abbrev told : List (Bytes × Target)
  told = targets r (shown_tips tips)

  told_are : told ≡ candidates (targets r refs)
  told_are = ap (targets r) e ∙ targets_are r refs

  within : place < length ranks
  within = let w = at_within (values_of r) place (commit_value made) at in omega (arith, w, a.long)

  -- a commit's rank tells up to which candidate it is reached
  rank_tells : (k : ℕ) → k < length told → nat_le (get_or ranks place 0) k ≡ is_reached (take (k + 1) told) made
  rank_tells k h = sym (at_place k ranks place within) ∙ a.marks k h place made from at

  -- by ranks, the ref that the commit at a place goes out on is found
  pub branch_found : name_at_rank tips (slice_get ranks place) ≡ commit_ref (targets r refs) made
  branch_found =
      ap (name_at_rank tips) (rank_there ranks place within) ∙ names_are r tips (get_or ranks place 0) ∙ first_found told made (get_or ranks place 0) rank_tells
      ∙ ap (λ rs. first_or_carrier (map (λ ref. ref.0) (filter (reaches_from made) rs))) told_are ∙ candidate_is (targets r refs) made

  -- so is whether a ref reaches it
  pub reach_found : is_below (length tips) (slice_get ranks place) ≡ is_reached (targets r refs) made
  reach_found =
      ap (is_below (length tips)) (rank_there ranks place within) ∙ last told (get_or ranks place 0) (length tips) (tips_long r tips) rank_tells
      ∙ ap (λ rs. is_reached rs made) told_are ∙ candidates_reach (targets r refs) made
    where
      last : (xs : List (Bytes × Target)) (rank n : ℕ) → length xs ≡ n → ((k : ℕ) → k < length xs → nat_le rank k ≡ is_reached (take (k + 1) xs) made) → nat_le (rank + 1) n ≡ is_reached xs made
      last [] rank n l h = never (rank + 1) n (omega (arith, l))
      last (x ∷ xs) rank n l h =
          let count : n ≡ suc (length xs) = omega (arith, l) in
          let step : rank + 1 ≡ suc rank = omega arith in
          let past : length (x ∷ xs) ≤ length xs + 1 = omega arith in
          ap (nat_le (rank + 1)) count ∙ ap (λ m. nat_le m (suc (length xs))) step ∙ sym (le_suc rank (length xs)) ∙ h (length xs) (omega arith) ∙ ap (λ ys. is_reached ys made) (take_all (length xs + 1) (x ∷ xs) past)

pub tip_there : (r : Records) (tips : List (Bor Bytes × Name)) (i : ℕ) (tip : Bor Bytes × Name) → slice_get tips i ≡ Some tip → slice_get (targets r (shown_tips tips)) i ≡ Some (tip.0.now, target_in (value_of_name r.records tip.1.bytes))
tip_there r [] i tip e = absurd (cc e)
tip_there r (t ∷ tips) zero tip e = let same : t ≡ tip = cc e in ap (λ x. Some (x.0.now, target_in (value_of_name r.records x.1.bytes))) same
tip_there r (t ∷ tips) (suc i) tip e = tip_there r tips i tip e

-- ---- refs that are listed

-- one more that passes, and one that doesn't
pub filter_more : {X : Type 0} (P : X → Bool) (xs : List X) (x : X) → P x ≡ true → filter P (xs ++ x ∷ []) ≡ filter P xs ++ x ∷ []
filter_more P xs x e = filter-append P xs (x ∷ []) ∙ ap (λ b. filter P xs ++ cond b (x ∷ []) []) e

pub filter_same : {X : Type 0} (P : X → Bool) (xs : List X) (x : X) → P x ≡ false → filter P (xs ++ x ∷ []) ≡ filter P xs
filter_same P xs x e = filter-append P xs (x ∷ []) ∙ ap (λ b. filter P xs ++ cond b (x ∷ []) []) e ∙ append-nil (filter P xs)

-- one tip more
pub shown_more : (refs : List (Bytes × Bytes)) (old new : List (Bor Bytes × Name)) (tip : Bor Bytes × Name) → new ≡ old ++ tip ∷ [] → shown_tips old ≡ refs → shown_tips new ≡ refs ++ shown_lent_ref tip ∷ []
shown_more refs old new tip e h = ap shown_tips e ∙ map-append shown_lent_ref old (tip ∷ []) ∙ ap (λ rs. rs ++ shown_lent_ref tip ∷ []) h

-- the tips up to a place, and one more
pub shown_next : (tips : List (Bor Bytes × Name)) (i : ℕ) (d : Bor Bytes × Name) → i < length tips → shown_tips (take (i + 1) tips) ≡ shown_tips (take i tips) ++ shown_lent_ref (get_or tips i d) ∷ []
shown_next tips i d h =
    let step : i + 1 ≡ suc i = omega arith in
    ap (λ n. shown_tips (take n tips)) step ∙ ap shown_tips (take-suc tips i d h) ∙ map-append shown_lent_ref (take i tips) (get_or tips i d ∷ [])

-- what holds of some and of one more
pub all_more : {X : Type 0} (P : X → Type 0) (xs : List X) (x : X) → AllByRecursion P xs → P x → AllByRecursion P (xs ++ x ∷ [])
all_more P [] x h k = (k, tt)
all_more P (y ∷ xs) x h k = (h.0, all_more P xs x h.1 k)

-- one that fails, and one more that passes
pub fails_all : {X : Type 0} (f : X → Bool) (xs : List X) (x : X) (rest : List X) → f x ≡ false → list_all f (xs ++ x ∷ rest) ≡ false
fails_all f [] x rest e = ap (λ b. b && list_all f rest) e
fails_all f (y ∷ xs) x rest e = ap (λ b. f y && b) (fails_all f xs x rest e) ∙ and_false (f y)
  where
    and_false : (b : Bool) → (b && false) ≡ false
    and_false true = refl
    and_false false = refl

pub passes_all : {X : Type 0} (f : X → Bool) (xs : List X) (x : X) → f x ≡ true → list_all f xs ≡ true → list_all f (xs ++ x ∷ []) ≡ true
passes_all f [] x e h = ap (λ b. b && true) e
passes_all f (y ∷ xs) x e h = let k = both_true (f y) (list_all f xs) h in let rest = passes_all f xs x e k.1 in (λ j. k.0 j && rest j)
  where
    both_true : (a b : Bool) → (a && b) ≡ true → (a ≡ true) × (b ≡ true)
    both_true true b h = (refl, h)
    both_true false b h = absurd (cc h)

abbrev only_branches : List (Bytes × Bytes) → List (Bytes × Bytes)
only_branches refs = filter (λ ref. is_branch ref.0) refs

-- what holds of all refs holds of the candidates
pub candidates_hold : (P : Bytes × Bytes → Type 0) (refs : List (Bytes × Bytes)) → AllByRecursion P refs → AllByRecursion P (candidates refs)
candidates_hold P refs h = both (only_branches refs) (kept refs h)
  where
    kept : (xs : List (Bytes × Bytes)) → AllByRecursion P xs → AllByRecursion P (only_branches xs)
    kept [] a = tt
    kept (x ∷ xs) a = let rest = kept xs a.1 in elim (is_branch x.0) as (λ b. AllByRecursion P (cond b (x ∷ only_branches xs) (only_branches xs))) [ true ↦ (a.0, rest) | false ↦ rest ]

    both : (xs : List (Bytes × Bytes)) → AllByRecursion P xs → AllByRecursion P (xs ++ refs)
    both [] a = h
    both (x ∷ xs) a = (a.0, both xs a.1)

-- the element within a list
pub got_there : {X : Type 0} (xs : List X) (i : ℕ) (d : X) → i < length xs → slice_get xs i ≡ Some (get_or xs i d)
got_there [] i d h = absurd (omega (arith, h))
got_there (x ∷ xs) zero d h = refl
got_there (x ∷ xs) (suc i) d h = got_there xs i d (omega (arith, h))

pub held_there : {X : Type 0} (P : X → Type 0) (xs : List X) (i : ℕ) (x : X) → slice_get xs i ≡ Some x → AllByRecursion P xs → P x
held_there P [] i x e h = absurd (cc e)
held_there P (y ∷ xs) zero x e h = let same : y ≡ x = cc e in subst P same h.0
held_there P (y ∷ xs) (suc i) x e h = held_there P xs i x e h.1

pub shown_there : (tips : List (Bor Bytes × Name)) (i : ℕ) (tip : Bor Bytes × Name) → slice_get tips i ≡ Some tip → slice_get (shown_tips tips) i ≡ Some (shown_lent_ref tip)
shown_there [] i tip e = absurd (cc e)
shown_there (t ∷ tips) zero tip e = let same : t ≡ tip = cc e in ap (λ x. Some (shown_lent_ref x)) same
shown_there (t ∷ tips) (suc i) tip e = shown_there tips i tip e
