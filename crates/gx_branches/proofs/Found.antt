-- The ref that a commit goes out on, and whether a ref reaches it, by the commit's rank among candidates.
use Rattle.std.proofs.Common.{◌≡◌, ◌∙◌, ℕ, zero, suc, ◌+◌, ◌<◌, ◌≤◌, Bool, true, false, cond, List, [], ◌∷◌, ◌++◌, append-nil, get_or, map, length, take, Some, refl, sym, ap, arith}
use Rattle.std.specs.Prelude.{nat_lt, ◌&&◌, ◌||◌, Ok}
use Rattle.std.specs.List.{filter, list_all, list_any, slice_get, AllByRecursion}
use Rattle.std.proofs.Math.Seq.{take-suc}
use Rattle.std.proofs.lemmas.List.{map-append, take_all}
use Rattle.std.proofs.lemmas.List.Elements.{filter-append}
use Rattle.std.proofs.lemmas.List.Folds.{list_any-append}
use Rattle.std.proofs.lemmas.Bool.{le-ltb, lt-ltb, ltb-false, ltb-true, true≢false}
use Rattle.std.proofs.lemmas.Option.{slice_get-get_or, slice_get_within}
use Rattle.gx_model.specs.Changes.{commit_ref, first_or_carrier, is_branch, reaching}
use Rattle.gx_model.specs.Export.{is_reached}
use Rattle.gx_model.specs.Histories.Values.{Commit, Value, blob_value, commit_value, tag_value, tree_value}
use Rattle.gx_model.specs.Histories.{Records, Target}
use Rattle.gx_model.specs.Records.HistoryOf.{target_in}
use Rattle.gx_model.specs.Replay.{peeled_at}
use Rattle.gx_model.specs.Revisions.Denotation.{commit_in}
use Rattle.gx_model.specs.Revisions.Ranges.{reaches}
use Rattle.gx_model.specs.Texts.{Bytes}
use Rattle.gx_object.specs.declared.name.Name.{Name}
use Rattle.gx_rev.specs.Objects.{commit_at, value_at}
use Rattle.gx_tips.specs.Tips.{AreTips, IsTip, targets}
use Rattle.gx_tips.specs.declared.tips.Tip.{Tip}
use Rattle.gx_branches.specs.Branches.{FindsBranches, candidates, name_at_rank, name_or_carrier}
use Rattle.gx_branches.specs.Ranks.{AreRanks, HoldTips, Ranked, tips_reach}
use Rattle.gx_branches.specs.declared.branches.Branches.{Branches}
use Rattle.gx_branches.proofs.Tips.{no_tip}

-- ---- candidates

filtered_hold : (P : Tip → Type 0) (test : Tip → Bool) (tips : List Tip) → AllByRecursion P tips → AllByRecursion P (filter test tips)
filtered_hold P test [] h = tt
filtered_hold P test (x ∷ xs) h = elim (test x) as (λ b. AllByRecursion P (cond b (x ∷ filter test xs) (filter test xs))) [
  | true ↦ (h.0, filtered_hold P test xs h.1)
  | false ↦ filtered_hold P test xs h.1
]

all_of_both : (P : Tip → Type 0) (xs ys : List Tip) → AllByRecursion P xs → AllByRecursion P ys → AllByRecursion P (xs ++ ys)
all_of_both P [] ys h k = k
all_of_both P (x ∷ xs) ys h k = (h.0, all_of_both P xs ys h.1 k)

-- what holds of refs holds of candidates
pub candidates_hold : (P : Tip → Type 0) (refs : List Tip) → AllByRecursion P refs → AllByRecursion P (candidates refs)
candidates_hold P refs h = all_of_both P (filter (λ tip. is_branch tip.name.now) refs) refs (filtered_hold P (λ tip. is_branch tip.name.now) refs h) h

-- the branches among the first refs, with one ref more
next_taken : (refs : List Tip) (i : ℕ) → i < length refs → filter (λ tip. is_branch tip.name.now) (take (i + 1) refs) ≡ filter (λ tip. is_branch tip.name.now) (take i refs) ++ filter (λ tip. is_branch tip.name.now) (get_or refs i no_tip ∷ [])
next_taken refs i l =
    let step : i + 1 ≡ suc i = omega arith in
    ap (λ n. filter (λ tip. is_branch tip.name.now) (take n refs)) step ∙ ap (filter (λ tip. is_branch tip.name.now)) (take-suc refs i no_tip l)
    ∙ filter-append (λ tip. is_branch tip.name.now) (take i refs) (get_or refs i no_tip ∷ [])

pub one_more : (refs old new : List Tip) (i : ℕ) → i < length refs → is_branch (get_or refs i no_tip).name.now ≡ true → old ≡ filter (λ tip. is_branch tip.name.now) (take i refs) → new ≡ old ++ get_or refs i no_tip ∷ []
    → new ≡ filter (λ tip. is_branch tip.name.now) (take (i + 1) refs)
one_more refs old new i l b o n =
    n ∙ ap (λ ts. ts ++ get_or refs i no_tip ∷ []) o
    ∙ sym (next_taken refs i l ∙ ap (λ t. filter (λ tip. is_branch tip.name.now) (take i refs) ++ cond t (get_or refs i no_tip ∷ []) []) b)

pub one_passed : (refs old : List Tip) (i : ℕ) → i < length refs → is_branch (get_or refs i no_tip).name.now ≡ false → old ≡ filter (λ tip. is_branch tip.name.now) (take i refs)
    → old ≡ filter (λ tip. is_branch tip.name.now) (take (i + 1) refs)
one_passed refs old i l b o =
    o ∙ sym (next_taken refs i l ∙ ap (λ t. filter (λ tip. is_branch tip.name.now) (take i refs) ++ cond t (get_or refs i no_tip ∷ []) []) b ∙ append-nil (filter (λ tip. is_branch tip.name.now) (take i refs)))

pub all_passed : (refs old new : List Tip) (i : ℕ) → length refs ≤ i → old ≡ filter (λ tip. is_branch tip.name.now) (take i refs) → new ≡ old ++ refs → new ≡ candidates refs
all_passed refs old new i l o n = n ∙ ap (λ ts. ts ++ refs) (o ∙ ap (filter (λ tip. is_branch tip.name.now)) (take_all i refs l))

-- ---- what refs reach

peels_to : (v : Value) (c : Commit) → commit_in v ≡ Ok c → c ≡ peeled_at (target_in v)
peels_to (blob_value x) c e = absurd cc
peels_to (tree_value f) c e = absurd cc
peels_to (commit_value d) c e = let same : d ≡ c = cc in sym same
peels_to (tag_value t) c e = let same : t.target ≡ c = cc in sym same

module _ (stands : ℕ → ℕ) (r : Records) (d : Commit) where
  abbrev reaches_it : Tip → Bool
  reaches_it tip = reaches (commit_at r tip.commit) d

  abbrev told : Tip → Bytes × Target
  told tip = (tip.name.now, target_in (value_at r tip.object))

  abbrev name_of_tip : Tip → Bytes
  name_of_tip tip = tip.name.now

  abbrev is_its_branch : Tip → Bool
  is_its_branch tip = is_branch tip.name.now

  reached_by : (tip : Tip) → IsTip stands r tip → reaches_it tip ≡ reaches (peeled_at (told tip).1) d
  reached_by tip t = ap (λ c. reaches c d) (peels_to (value_at r tip.object) (commit_at r tip.commit) t.peeled)

  tips_are : (refs : List Tip) → AreTips stands refs r → list_any reaches_it refs ≡ is_reached (targets r refs) d
  tips_are [] t = refl
  tips_are (x ∷ xs) t = ap (λ b. b || list_any reaches_it xs) (reached_by x t.0) ∙ ap (λ b. reaches (peeled_at (told x).1) d || b) (tips_are xs t.1)

  named_are : (refs : List Tip) → AreTips stands refs r → map name_of_tip (filter reaches_it refs) ≡ reaching (targets r refs) d
  named_are [] t = refl
  named_are (x ∷ xs) t =
      ap (λ b. map name_of_tip (cond b (x ∷ filter reaches_it xs) (filter reaches_it xs))) (reached_by x t.0)
      ∙ elim (reaches (peeled_at (told x).1) d) as (λ b. map name_of_tip (cond b (x ∷ filter reaches_it xs) (filter reaches_it xs))
      ≡ map (λ q. q.0) (cond b (told x ∷ filter (λ q. reaches (peeled_at q.1) d) (targets r xs)) (filter (λ q. reaches (peeled_at q.1) d) (targets r xs)))) [
        | true ↦ ap (λ ns. name_of_tip x ∷ ns) (named_are xs t.1)
        | false ↦ named_are xs t.1
      ]

  -- the branches among what reaches it
  branches_are : (refs : List Tip) → map name_of_tip (filter reaches_it (filter is_its_branch refs)) ≡ filter is_branch (map name_of_tip (filter reaches_it refs))
  branches_are [] = refl
  branches_are (x ∷ xs) = by (reaches_it x) refl (is_branch x.name.now) refl (branches_are xs)
    where
      both : Bool → List Bytes
      both b = map name_of_tip (filter reaches_it (cond b (x ∷ filter is_its_branch xs) (filter is_its_branch xs)))

      only : Bool → List Bytes
      only a = filter is_branch (map name_of_tip (cond a (x ∷ filter reaches_it xs) (filter reaches_it xs)))

      reached : Bool → List Bytes
      reached a = map name_of_tip (cond a (x ∷ filter reaches_it (filter is_its_branch xs)) (filter reaches_it (filter is_its_branch xs)))

      named : Bool → List Bytes
      named b = cond b (name_of_tip x ∷ filter is_branch (map name_of_tip (filter reaches_it xs))) (filter is_branch (map name_of_tip (filter reaches_it xs)))

      by : (a : Bool) → reaches_it x ≡ a → (b : Bool) → is_branch x.name.now ≡ b
          → map name_of_tip (filter reaches_it (filter is_its_branch xs)) ≡ filter is_branch (map name_of_tip (filter reaches_it xs))
          → both (is_branch x.name.now) ≡ only (reaches_it x)
      by true e true f rest = ap both f ∙ ap reached e ∙ ap (λ ns. name_of_tip x ∷ ns) rest ∙ sym (ap only e ∙ ap named f)
      by true e false f rest = ap both f ∙ rest ∙ sym (ap only e ∙ ap named f)
      by false e true f rest = ap both f ∙ ap reached e ∙ rest ∙ sym (ap only e)
      by false e false f rest = ap both f ∙ rest ∙ sym (ap only e)

  -- the ref of a commit is the first candidate's that reaches it
  candidate_is : (refs : List Tip) → AreTips stands refs r → first_or_carrier (map name_of_tip (filter reaches_it (candidates refs))) ≡ commit_ref (targets r refs) d
  candidate_is refs t =
      ap first_or_carrier (
      ap (map name_of_tip) (filter-append reaches_it (filter (λ tip. is_branch tip.name.now) refs) refs)
      ∙ map-append name_of_tip (filter reaches_it (filter (λ tip. is_branch tip.name.now) refs)) (filter reaches_it refs)
      ∙ ap (λ ns. ns ++ map name_of_tip (filter reaches_it refs)) (branches_are refs)
      ∙ ap (λ ns. filter is_branch ns ++ ns) (named_are refs t))

  -- what the candidates reach is what the refs reach
  candidates_reach : (refs : List Tip) → AreTips stands refs r → list_any reaches_it (candidates refs) ≡ is_reached (targets r refs) d
  candidates_reach refs t = list_any-append reaches_it (filter (λ tip. is_branch tip.name.now) refs) refs ∙ within refs ∙ tips_are refs t
    where
      first : (a f g : Bool) → (f || g) ≡ g → ((a || f) || (a || g)) ≡ (a || g)
      first true f g h = refl
      first false f g h = h

      other : (a f g : Bool) → (f || g) ≡ g → (f || (a || g)) ≡ (a || g)
      other true true g h = refl
      other true false g h = refl
      other false f g h = h

      within : (xs : List Tip) → (list_any reaches_it (filter (λ tip. is_branch tip.name.now) xs) || list_any reaches_it xs) ≡ list_any reaches_it xs
      within [] = refl
      within (x ∷ xs) =
          elim (is_branch x.name.now) as (λ b. (list_any reaches_it (cond b (x ∷ filter (λ tip. is_branch tip.name.now) xs) (filter (λ tip. is_branch tip.name.now) xs)) || (reaches_it x || list_any reaches_it xs)) ≡ (reaches_it x || list_any reaches_it xs)) [
            | true ↦ first (reaches_it x) (list_any reaches_it (filter (λ tip. is_branch tip.name.now) xs)) (list_any reaches_it xs) (within xs)
            | false ↦ other (reaches_it x) (list_any reaches_it (filter (λ tip. is_branch tip.name.now) xs)) (list_any reaches_it xs) (within xs)
          ]

  -- ---- the tip at a rank

  -- it is the number of the first tip that reaches the commit, or how many they are where none does
  abbrev pub IsFirst : List Tip → ℕ → Type 0
  IsFirst tips rank = (limit : ℕ) → limit ≤ length tips → nat_lt rank limit ≡ tips_reach r (take limit tips) d

  lt_suc : (m n : ℕ) → nat_lt m n ≡ nat_lt (suc m) (suc n)
  lt_suc m n = by (nat_lt m n) refl
    where
      by : (b : Bool) → nat_lt m n ≡ b → nat_lt m n ≡ nat_lt (suc m) (suc n)
      by true e = let l = ltb-true m n e in e ∙ sym (lt-ltb (suc m) (suc n) (omega (arith, l)))
      by false e = let l = ltb-false m n e in e ∙ sym (le-ltb (suc m) (suc n) (omega (arith, l)))

  taken_one : (x : Tip) (xs : List Tip) → tips_reach r (take 1 (x ∷ xs)) d ≡ reaches_it x
  taken_one x [] = only (reaches_it x)
    where
      only : (b : Bool) → (b || false) ≡ b
      only true = refl
      only false = refl
  taken_one x (y ∷ ys) = only (reaches_it x)
    where
      only : (b : Bool) → (b || false) ≡ b
      only true = refl
      only false = refl

  first_found : (tips : List Tip) (rank : ℕ) → IsFirst tips rank → name_or_carrier (slice_get tips rank) ≡ first_or_carrier (map name_of_tip (filter reaches_it tips))
  first_found [] rank h = refl
  first_found (x ∷ xs) rank h = by (first_found xs) (reaches_it x) refl rank (h 1 (omega arith) ∙ taken_one x xs) (λ limit l. h (suc limit) (omega (arith, l)))
    where
      by : ((m : ℕ) → IsFirst xs m → name_or_carrier (slice_get xs m) ≡ first_or_carrier (map name_of_tip (filter reaches_it xs)))
          → (b : Bool) → reaches_it x ≡ b → (m : ℕ) → nat_lt m 1 ≡ reaches_it x → ((limit : ℕ) → limit ≤ length xs → nat_lt m (suc limit) ≡ (reaches_it x || tips_reach r (take limit xs) d))
          → name_or_carrier (slice_get (x ∷ xs) m) ≡ first_or_carrier (map name_of_tip (cond (reaches_it x) (x ∷ filter reaches_it xs) (filter reaches_it xs)))
      by rest true e zero z l = sym (ap (λ b. first_or_carrier (map name_of_tip (cond b (x ∷ filter reaches_it xs) (filter reaches_it xs)))) e)
      by rest true e (suc m) z l = absurd (let k = ltb-true (suc m) 1 (z ∙ e) in omega (arith, k))
      by rest false e zero z l = absurd (true≢false (sym (lt-ltb zero 1 (omega arith)) ∙ z ∙ e))
      by rest false e (suc m) z l =
          rest m (λ limit k. lt_suc m limit ∙ l limit k ∙ ap (λ b. b || tips_reach r (take limit xs) d) e)
          ∙ sym (ap (λ b. first_or_carrier (map name_of_tip (cond b (x ∷ filter reaches_it xs) (filter reaches_it xs)))) e)

  -- by its rank the ref that a commit goes out on is found
  pub branch_found : (refs : List Tip) (rank : ℕ) → AreTips stands refs r → IsFirst (candidates refs) rank → name_at_rank (candidates refs) (Some rank) ≡ commit_ref (targets r refs) d
  branch_found refs rank t h = first_found (candidates refs) rank h ∙ candidate_is refs t

  -- so is whether a ref reaches it
  pub reach_found : (refs : List Tip) (rank : ℕ) → AreTips stands refs r → IsFirst (candidates refs) rank → nat_lt rank (length (candidates refs)) ≡ is_reached (targets r refs) d
  reach_found refs rank t h =
      let all : length (candidates refs) ≤ length (candidates refs) = omega arith in
      h (length (candidates refs)) all ∙ ap (λ tips. tips_reach r tips d) (take_all (length (candidates refs)) (candidates refs) all) ∙ candidates_reach refs t

-- ---- all of them

pub same_for_all : {X : Type 0} (f : ℕ → Bool) (g : X → Bool) (ranks : List ℕ) (xs : List X) → length ranks ≡ length xs
    → ((i : ℕ) (x : X) (rank : ℕ) → slice_get xs i ≡ Some x → slice_get ranks i ≡ Some rank → f rank ≡ g x) → list_all f ranks ≡ list_all g xs
same_for_all f g [] [] l h = refl
same_for_all f g [] (x ∷ xs) l h = absurd (omega (arith, l))
same_for_all f g (n ∷ ranks) [] l h = absurd (omega (arith, l))
same_for_all f g (n ∷ ranks) (x ∷ xs) l h =
    ap (λ b. b && list_all f ranks) (h 0 x n refl refl) ∙ ap (λ b. g x && b) (same_for_all f g ranks xs (omega (arith, l)) (λ i y rank e k. h (suc i) y rank e k))

also_there : {X : Type 0} (ranks : List ℕ) (xs : List X) (i : ℕ) (x : X) → length ranks ≡ length xs → slice_get xs i ≡ Some x → slice_get ranks i ≡ Some (get_or ranks i 0)
also_there ranks xs i x l e = let m = slice_get_within xs i x e in slice_get-get_or ranks i 0 (omega (arith, l, m))

-- the ranks among candidates are those of what is found
pub finds : {A : Type 0} (stands : ℕ → ℕ) (r : Records) (refs : List Tip) (sent : List Name) (front : List Ranked) (count : ℕ) (branches : Branches A) → branches.candidates.items ≡ candidates refs → count ≡ length (candidates refs)
    → AreTips stands refs r → HoldTips stands (candidates refs) r front → AreRanks front count sent r branches.ranks.items → FindsBranches refs sent r branches
finds stands r refs sent front count branches e n t h a = record {
  found = λ i commit f.
      let there = also_there ranks sent i commit a.long f in
      ap (λ cs. name_at_rank cs (slice_get ranks i)) e ∙ ap (name_at_rank (candidates refs)) there
      ∙ branch_found stands r (commit_at r commit) refs (get_or ranks i 0) t (is_first i commit (get_or ranks i 0) f there);
  reached =
      ap (λ cs. list_all (λ rank. nat_lt rank (length cs)) ranks) e
      ∙ same_for_all (λ rank. nat_lt rank (length (candidates refs))) (λ commit. is_reached (targets r refs) (commit_at r commit)) ranks sent a.long
      (λ i commit rank f g. reach_found stands r (commit_at r commit) refs rank t (is_first i commit rank f g));
}
  where
    ranks : List ℕ
    ranks = branches.ranks.items

    is_first : (i : ℕ) (commit : Name) (rank : ℕ) → slice_get sent i ≡ Some commit → slice_get ranks i ≡ Some rank → IsFirst stands r (commit_at r commit) (candidates refs) rank
    is_first i commit rank f g limit l = a.each i commit rank f g limit (omega (arith, l, n)) ∙ h.leads limit (commit_at r commit) l
