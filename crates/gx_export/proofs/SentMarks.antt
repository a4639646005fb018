-- The commits that a range sends and the refs that it sets, by marks.
use Rattle.std.proofs.Common.{◌≡◌, ◌∙◌, Bool, true, false, cond, not, ◌&&◌, ◌||◌, List, [], ◌∷◌, ◌++◌, length, refl, ap, subst, append_assoc}
use Rattle.std.specs.Prelude.{slice_index_or}
use Rattle.std.specs.List.{AllByRecursion, filter}
use Rattle.std.proofs.lemmas.List.{length-map}
use Rattle.std.proofs.lemmas.List.Folds.{list_any-append}
use Rattle.gx_model.specs.Changes.{is_in_range}
use Rattle.gx_model.specs.Export.{is_reached}
use Rattle.gx_model.specs.Histories.Marks.{holds, marks_of}
use Rattle.gx_model.specs.Histories.Values.{Commit, Value, blob_value, commit_value, tag_value, tree_value}
use Rattle.gx_model.specs.Histories.{Records, Target}
use Rattle.gx_model.specs.Laws.RangeLaws.{is_excluded}
use Rattle.gx_model.specs.Records.HistoryOf.{target_in, value_of_name}
use Rattle.gx_model.specs.Replay.{peeled_at}
use Rattle.gx_model.specs.Revisions.Ranges.{Word, reaches, span}
use Rattle.gx_model.specs.Texts.{Bytes}
use Rattle.gx_model.proofs.Revisions.Marking.{mark_tells, marks_are}
use Rattle.gx_model.proofs.Texts.PathTests.{is_true}
use Rattle.gx_model.proofs.Histories.ReachedCommits.{itself}
use Rattle.gx_rev.specs.Walking.{AreWithout, is_included}
use Rattle.gx_export.specs.Branches.{commit_of_ref, targets}
use Rattle.gx_export.specs.ChangedParts.{AreEither}

holds_without : (P Q : Commit → Bool) (v : Value) → (holds P v && not (holds Q v)) ≡ holds (λ c. P c && not (Q c)) v
holds_without P Q (blob_value x) = refl
holds_without P Q (tree_value f) = refl
holds_without P Q (commit_value c) = refl
holds_without P Q (tag_value t) = refl

holds_either : (P Q : Commit → Bool) (v : Value) → (holds P v || holds Q v) ≡ holds (λ c. P c || Q c) v
holds_either P Q (blob_value x) = refl
holds_either P Q (tree_value f) = refl
holds_either P Q (commit_value c) = refl
holds_either P Q (tag_value t) = refl

-- the marks of the commits that pass the one test and not the other, and of those that pass one of them
module _ (vs : List Value) (P Q : Commit → Bool) (marks others : List Bool) (e : marks ≡ marks_of P vs) (f : others ≡ marks_of Q vs) where
  pub without_marks : (new : List Bool) → length new ≡ length marks → AreWithout new marks others → new ≡ marks_of (λ c. P c && not (Q c)) vs
  without_marks new l h =
      marks_are new vs (λ c. P c && not (Q c)) (l ∙ ap length e ∙ length-map vs (holds P))
      (λ i v k. h i ∙ (λ j. slice_index_or (e j) i false && not (slice_index_or (f j) i false)) ∙ (λ j. mark_tells vs P i v false k j && not (mark_tells vs Q i v false k j)) ∙ holds_without P Q v)

  pub either_marks : (new : List Bool) → length new ≡ length marks → AreEither new marks others → new ≡ marks_of (λ c. P c || Q c) vs
  either_marks new l h =
      marks_are new vs (λ c. P c || Q c) (l ∙ ap length e ∙ length-map vs (holds P))
      (λ i v k. h i ∙ (λ j. slice_index_or (e j) i false || slice_index_or (f j) i false) ∙ (λ j. mark_tells vs P i v false k j || mark_tells vs Q i v false k j) ∙ holds_either P Q v)

-- what words include or exclude is in their range
pub in_range_is : (words : List Word) (c : Commit) → (is_included words c || is_excluded words c) ≡ is_in_range words c
in_range_is [] c = refl
in_range_is (w ∷ words) c =
    regrouped ((span w).included c) (is_included words c) ((span w).excluded c) (is_excluded words c) ∙ ap (λ b. ((span w).included c || (span w).excluded c) || b) (in_range_is words c)
  where
    regrouped : (a b x y : Bool) → ((a || b) || (x || y)) ≡ ((a || x) || (b || y))
    regrouped true b x y = refl
    regrouped false true true y = refl
    regrouped false true false y = refl
    regrouped false false true y = refl
    regrouped false false false y = refl

-- ---- the refs of a whole export

-- some refs reach the commits of all of them
each_reached : (before refs : List (Bytes × Target)) → AllByRecursion (λ r. is_reached (before ++ refs) (peeled_at r.1) ≡ true) refs
each_reached before [] = tt
each_reached before (x ∷ refs) =
    let c = peeled_at x.1 in (
      list_any-append (λ r. reaches (peeled_at r.1) c) before (x ∷ refs) ∙ ap (λ b. is_reached before c || (b || is_reached refs c)) (is_true (reaches c c) (itself c)) ∙ or_true (is_reached before c),
      subst (λ (all : List (Bytes × Target)). AllByRecursion (λ r. is_reached all (peeled_at r.1) ≡ true) refs) (append_assoc before (x ∷ []) refs) (each_reached (before ++ x ∷ []) refs),
    )
  where
    or_true : (b : Bool) → (b || true) ≡ true
    or_true true = refl
    or_true false = refl

all_pass : {X : Type 0} (P : X → Bool) (xs : List X) → AllByRecursion (λ x. P x ≡ true) xs → filter P xs ≡ xs
all_pass P [] h = refl
all_pass P (x ∷ xs) h = ap (λ b. cond b (x ∷ filter P xs) (filter P xs)) h.0 ∙ ap (λ ys. x ∷ ys) (all_pass P xs h.1)

-- each ref is set whose commit the refs reach
pub all_set : (refs : List (Bytes × Target)) → filter (λ r. is_reached refs (peeled_at r.1)) refs ≡ refs
all_set refs = all_pass (λ r. is_reached refs (peeled_at r.1)) refs (each_reached [] refs)

-- refs that are left by their commits, with what their objects stand for
pub told_left : (r : Records) (P : Commit → Bool) (refs : List (Bytes × Bytes)) → targets r (filter (λ ref. P (commit_of_ref r ref.1)) refs) ≡ filter (λ ref. P (peeled_at ref.1)) (targets r refs)
told_left r P [] = refl
told_left r P (x ∷ refs) =
    let rest = told_left r P refs in
    let left = filter (λ ref. P (commit_of_ref r ref.1)) refs in
    let told = filter (λ ref. P (peeled_at ref.1)) (targets r refs) in
    elim (P (commit_of_ref r x.1)) as (λ b. targets r (cond b (x ∷ left) left) ≡ cond b ((x.0, target_in (value_of_name r.records x.1)) ∷ told) told) [
      | true ↦ ap (λ rs. (x.0, target_in (value_of_name r.records x.1)) ∷ rs) rest
      | false ↦ rest
    ]
