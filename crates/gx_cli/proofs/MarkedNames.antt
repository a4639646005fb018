-- Marks of commits joined by place.
use Rattle.std.proofs.Common.{◌≡◌, Bool, true, false, refl, sym, ap, ◌∙◌, List, length}
use Rattle.std.specs.Prelude.{◌&&◌, ◌||◌, slice_index_or}
use Rattle.std.proofs.lemmas.List.{length-map}
use Rattle.gx_export.specs.ChangedParts.{AreEither}
use Rattle.gx_model.specs.Histories.Marks.{holds, marks_of}
use Rattle.gx_model.specs.Histories.Values.{Commit, Value, blob_value, commit_value, tag_value, tree_value}
use Rattle.gx_model.proofs.Revisions.Marking.{mark_tells, marks_are}
use Rattle.gx_model.specs.Histories.{Records}
use Rattle.gx_model.specs.Laws.RepositoryLaws.{values_of}
use Rattle.gx_rev.specs.Reached.{is_wanted, reached_marks}

pub marks_long : (vs : List Value) (P : Commit → Bool) → length (marks_of P vs) ≡ length vs
marks_long vs P = length-map vs (holds P)

holds_either : (P Q : Commit → Bool) (v : Value) → (holds P v || holds Q v) ≡ holds (λ c. P c || Q c) v
holds_either P Q (blob_value x) = refl
holds_either P Q (tree_value f) = refl
holds_either P Q (commit_value c) = refl
holds_either P Q (tag_value t) = refl

-- the places that the commits of one kind have, and those of the other, too
pub either_marks : (vs : List Value) (P Q : Commit → Bool) (marks others new : List Bool) → marks ≡ marks_of P vs → others ≡ marks_of Q vs → length new ≡ length marks → AreEither new marks others
    → new ≡ marks_of (λ c. P c || Q c) vs
either_marks vs P Q marks others new e f l h =
    marks_are new vs (λ c. P c || Q c) (l ∙ ap length e ∙ length-map vs (holds P))
    (λ i v k. h i ∙ (λ j. slice_index_or (e j) i false || slice_index_or (f j) i false) ∙ (λ j. mark_tells vs P i v false k j || mark_tells vs Q i v false k j) ∙ holds_either P Q v)

-- ---- what refs reach

or_nothing : (b : Bool) → b ≡ (b || false)
or_nothing true = refl
or_nothing false = refl

-- where that is asked for, the commits that refs reach are marked besides
abbrev MarksRefs : Records → Bool → List Bool → List Bool → Type 0
MarksRefs r refs old new = (test : Commit → Bool) → old ≡ marks_of test (values_of r) → new ≡ marks_of (λ made. test made || (refs && is_wanted r made)) (values_of r)

-- what refs reach is marked
pub refs_added : (r : Records) (refs : Bool) (marks others new : List Bool) → refs ≡ true → others ≡ reached_marks r → length new ≡ length marks → AreEither new marks others
    → MarksRefs r refs marks new
refs_added r refs marks others new t o l h =
    λ test e. either_marks (values_of r) test (is_wanted r) marks others new e o l h ∙ ap (λ b. marks_of (λ made. test made || (b && is_wanted r made)) (values_of r)) (sym t)

-- or nothing is
pub refs_left : (r : Records) (refs : Bool) (marks : List Bool) → refs ≡ false → MarksRefs r refs marks marks
refs_left r refs marks t =
    λ test e. e ∙ (λ i. marks_of (λ made. or_nothing (test made) i) (values_of r)) ∙ ap (λ b. marks_of (λ made. test made || (b && is_wanted r made)) (values_of r)) (sym t)
