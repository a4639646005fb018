-- Refs that pass tests, as they are kept of a repository's.
use Rattle.std.proofs.Common.{◌≡◌, ℕ, Bool, refl, sym, ap, subst, ◌∙◌, List, [], Option, Some, None, Ok}
use Rattle.std.specs.Prelude.{IfSome, IsTrue, ◌||◌}
use Rattle.std.specs.BTreeSet.{BTreeSet, contains}
use Rattle.std.specs.List.{AllByRecursion, filter}
use Rattle.std.specs.Ordering.{nat_cmp}
use Rattle.gx_model.specs.declared.objects.Kind.{Kind}
use Rattle.gx_model.specs.declared.objects.Kind.TheVariants as kinds
use Rattle.gx_model.specs.Faults.{Given, ◌>>=◌}
use Rattle.gx_model.specs.Histories.{Records, Target, value_at as held_value}
use Rattle.gx_model.specs.Histories.Values.{Commit, Value, blob_value, commit_value, tag_value, tree_value}
use Rattle.gx_model.specs.Objects.{IsNamer}
use Rattle.gx_model.specs.Records.{name_of}
use Rattle.gx_model.specs.Records.HistoryOf.{target_in}
use Rattle.gx_model.specs.Records.Sound.{IsSound}
use Rattle.gx_model.specs.Replay.{peeled_at}
use Rattle.gx_model.specs.Revisions.Denotation.{commit_in}
use Rattle.gx_model.specs.Revisions.Ranges.{reaches}
use Rattle.gx_model.specs.Texts.{Bytes, same_bytes}
use Rattle.gx_model.proofs.Records.HeldValues.{commit_held, commit_stands, held_is}
use Rattle.gx_object.specs.declared.name.Name.{Name}
use Rattle.gx_objects.specs.Answers.{StandsThere}
use Rattle.gx_ranges.specs.Fronts as fronts
use Rattle.gx_ranges.specs.Fronts.{Adds, lead_to}
use Rattle.gx_ranges.proofs.Reached.{same_tests}
use Rattle.gx_ranges.proofs.Steps.{StandsInOrder}
use Rattle.gx_ranges.proofs.Tips.{number_of}
use Rattle.gx_rev.specs.Objects.{IsHeld, IsHeldAs, commit_at, value_at}
use Rattle.gx_tips.specs.Spans.{FindsReached}
use Rattle.gx_tips.specs.Tips.{AreTips, IsTip}
use Rattle.gx_tips.specs.declared.tips.Tip.{Tip}
use Rattle.gx_tips.proofs.Lists.{filtered_seen, holds_both, holds_filtered, holds_for}
use Rattle.gx_tips.proofs.Places.{HasPlaces}
use Rattle.gx_tips.proofs.SetRefs.{peeled_is}
use Rattle.gx_ref_filters.specs.Filters.{AreKept, agrees, is_or_names, points_at}
use Rattle.gx_ref_filters.specs.Steps.{AreLeading, AreSteps, HoldsRef, HoldsRefs, Step}
use Rattle.gx_ref_filters.proofs.Fronts.{reaching_tip}

-- ---- what is kept

-- a ref with what its object stands for
abbrev pub target : Records → Tip → Bytes × Target
target r tip = (tip.name.now, target_in (value_at r tip.object))

-- of what holds of each ref follows that its test is that of its target
pub kept_so : (stands : ℕ → ℕ) (r : Records) (P : Tip → Type 0) (p : Tip → Bool) (test : Bytes × Target → Bool) (refs found : List Tip) → ((tip : Tip) → P tip → p tip ≡ test (target r tip)) → AllByRecursion P refs
    → AreTips stands refs r → found ≡ filter p refs → AreKept stands test refs r found
kept_so stands r P p test refs found same each t e = subst (AreKept stands test refs r) (sym e) (record {
  kept = filtered_seen (target r) p test refs (holds_for P (λ tip. p tip ≡ test (target r tip)) same refs each);
  each = holds_filtered (IsTip stands r) p refs t;
})

-- ---- names

-- what peels to a commit is a ref's value
target_value : (v : Value) (c : Commit) → commit_in v ≡ Ok c → held_value (target_in v) ≡ v
target_value (blob_value x) c e = absurd cc
target_value (tree_value f) c e = absurd cc
target_value (commit_value d) c e = refl
target_value (tag_value t) c e = refl

module _ (name : Kind → Bytes → Bytes) (namer : IsNamer name) (stands : ℕ → ℕ) where
  -- a held object's value has its name
  value_named : (r : Records) → IsSound name r → (called : Name) → IsHeld r called → name_of name (value_at r called) ≡ called.bytes
  value_named r s called h = (held_is name namer r s called.bytes h).named

  commit_named : (r : Records) → IsSound name r → (called : Name) → IsHeldAs kinds.Commit r called → name_of name (commit_value (commit_at r called)) ≡ called.bytes
  commit_named r s called h = ap (name_of name) (sym (commit_stands name namer r s called.bytes h).0) ∙ value_named r s called (commit_held name namer r s called.bytes h)

  pub target_named : (r : Records) → IsSound name r → (tip : Tip) → IsTip stands r tip → name_of name (held_value (target r tip).1) ≡ tip.object.bytes
  target_named r s tip t = ap (name_of name) (target_value (value_at r tip.object) (commit_at r tip.commit) t.peeled) ∙ value_named r s tip.object t.object

  peeled_named : (r : Records) → IsSound name r → (tip : Tip) → IsTip stands r tip → name_of name (commit_value (peeled_at (target r tip).1)) ≡ tip.commit.bytes
  peeled_named r s tip t = ap (λ c. name_of name (commit_value c)) (sym (peeled_is (value_at r tip.object) (commit_at r tip.commit) t.peeled)) ∙ commit_named r s tip.commit t.commit

  pub points_kept : (told : Option Records) (object : Name) (refs found : List Tip) → found ≡ filter (is_or_names object) refs → IfSome told (IsSound name) → IfSome told (AreTips stands refs) → IfSome told (λ r. IsHeld r object)
      → IfSome told (λ r. AreKept stands (λ ref. points_at name (value_at r object) ref.1) refs r found)
  points_kept None object refs found e s t h = tt
  points_kept (Some r) object refs found e s t h = kept_so stands r (IsTip stands r) (is_or_names object) (λ ref. points_at name (value_at r object) ref.1) refs found same t t e
    where
      same : (tip : Tip) → IsTip stands r tip → is_or_names object tip ≡ points_at name (value_at r object) (target r tip).1
      same tip i =
          let a = target_named r s tip i in
          let b = peeled_named r s tip i in
          let c = value_named r s object h in
          ap (λ x. same_bytes x object.bytes || same_bytes tip.commit.bytes object.bytes) (sym a)
          ∙ ap (λ x. same_bytes (name_of name (held_value (target r tip).1)) object.bytes || same_bytes x object.bytes) (sym b)
          ∙ ap (λ x. same_bytes (name_of name (held_value (target r tip).1)) x || same_bytes (name_of name (commit_value (peeled_at (target r tip).1))) x) (sym c)

  -- ---- what a commit reaches

  pub reached_kept : (told : Option Records) (commit : Name) (so : Bool) (start front : List (ℕ × Name)) (places reached : BTreeSet ℕ) (refs found : List Tip) → start ≡ []
      → found ≡ filter (λ tip. agrees so (contains nat_cmp reached tip.place)) refs → HasPlaces places refs → IfSome told (IsSound name) → IfSome told (StandsInOrder stands) → IfSome told (AreTips stands refs)
      → IfSome told (λ r. Adds stands (reaches (commit_at r commit)) start front r) → IfSome told (λ r. FindsReached stands front places r reached)
      → IfSome told (λ r. AreKept stands (λ ref. agrees so (reaches (commit_at r commit) (peeled_at ref.1))) refs r found)
  reached_kept None commit so start front places reached refs found n e has s o t a f = tt
  reached_kept (Some r) commit so start front places reached refs found n e has s o t a f =
      kept_so stands r (λ tip. IsTip stands r tip × IsTrue (contains nat_cmp places tip.place)) (λ tip. agrees so (contains nat_cmp reached tip.place)) (λ ref. agrees so (reaches (commit_at r commit) (peeled_at ref.1))) refs found same
      (holds_both (IsTip stands r) (λ tip. IsTrue (contains nat_cmp places tip.place)) refs t has) t e
    where
      adds : Adds stands (reaches (commit_at r commit)) [] front r
      adds = subst (λ xs. Adds stands (reaches (commit_at r commit)) xs front r) n a

      same : (tip : Tip) → IsTip stands r tip × IsTrue (contains nat_cmp places tip.place) → agrees so (contains nat_cmp reached tip.place) ≡ agrees so (reaches (commit_at r commit) (peeled_at (target r tip).1))
      same tip h =
          let k = number_of name namer r s stands o (tip.place, tip.commit) (h.0.commit, h.0.place) in
          ap (agrees so) (f tip.place h.1 k.0 (commit_at r tip.commit) k.1 k.2 ∙ adds.reach (commit_at r tip.commit)
          ∙ ap (reaches (commit_at r commit)) (peeled_is (value_at r tip.object) (commit_at r tip.commit) h.0.peeled))

  -- ---- what reaches a commit

  pub reaching_kept : (told : Option Records) (commit : Name) (place : ℕ) (so : Bool) (front : List (ℕ × Name)) (steps : List Step) (places : BTreeSet ℕ) (refs found : List Tip)
      → found ≡ filter (λ tip. agrees so (contains nat_cmp places tip.place)) refs → AreLeading place steps places → IfSome told (IsSound name) → IfSome told (StandsInOrder stands) → IfSome told (AreTips stands refs)
      → IfSome told (λ r. IsHeldAs kinds.Commit r commit) → IfSome told (λ r. StandsThere stands commit.bytes r (Some place)) → IfSome told (λ r. HoldsRefs stands refs r front) → IfSome told (λ r. AreSteps stands place front r steps)
      → IfSome told (λ r. AreKept stands (λ ref. agrees so (reaches (peeled_at ref.1) (commit_at r commit))) refs r found)
  reaching_kept None commit place so front steps places refs found e leading s o t h there holds down = tt
  reaching_kept (Some r) commit place so front steps places refs found e leading s o t h there holds down =
      kept_so stands r (λ tip. IsTip stands r tip × HoldsRef r front tip) (λ tip. agrees so (contains nat_cmp places tip.place)) (λ ref. agrees so (reaches (peeled_at ref.1) (commit_at r commit))) refs found same
      (holds_both (IsTip stands r) (HoldsRef r front) refs t holds.each) t e
    where
      goal : Commit
      goal = commit_at r commit

      same : (tip : Tip) → IsTip stands r tip × HoldsRef r front tip → agrees so (contains nat_cmp places tip.place) ≡ agrees so (reaches (peeled_at (target r tip).1) goal)
      same tip i =
          let k = number_of name namer r s stands o (place, commit) (h, there) in
          ap (agrees so) (same_tests (contains nat_cmp places tip.place) (reaches (commit_at r tip.commit) goal)
          (λ c. reaching_tip name namer r s stands o (tip.place, tip.commit) goal (i.0.commit, i.0.place) (down.only k.0 goal k.1 k.2 tip.place (sym (leading tip.place) ∙ c)))
          (λ c. leading tip.place ∙ down.all k.0 goal k.1 k.2 tip.place (i.1 goal c))
          ∙ ap (λ c. reaches c goal) (peeled_is (value_at r tip.object) (commit_at r tip.commit) i.0.peeled))

pub reads_tips : (stands : ℕ → ℕ) (told : Option Records) (refs : List Tip) (front : List (ℕ × Name)) → IfSome told (λ r. HoldsRefs stands refs r front) → IfSome told (fronts.AreTips stands front)
reads_tips stands None refs front h = tt
reads_tips stands (Some r) refs front h = h.tips

-- the test of what is given
pub given_kept : {X : Type 0} (stands : ℕ → ℕ) (told : Option Records) (refs found : List Tip) (given : Records → Given X) (is : Records → X) (next : Records → X → Target → Bool) → IfSome told (λ r. given r ≡ Ok (is r))
    → IfSome told (λ r. AreKept stands (λ ref. next r (is r) ref.1) refs r found) → IfSome told (λ r. (test : Target → Bool) × ((given r >>= λ x. Ok (next r x)) ≡ Ok test) × AreKept stands (λ ref. test ref.1) refs r found)
given_kept stands None refs found given is next e k = tt
given_kept stands (Some r) refs found given is next e k = (next r (is r), ap (λ g. g >>= λ x. Ok (next r x)) e, k)
