-- What fronts of range words reach: the refs that a range sets, and the commits that it lists.
use Rattle.std.proofs.Common.{◌≡◌, ℕ, Bool, sym, ap, subst, ◌∙◌, List, [], ◌∷◌, ◌++◌, map, Option, Some, None, Result, Ok, Err, append_assoc, append-nil}
use Rattle.std.specs.Prelude.{IfSome, IsTrue, ◌||◌}
use Rattle.std.specs.BTreeMap.{insert_entry}
use Rattle.std.specs.BTreeSet.{BTreeSet, contains}
use Rattle.std.specs.List.{filter}
use Rattle.std.specs.Ordering.{nat_cmp}
use Rattle.std.specs.declared.vec.Vec.{Vec}
use Rattle.gx_model.specs.declared.objects.Kind.{Kind}
use Rattle.gx_model.specs.Changes.{is_in_range}
use Rattle.gx_model.specs.Histories.{Records, Target}
use Rattle.gx_model.specs.Histories.Values.{Commit, Value, blob_value, commit_value, tag_value, tree_value}
use Rattle.gx_model.specs.Laws.RangeLaws.{is_excluded}
use Rattle.gx_model.specs.Objects.{IsNamer}
use Rattle.gx_model.specs.Records.HistoryOf.{history_of, target_in}
use Rattle.gx_model.specs.Records.Sound.{IsSound}
use Rattle.gx_model.specs.Replay.{peeled_at}
use Rattle.gx_model.specs.Revisions.Denotation.{commit_in}
use Rattle.gx_model.specs.Revisions.{RangeWord}
use Rattle.gx_model.specs.Revisions.Ranges.{Word, reaches, span}
use Rattle.gx_model.specs.Texts.{Bytes}
use Rattle.gx_model.proofs.Records.PeeledRefs.{told as shown_ref}
use Rattle.gx_object.specs.declared.name.Name.{Name}
use Rattle.gx_objects.specs.Answers.{Tells}
use Rattle.gx_objects.specs.declared.fault.LookFault.{LookFault}
use Rattle.gx_rev.specs.Objects.{commit_at, value_at}
use Rattle.gx_rev.specs.Walking.{is_included}
use Rattle.gx_ranges.specs.Fronts as fronts
use Rattle.gx_ranges.specs.Fronts.{Adds, lead_to}
use Rattle.gx_ranges.specs.Listings.{AreReached}
use Rattle.gx_ranges.specs.Words.{AddsWords}
use Rattle.gx_ranges.proofs.Steps.{StandsInOrder}
use Rattle.gx_ranges.proofs.Tips.{inserted, last_leads, number_of}
use Rattle.gx_ranges.proofs.WordTips.{adds_both, adds_nothing, adds_same, listed_so}
use Rattle.gx_tips.specs.Spans.{AreHeld, AreListed, AreSetRefs, AreSpans, FindsReached, FindsSpans}
use Rattle.gx_tips.specs.Tips.{AreAllRefs, IsTip, shown_tip, targets}
use Rattle.gx_tips.specs.declared.spans.Spans.{Spans}
use Rattle.gx_tips.specs.declared.tips.Tip.{Tip}
use Rattle.gx_tips.proofs.Lists.{any_either, filtered_seen, holds_behind, holds_both, holds_filtered, holds_for, mapped_twice}
use Rattle.gx_tips.proofs.Order.{newest_first}
use Rattle.gx_tips.proofs.Places.{HasPlaces}

-- ---- the commits of one front, put into another

-- the first of some commits were added
pub record AddsFront (stands : ℕ → ℕ) (all left old now : List (ℕ × Name)) (r : Records) : Type 0 where
  pub done : List (ℕ × Name)
  pub whole : all ≡ done ++ left
  pub adds : Adds stands (lead_to r done) old now r

module _ (stands : ℕ → ℕ) (all old : List (ℕ × Name)) where
  pub none_added : (told : Option Records) (left : List (ℕ × Name)) → left ≡ all → IfSome told (fronts.AreTips stands old) → IfSome told (AddsFront stands all left old old)
  none_added None left e t = tt
  none_added (Some r) left e t = record { done = []; whole = sym e; adds = adds_nothing stands old r t }

  pub one_added : (name : Kind → Bytes → Bytes) → IsNamer name → (told : Option Records) (tip : ℕ × Name) (left rest now new : List (ℕ × Name)) → left ≡ tip ∷ rest → new ≡ insert_entry nat_cmp now tip.0 tip.1
      → IfSome told (IsSound name) → IfSome told (StandsInOrder stands) → IfSome told (fronts.AreTips stands all) → IfSome told (AddsFront stands all left old now) → IfSome told (AddsFront stands all rest old new)
  one_added name namer None tip left rest now new e f s o t a = tt
  one_added name namer (Some r) tip left rest now new e f s o t a =
      let whole : all ≡ a.done ++ tip ∷ rest = a.whole ∙ ap (λ xs. a.done ++ xs) e in
      let held = holds_behind (fronts.IsTip stands r) a.done tip rest (subst (λ xs. fronts.AreTips stands xs r) whole t) in
      let one = subst (λ xs. Adds stands (reaches (commit_at r tip.1)) now xs r) (sym f) (inserted name namer r s stands o tip.0 tip.1 now held a.adds.tips) in
      record {
        done = a.done ++ tip ∷ [];
        whole = whole ∙ sym (append_assoc a.done (tip ∷ []) rest);
        adds = adds_same stands r (λ c. lead_to r a.done c || reaches (commit_at r tip.1) c) (lead_to r (a.done ++ tip ∷ [])) old new (λ c. sym (last_leads r a.done tip c))
            (adds_both stands r (lead_to r a.done) (reaches (commit_at r tip.1)) old now new a.adds one);
      }

  pub all_added : (told : Option Records) (left now : List (ℕ × Name)) → left ≡ [] → IfSome told (AddsFront stands all left old now) → IfSome told (λ r. Adds stands (lead_to r all) old now r)
  all_added None left now e a = tt
  all_added (Some r) left now e a =
      let same = a.whole ∙ ap (λ xs. a.done ++ xs) e ∙ append-nil a.done in
      subst (λ xs. Adds stands (lead_to r xs) old now r) (sym same) a.adds

-- ---- the refs that are set

-- what an object peels to is the commit of its target
pub peeled_is : (v : Value) (c : Commit) → commit_in v ≡ Ok c → c ≡ peeled_at (target_in v)
peeled_is (blob_value x) c e = absurd cc
peeled_is (tree_value f) c e = absurd cc
peeled_is (commit_value d) c e = let same : d ≡ c = cc in sym same
peeled_is (tag_value t) c e = let same : t.target ≡ c = cc in sym same

-- a range has what its words include and what they exclude
in_range : (words : List Word) (c : Commit) → (is_included words c || is_excluded words c) ≡ is_in_range words c
in_range words c = sym (any_either (λ w. (span w).included c) (λ w. (span w).excluded c) words)

-- all refs, with what their objects stand for
pub all_targets : (stands : ℕ → ℕ) (r : Records) (refs : List Tip) → AreAllRefs stands r refs → targets r refs ≡ (history_of r).refs
all_targets stands r refs all = sym (mapped_twice (shown_ref r) shown_tip refs) ∙ ap (map (shown_ref r)) all.refs

module _ {A : Type 0} (name : Kind → Bytes → Bytes) (namer : IsNamer name) (stands : ℕ → ℕ) (spans : Spans A) (refs : List Tip) (half front : List (ℕ × Name)) (places reached : BTreeSet ℕ) where
  -- the front has the commits of both
  module _ (r : Records) (sound : IsSound name r) (order : StandsInOrder stands r) (all : AreAllRefs stands r refs) (wanted : Adds stands (lead_to r spans.wanted.entries) [] half r) (unwanted : Adds stands (lead_to r spans.unwanted.entries) half front r)
      (has : HasPlaces places refs) (found : FindsReached stands front places r reached) where
    leads : (words : List Word) (c : Commit) → AreSpans stands words r spans → lead_to r front c ≡ is_in_range words c
    leads words c s =
        unwanted.reach c
        ∙ ap (λ b. b || lead_to r spans.unwanted.entries c) (wanted.reach c ∙ s.included.reach c)
        ∙ ap (λ b. is_included words c || b) (s.excluded.reach c)
        ∙ in_range words c

    abbrev passes : List Word → Bytes × Target → Bool
    passes words ref = is_in_range words (peeled_at ref.1)

    tip_found : (words : List Word) → AreSpans stands words r spans → (tip : Tip) → IsTip stands r tip × IsTrue (contains nat_cmp places tip.place) → contains nat_cmp reached tip.place ≡ passes words (tip.name.now, target_in (value_at r tip.object))
    tip_found words s tip h =
        let n = number_of name namer r sound stands order (tip.place, tip.commit) (h.0.commit, h.0.place) in
        found tip.place h.1 n.0 (commit_at r tip.commit) n.1 n.2 ∙ leads words (commit_at r tip.commit) s
        ∙ ap (is_in_range words) (peeled_is (value_at r tip.object) (commit_at r tip.commit) h.0.peeled)

    are_set : AreSetRefs stands spans r (filter (λ tip. contains nat_cmp reached tip.place) refs)
    are_set = record {
      set = λ words s.
          filtered_seen (λ (tip : Tip). (tip.name.now, target_in (value_at r tip.object))) (λ tip. contains nat_cmp reached tip.place) (passes words) refs
          (holds_for (λ tip. IsTip stands r tip × IsTrue (contains nat_cmp places tip.place)) (λ tip. contains nat_cmp reached tip.place ≡ passes words (tip.name.now, target_in (value_at r tip.object))) (tip_found words s) refs
          (holds_both (IsTip stands r) (λ tip. IsTrue (contains nat_cmp places tip.place)) refs all.each has))
          ∙ ap (filter (passes words)) (all_targets stands r refs all);
      each = holds_filtered (IsTip stands r) (λ tip. contains nat_cmp reached tip.place) refs all.each;
    }

  pub finds_set : (told : Option Records) (start : List (ℕ × Name)) (found : List Tip) → start ≡ [] → found ≡ filter (λ tip. contains nat_cmp reached tip.place) refs → HasPlaces places refs → IfSome told (IsSound name) → IfSome told (StandsInOrder stands) → IfSome told (λ r. AreAllRefs stands r refs)
      → IfSome told (λ r. Adds stands (lead_to r spans.wanted.entries) start half r) → IfSome told (λ r. Adds stands (lead_to r spans.unwanted.entries) half front r) → IfSome told (λ r. FindsReached stands front places r reached) → IfSome told (λ r. AreSetRefs stands spans r found)
  finds_set None start found n e has s o all a b f = tt
  finds_set (Some r) start found n e has s o all a b f =
      let first = subst (λ xs. Adds stands (lead_to r spans.wanted.entries) xs half r) n a in
      subst (AreSetRefs stands spans r) (sym e) (are_set r s o all first b has f)

-- ---- the commits that are listed

pub finds_listed : {A : Type 0} (name : Kind → Bytes → Bytes) → IsNamer name → (stands : ℕ → ℕ) (told : Option Records) (spans : Spans A) (result : Result (Vec Name A) LookFault) → IfSome told (IsSound name)
    → Tells told (λ r names. AreReached spans.wanted.entries spans.unwanted.entries r names.items) result → Tells told (λ r names. AreListed stands spans r names.items) result
finds_listed name namer stands None spans result s h = tt
finds_listed name namer stands (Some r) spans (Err f) s h = tt
finds_listed name namer stands (Some r) spans (Ok names) s h = record {
  listed = λ words w. h.commits ∙ listed_so stands r words spans.wanted.entries spans.unwanted.entries w.included w.excluded;
  order = newest_first name namer r s (lead_to r spans.wanted.entries) (lead_to r spans.unwanted.entries) names.items h.held h.commits;
}

-- ---- the tips of spans

pub no_tips : (stands : ℕ → ℕ) (told : Option Records) (xs : List (ℕ × Name)) → xs ≡ [] → IfSome told (fronts.AreTips stands xs)
no_tips stands None xs e = tt
no_tips stands (Some r) xs e = subst (λ ys. fronts.AreTips stands ys r) (sym e) tt

-- what words add to two fronts
pub spans_found : {A : Type 0} (name : Kind → Bytes → Bytes) (stands : ℕ → ℕ) (told : Option Records) (asked : List RangeWord) (spans : Spans A) → AddsWords name stands told asked spans.wanted.entries spans.unwanted.entries (Ok tt)
    → FindsSpans name stands told asked (Ok spans)
spans_found name stands None asked spans h = tt
spans_found name stands (Some r) asked spans h = (h.0, h.1, record { included = h.2; excluded = h.3 })

pub wanted_held : {A : Type 0} (stands : ℕ → ℕ) (told : Option Records) (spans : Spans A) → IfSome told (AreHeld stands spans) → IfSome told (fronts.AreTips stands spans.wanted.entries)
wanted_held stands None spans h = tt
wanted_held stands (Some r) spans h = h.included

pub unwanted_held : {A : Type 0} (stands : ℕ → ℕ) (told : Option Records) (spans : Spans A) → IfSome told (AreHeld stands spans) → IfSome told (fronts.AreTips stands spans.unwanted.entries)
unwanted_held stands None spans h = tt
unwanted_held stands (Some r) spans h = h.excluded
