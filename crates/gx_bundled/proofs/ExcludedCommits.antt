-- The commits that words exclude, taken from a front one after the other.
use Rattle.std.proofs.Common.{◌≡◌, ℕ, Bool, List, [], ◌∷◌, ◌++◌, map, append_assoc, append-nil, Option, Some, None, Result, Ok, refl, sym, ap, subst, ◌∙◌}
use Rattle.std.specs.Prelude.{◌||◌}
use Rattle.std.specs.List.{AllByRecursion, list_any}
use Rattle.std.proofs.lemmas.List.{map-append}
use Rattle.gx_model.specs.declared.objects.Kind.{Kind}
use Rattle.gx_model.specs.declared.objects.Kind.TheVariants as kinds
use Rattle.gx_model.specs.Histories.{Records}
use Rattle.gx_model.specs.Histories.Values.{Commit}
use Rattle.gx_model.specs.Laws.RangeLaws.{is_excluded}
use Rattle.gx_model.specs.Revisions.{RangeWord}
use Rattle.gx_model.specs.Revisions.Ranges.{Word, WordFault, reaches}
use Rattle.gx_model.specs.Texts.{Bytes}
use Rattle.gx_object.specs.declared.name.Name.{Name}
use Rattle.gx_objects.specs.declared.fault.LookFault.{LookFault}
use Rattle.gx_objects.specs.declared.fault.LookFault.TheVariants as look
use Rattle.gx_questions.specs.Answers.{of_look}
use Rattle.gx_ranges.specs.Answers.{RefusesWord}
use Rattle.gx_ranges.specs.Fronts.{Adds, AreTips, lead_to}
use Rattle.gx_ranges.specs.Words.{AddsWords}
use Rattle.gx_rev.specs.Objects.{IsHeldAs, commit_at}
use Rattle.gx_bundled.specs.Excluded.{AreExcluded, FindsExcluded}

abbrev pub called : List (ℕ × Name) → List Name
called = map (λ tip. tip.1)

-- the first of some commits were named
pub record NamedBefore (all left : List (ℕ × Name)) (names : List Name) : Type 0 where
  pub done : List (ℕ × Name)
  pub whole : all ≡ done ++ left
  pub named : names ≡ called done

pub none_named : (all left : List (ℕ × Name)) (names : List Name) → left ≡ all → names ≡ [] → NamedBefore all left names
none_named all left names e n = record { done = []; whole = sym e; named = n }

pub one_named : (all left rest : List (ℕ × Name)) (tip : ℕ × Name) (names new : List Name) → left ≡ tip ∷ rest → new ≡ names ++ tip.1 ∷ [] → NamedBefore all left names → NamedBefore all rest new
one_named all left rest tip names new e p h = record {
  done = h.done ++ tip ∷ [];
  whole = h.whole ∙ ap (λ xs. h.done ++ xs) e ∙ sym (append_assoc h.done (tip ∷ []) rest);
  named = p ∙ ap (λ ns. ns ++ tip.1 ∷ []) h.named ∙ sym (map-append (λ (tip : ℕ × Name). tip.1) h.done (tip ∷ []));
}

pub all_named : (all left : List (ℕ × Name)) (names : List Name) → left ≡ [] → NamedBefore all left names → names ≡ called all
all_named all left names e h = h.named ∙ ap called (sym (h.whole ∙ ap (λ xs. h.done ++ xs) e ∙ append-nil h.done))

-- ---- what they reach

module _ (stands : ℕ → ℕ) (r : Records) where
  tips_held : (tips : List (ℕ × Name)) → AreTips stands tips r → AllByRecursion (IsHeldAs kinds.Commit r) (called tips)
  tips_held [] h = tt
  tips_held (x ∷ xs) h = (h.0.0, tips_held xs h.1)

  tips_reach : (tips : List (ℕ × Name)) (c : Commit) → list_any (λ n. reaches (commit_at r n) c) (called tips) ≡ lead_to r tips c
  tips_reach [] c = refl
  tips_reach (x ∷ xs) c = ap (λ b. reaches (commit_at r x.1) c || b) (tips_reach xs c)

  pub are_excluded : (words : List Word) (tips : List (ℕ × Name)) (names : List Name) → names ≡ called tips → Adds stands (is_excluded words) [] tips r → AreExcluded words r names
  are_excluded words tips names e h = record {
    held = subst (AllByRecursion (IsHeldAs kinds.Commit r)) (sym e) (tips_held tips h.tips);
    reach = λ c. ap (list_any (λ n. reaches (commit_at r n) c)) e ∙ tips_reach tips c ∙ h.reach c;
  }

-- what words exclude is found
pub excluded_found : (name : Kind → Bytes → Bytes) (stands : ℕ → ℕ) (told : Option Records) (asked : List RangeWord) (wanted unwanted : List (ℕ × Name)) (names : List Name) → names ≡ called unwanted
    → AddsWords name stands told asked wanted unwanted (Ok tt) → FindsExcluded name told asked (Ok names)
excluded_found name stands None asked wanted unwanted names e h = tt
excluded_found name stands (Some r) asked wanted unwanted names e h = (h.0, h.1, are_excluded stands r h.0 unwanted names e h.3)

-- ---- what is refused of no word

-- only of what tells no repository it is answered that it is damaged
pub refused_look : {X : Type 0} (told : Option Records) (given : Records → Result X WordFault) (fault : LookFault) → (fault ≡ look.Damaged → told ≡ None) → RefusesWord told given 0 (of_look fault)
refused_look told given look.OutOfMemory h = refl
refused_look told given look.ReadFailed h = refl
refused_look told given look.Damaged h = (refl, h refl)

-- want of memory isn't damage
pub no_damage : (told : Option Records) (fault : LookFault) → fault ≡ look.OutOfMemory → fault ≡ look.Damaged → told ≡ None
no_damage told fault e k = absurd (let clash = sym e ∙ k in cc clash)
