-- Changes that are not refused leave a repository sound.
use Rattle.std.proofs.Common.{◌≡◌, Bool, true, false, List, [], ◌∷◌, Option, Some, None, Result, Ok, Err, refl, sym, ap, subst, ◌∙◌}
use Rattle.std.specs.Prelude.{T, not, is_some, if◌then◌else◌}
use Rattle.std.specs.Bool.{passes}
use Rattle.std.specs.List.{AllByRecursion, list_all}
use Rattle.std.specs.declared.cmp.Ordering.TheVariants.{Less, Equal, Greater}
use Rattle.std.specs.FinMap.Entries.{by_order, is_sorted, is_sorted-put, put}
use Rattle.gx_model.specs.declared.faults.Fault.{Fault}
use Rattle.gx_model.specs.declared.faults.Fault.TheVariants.{BadRefName, UnknownObject, WrongKind}
use Rattle.gx_model.specs.declared.objects.Kind.{Kind}
use Rattle.gx_model.specs.Texts.{Bytes, byte_cmp}
use Rattle.gx_model.specs.Texts.RefNames.{is_ref_name}
use Rattle.gx_model.specs.Objects.{IsNamer}
use Rattle.gx_model.specs.Histories.{Record, Records}
use Rattle.gx_model.specs.Records.Sound.{IsSound, IsTarget}
use Rattle.gx_model.specs.Records.Growth.{record_named}
use Rattle.gx_model.specs.Laws.RepositoryLaws.{PartsChange, values_of, with_refs}
use Rattle.gx_model.specs.Stores.StoreReading.{is_target, is_target_of_kind}
use Rattle.gx_model.proofs.Texts.PathTests.{both, first, second, is_true}
use Rattle.gx_model.specs.Records.Publishing.{Change, Ref, change_fault, changes_fault, published, with_changes}
use Rattle.gx_model.specs.Faults.{unless}
use Rattle.std.specs.Option.{option_or}
use Rattle.gx_model.proofs.Records.HeldObjects.{IsShown, is_target_of}
use Rattle.gx_model.proofs.Records.SortedRefs.{order, same_text}

names_kept : (n object : Bytes) (refs : List Ref) → T (is_ref_name n) → T (list_all (λ ref. is_ref_name ref.0) refs) → T (list_all (λ ref. is_ref_name ref.0) (put byte_cmp n object refs))
names_kept n object [] is h = both _ _ is tt
names_kept n object (e ∷ es) is h =
    elim (byte_cmp n e.0) as (λ o. T (list_all (λ ref. is_ref_name ref.0) (by_order o ((n, object) ∷ e ∷ es) ((e.0, object) ∷ es) (e ∷ put byte_cmp n object es)))) [
      | Less ↦ both _ _ is h
      | Equal ↦ h
      | Greater ↦ both _ _ (first _ _ h) (names_kept n object es is (second (is_ref_name e.0) _ h))
    ]

targets_kept : (rs : List Record) (n object : Bytes) (refs : List Ref) → IsTarget rs n object → AllByRecursion (λ ref. IsTarget rs ref.0 ref.1) refs → AllByRecursion (λ ref. IsTarget rs ref.0 ref.1) (put byte_cmp n object refs)
targets_kept rs n object [] is h = (is, tt)
targets_kept rs n object (e ∷ es) is h =
    elim (byte_cmp n e.0) as (λ o. byte_cmp n e.0 ≡ o → AllByRecursion (λ ref. IsTarget rs ref.0 ref.1) (by_order o ((n, object) ∷ e ∷ es) ((e.0, object) ∷ es) (e ∷ put byte_cmp n object es))) [
      | Less ↦ λ q. (is, h)
      | Equal ↦ λ q. (subst (λ z. IsTarget rs z object) (same_text n e.0 q) is, h.1)
      | Greater ↦ λ q. (h.0, targets_kept rs n object es is h.1)
    ] refl

-- what is not refused has a ref name, and an object that it may hold
pub record IsGood (rs : List Record) (change : Change) : Type 0 where
  pub named : T (is_ref_name change.0)
  pub may : is_target change.0 (record_named rs change.1) ≡ true

good : (rs : List Record) (change : Change) → change_fault rs change ≡ None → IsGood rs change
good rs change e = by (is_ref_name change.0) (is_some (record_named rs change.1)) (is_target change.0 (record_named rs change.1)) refl refl refl
  where
    by : (a b c : Bool) → is_ref_name change.0 ≡ a → is_some (record_named rs change.1) ≡ b → is_target change.0 (record_named rs change.1) ≡ c → IsGood rs change
    by false b c p q r = absurd (cc)
    by true false c p q r = absurd (cc)
    by true true false p q r = absurd (cc)
    by true true true p q r = record { named = passes _ p; may = r }

-- why a change of a held object is refused
pub fault_shown : (rs : List Record) (change : Change) (kind : Kind) (body : Bytes) → is_ref_name change.0 ≡ true → IsShown rs change.1 kind body
    → change_fault rs change ≡ (if not (is_target_of_kind change.0 kind body) then Some WrongKind else None)
fault_shown rs change kind body named h =
    (λ i. if not (named i) then Some BadRefName else (if not (is_some (h.found i)) then Some UnknownObject else (if not (is_target change.0 (h.found i)) then Some WrongKind else None)))
    ∙ (λ i. if not (is_target_of_kind change.0 (h.of_kind i) (h.of_body i)) then Some WrongKind else None)

-- and otherwise all are set
pub record AreSet (r : Records) (changes : List Change) (refs : List Ref) : Type 0 where
  pub free : changes_fault r.records changes ≡ None
  pub are : refs ≡ with_changes r.refs changes

abbrev refs_of : Result (List Ref) Fault → List Ref
refs_of (Ok refs) = refs
refs_of (Err fault) = []

pub are_set : (r : Records) (changes : List Change) (refs : List Ref) → published r changes ≡ Ok refs → AreSet r changes refs
unfolding published
are_set r changes refs e = by (changes_fault r.records changes) refl e
  where
    by : (o : Option Fault) → changes_fault r.records changes ≡ o → unless o (with_changes r.refs changes) ≡ Ok refs → AreSet r changes refs
    by None f e = record { free = f; are = sym (ap refs_of e) }
    by (Some w) f e = absurd (cc)

module _ (name : Kind → Bytes → Bytes) (namer : IsNamer name) (changes_law : PartsChange name) (r : Records) (sound : IsSound name r) where
  -- refs in order, with ref names, at commits and at tags of their own
  record AreRefs (refs : List Ref) : Type 0 where
    pub sorted : T (is_sorted byte_cmp refs)
    pub names : T (list_all (λ ref. is_ref_name ref.0) refs)
    pub held : AllByRecursion (λ ref. IsTarget r.records ref.0 ref.1) refs

  changed : (refs : List Ref) (changes : List Change) → changes_fault r.records changes ≡ None → AreRefs refs → AreRefs (with_changes refs changes)
  changed refs [] e h = h
  changed refs (c ∷ cs) e h =
      elim (change_fault r.records c) as (λ o. change_fault r.records c ≡ o → option_or o (changes_fault r.records cs) ≡ None → AreRefs (with_changes refs (c ∷ cs))) [
        | None ↦ λ f g.
            let is = good r.records c f in
            changed (put byte_cmp c.0 c.1 refs) cs g (record {
              sorted = is_sorted-put byte_cmp order c.0 c.1 refs h.sorted;
              names = names_kept c.0 c.1 refs is.named h.names;
              held = targets_kept r.records c.0 c.1 refs (is_target_of name namer r sound c.0 c.1 is.may) h.held;
            })
        | Some w ↦ λ f g. absurd (cc)
      ] refl e

  set_is_sound : (changes : List Change) → changes_fault r.records changes ≡ None → IsSound name (with_refs r (with_changes r.refs changes)) × (values_of (with_refs r (with_changes r.refs changes)) ≡ values_of r)
  set_is_sound changes e =
      let h = changed r.refs changes e (record { sorted = passes _ sound.sorted; names = passes _ sound.ref_names; held = sound.held }) in
      changes_law.refs r sound (with_changes r.refs changes) (is_true _ h.sorted) (is_true _ h.names) h.held

  -- with the refs that changes give the repository is sound, and has the same values
  pub published_is_sound : (changes : List Change) (refs : List Ref) → published r changes ≡ Ok refs → IsSound name (with_refs r refs) × (values_of (with_refs r refs) ≡ values_of r)
  published_is_sound changes refs e =
      let set = are_set r changes refs e in
      subst (λ rs. IsSound name (with_refs r rs) × (values_of (with_refs r rs) ≡ values_of r)) (sym set.are) (set_is_sound changes set.free)
