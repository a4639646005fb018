-- Nothing is against the changes of refs that aren't refused.
use Rattle.std.proofs.Common.{◌≡◌, ℕ, Bool, true, false, List, [], ◌∷◌, map, Option, Some, None, Ok, Err, refl, sym, ap, ◌∙◌}
use Rattle.std.specs.Prelude.{IsTrue, not, is_some, if◌then◌else◌}
use Rattle.std.specs.Map.{lookup}
use Rattle.std.specs.Option.{option_or}
use Rattle.gx_model.specs.declared.faults.Fault.{Fault}
use Rattle.gx_model.specs.declared.faults.Fault.TheVariants as model
use Rattle.gx_model.specs.Texts.{Bytes, same_bytes}
use Rattle.gx_model.specs.Texts.RefNames.{is_ref_name}
use Rattle.gx_model.specs.Faults.{unless}
use Rattle.gx_model.specs.Histories.{Record, Records}
use Rattle.gx_model.specs.Laws.RepositoryLaws.{with_refs}
use Rattle.gx_model.specs.Records.Growth.{record_named}
use Rattle.gx_model.specs.Records.Publishing.{Change, Ref, change_fault, changes_fault, published, with_changes}
use Rattle.gx_model.specs.Stores.StoreReading.{is_target, is_target_of_kind}
use Rattle.gx_repo.proofs.DroppedRefs.{are_left, none_unknown}
use Rattle.gx_repo.specs.Dropping.{dropped, is_among, unknown_behind, without}
use Rattle.gx_wide.specs.Placing.{Dangling, TakeFault, WrongKind, is_dropped}
use Rattle.gx_taken.specs.Setting.{HaveRefNames}
use Rattle.gx_taken.specs.Taking.{Refusal, first_refused, move_fault, ref_fault, set_fault, untaken}
use Rattle.gx_taken.proofs.ToldRefs.{turn, turned}

module _ (force : Bool) (r : Records) where
  -- what is against the move of a ref, if that is looked at
  abbrev moved : Ref → Option TakeFault
  moved ref = if force then None else move_fault r ref (lookup (same_bytes ref.0) r.refs)

  -- what is against an object in a ref
  abbrev model_fault : Ref → Option Record → Option Fault
  model_fault ref o = if not (is_some o) then Some model.UnknownObject else (if not (is_target ref.0 o) then Some model.WrongKind else None)

  -- what is against it, by what is held of it
  abbrev object_fault : Ref → Option Record → Option TakeFault
  object_fault ref o = elim o [
    | None ↦ Some (Dangling ref.0 ref.1)
    | Some held ↦ if not (is_target_of_kind ref.0 held.kind held.body) then Some (WrongKind ref.0) else moved ref
  ]

  set_free : (ref : Ref) → IsTrue (is_ref_name ref.0) → set_fault force r ref ≡ None → change_fault r.records ref ≡ None
  set_free ref name free = ap (λ b. if not b then Some model.BadRefName else model_fault ref (record_named r.records ref.1)) name ∙ by (record_named r.records ref.1) free where
    may : (b : Bool) → (if not b then Some (WrongKind ref.0) else moved ref) ≡ None → (if not b then Some model.WrongKind else None) ≡ None
    may true e = refl
    may false e = absurd (cc e)

    by : (o : Option Record) → object_fault ref o ≡ None → model_fault ref o ≡ None
    by None e = absurd (cc e)
    by (Some held) e = may (is_target_of_kind ref.0 held.kind held.body) e

  -- of a ref that is to be dropped nothing is asked
  one_free : (ref : Ref) → IsTrue (is_ref_name ref.0) → ref_fault force r ref ≡ None → is_dropped ref.1 ≡ false → change_fault r.records ref ≡ None
  one_free ref name free set = set_free ref name (sym (ap (λ d. if d then None else set_fault force r ref) set) ∙ free)

  turn_free : (ref : Ref) (later : List Bytes × List Change) → (is_dropped ref.1 ≡ false → change_fault r.records ref ≡ None) → changes_fault r.records later.1 ≡ None → changes_fault r.records (turn ref later).1 ≡ None
  turn_free ref later one others = by (is_among later.0 ref.0) (is_dropped ref.1) one where
    by : (a d : Bool) → (d ≡ false → change_fault r.records ref ≡ None)
        → changes_fault r.records (if a then later else (if d then (ref.0 ∷ later.0, later.1) else (later.0, ref ∷ later.1))).1 ≡ None
    by true d one = others
    by false true one = others
    by false false one = ap (λ f. option_or f (changes_fault r.records later.1)) (one refl) ∙ others

  -- what is against one, or the others
  abbrev or_others : ℕ × Ref → List (ℕ × Ref) → Option TakeFault → Option (ℕ × Refusal)
  or_others told others f = elim f [ None ↦ first_refused force r others | Some fault ↦ Some (told.0, untaken fault) ]

  first_free : (told : ℕ × Ref) (others : List (ℕ × Ref)) → first_refused force r (told ∷ others) ≡ None → (ref_fault force r told.1 ≡ None) × (first_refused force r others ≡ None)
  first_free told others e = by (ref_fault force r told.1) e where
    by : (f : Option TakeFault) → or_others told others f ≡ None → (f ≡ None) × (first_refused force r others ≡ None)
    by None e = (refl, e)
    by (Some fault) e = absurd (cc e)

  -- where none is refused, nothing is against the changes
  pub all_free : (told : List (ℕ × Ref)) → HaveRefNames told → first_refused force r told ≡ None → changes_fault r.records (turned (map (λ it. it.1) told)).1 ≡ None
  all_free [] names e = refl
  all_free (t ∷ ts) names e =
      let both = first_free t ts e in
      turn_free t.1 (turned (map (λ it. it.1) ts)) (one_free t.1 names.0 both.0) (all_free ts names.1 both.1)

-- ---- what comes of them

-- names that are known are dropped
pub left_by_drop : (old new : Records) (names : List Bytes) → new.records ≡ old.records → dropped names old.refs ≡ Ok new.refs → new ≡ with_refs old (without names old.refs)
left_by_drop old new names records left =
    let same : new ≡ with_refs old new.refs = rw (sym records) refl in
    same ∙ ap (with_refs old) (are_left names old.refs new.refs left)

pub never_unknown : (refs : List Ref) (names : List Bytes) (number : ℕ) → unknown_behind refs [] names ≡ None → dropped names refs ≡ Err number → ⊥
never_unknown refs names number known h = let bad = sym (none_unknown names refs known) ∙ h in cc bad

-- changes against which there is nothing are made
all_made : (r : Records) (changes : List Change) → changes_fault r.records changes ≡ None → published r changes ≡ Ok (with_changes r.refs changes)
unfolding published
all_made r changes e = ap (λ f. unless f (with_changes r.refs changes)) e

pub never_refused : (r : Records) (changes : List Change) (fault : Fault) → changes_fault r.records changes ≡ None → published r changes ≡ Err fault → ⊥
never_refused r changes fault e h = let bad = sym (all_made r changes e) ∙ h in cc bad

pub left_by_changes : (old new : Records) (changes : List Change) → changes_fault old.records changes ≡ None → new.records ≡ old.records → published old changes ≡ Ok new.refs → new ≡ with_refs old (with_changes old.refs changes)
left_by_changes old new changes e records h =
    let same : new ≡ with_refs old new.refs = rw (sym records) refl in
    let both = sym (all_made old changes e) ∙ h in
    let refs : with_changes old.refs changes ≡ new.refs = cc both in
    same ∙ ap (with_refs old) (sym refs)
