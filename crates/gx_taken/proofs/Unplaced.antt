-- What is taken, as the code has what it is made of.
use Rattle.std.proofs.Common.{◌≡◌, ℕ, ◌<◌, Bool, List, Option, Some, None, Ok, Err, length, refl, sym, ap, subst, ◌∙◌}
use Rattle.std.specs.List.{slice_get}
use Rattle.std.specs.Option.{option_map}
use Rattle.std.proofs.lemmas.Option.{slice_get-map, slice_get_within}
use Rattle.gx_model.specs.Texts.{Bytes}
use Rattle.gx_model.specs.Histories.{Record, Records}
use Rattle.gx_model.specs.Laws.RepositoryLaws.{with_refs}
use Rattle.gx_object.specs.declared.name.Name.{Name}
use Rattle.gx_wide.specs.ObjectsTexts.{Item}
use Rattle.gx_wide.specs.Placing.{given_in}
use Rattle.gx_placed.specs.Faults.{take_fault}
use Rattle.gx_placed.specs.Placed.{placed_all}
use Rattle.gx_placed.specs.Places.{IsAgainst, Places, shown_given}
use Rattle.gx_placed.specs.declared.fault.ObjectFault.{ObjectFault}
use Rattle.gx_placed.specs.declared.fault.ObjectFault.TheVariants.{BadObject, Dangling, NameHeld}
use Rattle.gx_placed.specs.declared.fault.PlaceFault.{PlaceFault}
use Rattle.gx_placed.specs.declared.fault.PlaceFault.TheVariants as place
use Rattle.gx_taken.specs.Calls.{ChecksRefs, IsTakenBy, IsUnplaced, IsWithin, TellsUnplaced, object_refused}
use Rattle.gx_taken.specs.Parts.{ArePartsOf, shown_label, shown_labels, shown_ref_items}
use Rattle.gx_taken.specs.Refusals.{shown_refused}
use Rattle.gx_taken.specs.Taking.{first_refused, names_told, number_named, subject, taken, untaken, with_all_told}
use Rattle.gx_taken.specs.declared.fault.TakeFault.{TakeFault}
use Rattle.gx_taken.specs.declared.fault.TakeFault.TheVariants as fault
use Rattle.gx_taken.specs.declared.parts.Label.{Label}
use Rattle.gx_taken.specs.declared.parts.Parts.{Parts}
use Rattle.gx_taken.proofs.Splits.{same_names}
use Rattle.gx_taken.proofs.Takings.{all_taken, not_placed, ref_refused}

subject_is : (against : ObjectFault) (called : Bytes) → subject (take_fault against called) ≡ called
subject_is BadObject called = refl
subject_is NameHeld called = refl
subject_is (Dangling link) called = refl

refused_is : (A : Type 0) (against : ObjectFault) (name : Name) → untaken (take_fault against name.bytes) ≡ shown_refused (object_refused {A = A} name against)
refused_is A BadObject name = refl
refused_is A NameHeld name = refl
refused_is A (Dangling link) name = refl

module _ {A : Type 0} (force : Bool) (r : Records) (items : List Item) (parts : Parts A) (are : ArePartsOf items parts) where
  module _ (at : ℕ) (against : ObjectFault) (h : IsAgainst (shown_given parts.objects) (placed_all (shown_given parts.objects) r.records) at against) where
    -- the label of the object at a place
    labelled : (label : Label) × (slice_get parts.labels.items at ≡ Some label) × (label.name.bytes ≡ h.0.name)
    labelled =
        let told = same_names items 1 at h.0 (sym (ap (λ rs. slice_get rs at) are.objects) ∙ h.1) in
        by (slice_get parts.labels.items at) refl (ap (option_map (λ it. it.1)) (sym (slice_get-map shown_label parts.labels.items at) ∙ ap (λ ls. slice_get ls at) are.labels) ∙ told)
      where
        by : (o : Option Label) → slice_get parts.labels.items at ≡ o → option_map (λ it. it.1) (option_map shown_label o) ≡ Some h.0.name → (label : Label) × (slice_get parts.labels.items at ≡ Some label) × (label.name.bytes ≡ h.0.name)
        by None k e = absurd (cc e)
        by (Some label) k e = let is : label.name.bytes ≡ h.0.name = cc e in (label, k, is)

    -- it is there
    pub labelled_within : at < length parts.labels.items
    labelled_within = let l = labelled in slice_get_within parts.labels.items at l.0 l.1

    -- an object can't be placed
    pub object_untaken : (left : Records) (told : TakeFault A) → IsUnplaced parts.labels.items at against told → IsTakenBy (taken force r items) left (Err told)
    object_untaken left told is =
        let l = labelled in
        let placed = ap (λ rs. placed_all rs r.records) (sym are.objects) ∙ h.2 in
        let number : number_named (names_told 1 items) (subject (take_fault against h.0.name)) ≡ number_named (shown_labels parts.labels.items) l.0.name.bytes =
        ap (number_named (names_told 1 items)) (subject_is against h.0.name ∙ sym l.2) ∙ ap (λ ls. number_named ls l.0.name.bytes) (sym are.labels) in
        let refused : untaken (take_fault against h.0.name) ≡ shown_refused (object_refused {A = A} l.0.name against) = ap (λ called. untaken (take_fault against called)) (sym l.2) ∙ refused_is A against l.0.name in
        subst (λ (t : TakeFault A). IsTakenBy (taken force r items) left (Err t)) (sym (is l.0 l.1))
        (not_placed force r items (take_fault against h.0.name) placed ∙ (λ i. Err (number i, refused i)))

  -- each object that isn't placed has a label
  pub is_within : (held now : List Record) (why : PlaceFault) → held ≡ r.records → Places {X = Unit {0}} (shown_given parts.objects) held now (Err why) → IsWithin parts.labels.items why
  is_within held now place.OutOfMemory e h = tt
  is_within held now (place.Object at against) e h = labelled_within at against (subst (λ rs. IsAgainst (shown_given parts.objects) (placed_all (shown_given parts.objects) rs) at against) e h)

  -- objects can't be placed
  pub untaken_by : (held now : List Record) (why : PlaceFault) → held ≡ r.records → Places {X = Unit {0}} (shown_given parts.objects) held now (Err why) → (left : Records) (told : TakeFault A) → TellsUnplaced parts.labels.items why told → IsTakenBy (taken force r items) left (Err told)
  untaken_by held now place.OutOfMemory e h left told is = subst (λ (t : TakeFault A). IsTakenBy (taken force r items) left (Err t)) (sym is) tt
  untaken_by held now (place.Object at against) e h left told is =
      object_untaken at against (subst (λ rs. IsAgainst (shown_given parts.objects) (placed_all (shown_given parts.objects) rs) at against) e h) left told is

  module _ (now : Records) (placed : placed_all (shown_given parts.objects) r.records ≡ Ok now.records) (refs : now.refs ≡ r.refs) where
    placed_is : placed_all (given_in items) r.records ≡ Ok now.records
    placed_is = ap (λ rs. placed_all rs r.records) (sym are.objects) ∙ placed

    -- a ref is refused
    pub ref_untaken : (left : Records) (told : TakeFault A) → ChecksRefs (first_refused force now (shown_ref_items parts.refs.items)) (Err told) → IsTakenBy (taken force r items) left (Err told)
    ref_untaken left fault.OutOfMemory h = tt
    ref_untaken left fault.ReadFailed h = h
    ref_untaken left (fault.Item number kind) h = ref_refused force r items now (number, shown_refused kind) placed_is refs (ap (first_refused force now) (sym are.refs) ∙ h)

    -- all is taken
    pub all_is_taken : (left : Records) → first_refused force now (shown_ref_items parts.refs.items) ≡ None → left ≡ with_refs now (with_all_told now.refs (shown_ref_items parts.refs.items)) → taken force r items ≡ Ok left
    all_is_taken left free made =
        all_taken force r items now left placed_is refs (ap (first_refused force now) (sym are.refs) ∙ free) (made ∙ ap (λ told. with_refs now (with_all_told now.refs told)) are.refs)
