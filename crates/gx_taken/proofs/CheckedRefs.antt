-- Refs that are checked, one after the other, and the first that is refused.
use Rattle.std.proofs.Common.{◌≡◌, ℕ, ◌+◌, ◌<◌, ◌≤◌, Bool, List, length, drop, get_or, Option, Some, None, refl, sym, ap, ◌∙◌, drop_of_length-le}
use Rattle.std.specs.Option.{option_map}
use Rattle.std.proofs.lemmas.List.{drop_more}
use Rattle.gx_model.specs.Histories.{Records}
use Rattle.gx_wide.specs.Placing.{TakeFault}
use Rattle.gx_taken.specs.Parts.{ref_offered, shown_ref_items}
use Rattle.gx_taken.specs.Taking.{Refusal, first_refused, ref_fault, untaken}
use Rattle.gx_taken.specs.declared.parts.RefItem.{RefItem}

module _ {A : Type 0} (force : Bool) (r : Records) (items : List (RefItem A)) where
  -- none of the first ones is refused, and the others are left
  abbrev pub AreChecked : ℕ → Type 0
  AreChecked i = first_refused force r (shown_ref_items (drop i items)) ≡ first_refused force r (shown_ref_items items)

  -- what is against one, or the others
  abbrev or_others : ℕ → ℕ → Option TakeFault → Option (ℕ × Refusal)
  or_others number i f = elim f [ None ↦ first_refused force r (shown_ref_items (drop i items)) | Some fault ↦ Some (number, untaken fault) ]

  at_next : (i : ℕ) (d : RefItem A) (f : Option TakeFault) → i < length items → ref_fault force r (ref_offered (get_or items i d).offered) ≡ f
      → first_refused force r (shown_ref_items (drop i items)) ≡ or_others (get_or items i d).number (i + 1) f
  at_next i d f lt e = ap (λ its. first_refused force r (shown_ref_items its)) (drop_more items i d lt) ∙ ap (or_others (get_or items i d).number (i + 1)) e

  nothing : (f : Option TakeFault) → None ≡ option_map untaken f → f ≡ None
  nothing None e = refl
  nothing (Some fault) e = absurd (cc e)

  pub checked_next : (i : ℕ) (d item : RefItem A) → i < length items → AreChecked i → item ≡ get_or items i d → None ≡ option_map untaken (ref_fault force r (ref_offered item.offered)) → AreChecked (i + 1)
  checked_next i d item lt h is e = sym (at_next i d None lt (nothing _ (e ∙ ap (λ (it : RefItem A). option_map untaken (ref_fault force r (ref_offered it.offered))) is))) ∙ h

  refused_there : (i : ℕ) (d : RefItem A) (kind : Refusal) → i < length items → AreChecked i → Some kind ≡ option_map untaken (ref_fault force r (ref_offered (get_or items i d).offered))
      → first_refused force r (shown_ref_items items) ≡ Some ((get_or items i d).number, kind)
  refused_there i d kind lt h e = by (ref_fault force r (ref_offered (get_or items i d).offered)) refl e where
    by : (f : Option TakeFault) → ref_fault force r (ref_offered (get_or items i d).offered) ≡ f → Some kind ≡ option_map untaken f → first_refused force r (shown_ref_items items) ≡ Some ((get_or items i d).number, kind)
    by None k e = absurd (cc e)
    by (Some fault) k e =
        let is : kind ≡ untaken fault = cc e in
        sym h ∙ at_next i d (Some fault) lt k ∙ ap (λ told. Some ((get_or items i d).number, told)) (sym is)

  pub refused_at : (i : ℕ) (d item : RefItem A) (kind : Refusal) → i < length items → AreChecked i → item ≡ get_or items i d → Some kind ≡ option_map untaken (ref_fault force r (ref_offered item.offered))
      → first_refused force r (shown_ref_items items) ≡ Some (item.number, kind)
  refused_at i d item kind lt h is e =
      refused_there i d kind lt h (e ∙ ap (λ (it : RefItem A). option_map untaken (ref_fault force r (ref_offered it.offered))) is) ∙ ap (λ (it : RefItem A). Some (it.number, kind)) (sym is)

  pub none_refused : (i : ℕ) → length items ≤ i → AreChecked i → first_refused force r (shown_ref_items items) ≡ None
  none_refused i le h = sym h ∙ ap (λ its. first_refused force r (shown_ref_items its)) (drop_of_length-le items le)
