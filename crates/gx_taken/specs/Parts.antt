-- The parts of an offer as the code has them.
use Rattle.std.specs.Prelude.{◌≡◌, ℕ, Bool, List, map}
use Rattle.std.specs.List.{list_any}
use Rattle.gx_model.specs.Texts.{Bytes, same_bytes}
use Rattle.gx_model.specs.Records.Publishing.{Ref}
use Rattle.gx_store.specs.Bodies.{bytes_of}
use Rattle.gx_wide.specs.ObjectsTexts.{Item}
use Rattle.gx_wide.specs.Placing.{given_in}
use Rattle.gx_placed.specs.Places.{shown_given}
use Rattle.gx_offered.specs.declared.offered.OfferedRef.{OfferedRef}
use Rattle.gx_taken.specs.Taking.{names_told, refs_told}
use Rattle.gx_taken.specs.declared.parts.Label.{Label}
use Rattle.gx_taken.specs.declared.parts.Parts.{Parts}
use Rattle.gx_taken.specs.declared.parts.RefItem.{RefItem}

-- a ref as it is offered
abbrev pub ref_offered : {A : Type 0} → OfferedRef A → Ref
ref_offered offered = (bytes_of offered.name, offered.object.bytes)

abbrev pub shown_ref_item : {A : Type 0} → RefItem A → ℕ × Ref
shown_ref_item item = (item.number, ref_offered item.offered)

abbrev pub shown_ref_items : {A : Type 0} → List (RefItem A) → List (ℕ × Ref)
shown_ref_items = map shown_ref_item

abbrev pub shown_label : Label → ℕ × Bytes
shown_label label = (label.number, label.name.bytes)

abbrev pub shown_labels : List Label → List (ℕ × Bytes)
shown_labels = map shown_label

-- the parts of these items
pub record ArePartsOf {A : Type 0} (items : List Item) (parts : Parts A) : Type 0 where
  pub objects : shown_given parts.objects ≡ given_in items
  pub labels : shown_labels parts.labels.items ≡ names_told 1 items
  pub refs : shown_ref_items parts.refs.items ≡ refs_told 1 items

-- whether one of these is the object of a name
abbrev pub is_named : List (ℕ × Bytes) → Bytes → Bool
is_named labels called = list_any (λ label. same_bytes label.1 called) labels
