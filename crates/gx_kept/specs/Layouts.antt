-- What stands around the records of a growing text, before these are read. Source: this project's own format.
use Rattle.std.specs.Prelude.{◌≡◌, ℕ, ◌+◌, Bool, List, length}
use Rattle.std.specs.List.{flat_map}
use Rattle.gx_model.specs.declared.store_versions.Version.TheVariants.{Two}
use Rattle.gx_model.specs.Histories.{Record}
use Rattle.gx_model.specs.Records.Publishing.{Ref}
use Rattle.gx_model.specs.Stores.StoreText.{stored_record, stored_ref}
use Rattle.gx_model.specs.Texts.{Bytes}
use Rattle.gx_objects.specs.Answers.{AreRefs}
use Rattle.gx_store.specs.Marked.{marked}
use Rattle.gx_growing.specs.GrowingText.{Row, first_place, head_length, placed}
use Rattle.gx_growing_file.specs.Sending.{LaysOut}
use Rattle.gx_growing_file.specs.declared.sending.Layout.{Layout}
use Rattle.gx_listed.specs.Listings.{HaveHeads, Listed}

-- these are the rows of records behind the head, and where the last one ends
pub record ArePlaced (records : List Record) (rows : List Row) (behind : ℕ) : Type 0 where
  pub rows_are : rows ≡ placed (first_place head_length records) records
  pub ends : behind ≡ first_place head_length records + length (flat_map (stored_record Two) records)

-- whatever the bodies are, this stands around the objects that are marked, and the refs of these lines
abbrev pub LaysOutMarked : {A : Type 0} → List Listed → List Bool → Bytes → Layout A → Type 0
LaysOutMarked listed marks lines layout =
    (records : List Record) → HaveHeads (marked marks listed) records → (refs : List Ref) → AreRefs refs → lines ≡ flat_map stored_ref refs
    → LaysOut (record { records = records; refs = refs }) layout
