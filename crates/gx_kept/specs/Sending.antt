-- Records that go out one after the other, each read as it does. Source: this project's own format.
use Rattle.std.specs.Prelude.{◌≡◌, Bool, List, IfSome, Option, Some, Result, Ok, Err, ⊤}
use Rattle.std.specs.List.{AllByRecursion, flat_map}
use Rattle.sha2.specs.Sha256.{sha256}
use Rattle.gx_model.specs.declared.objects.Kind.{Kind}
use Rattle.gx_model.specs.declared.store_versions.Version.TheVariants.{Two}
use Rattle.gx_model.specs.Histories.{Record, Records}
use Rattle.gx_model.specs.Records.Growth.{record_named}
use Rattle.gx_model.specs.Stores.StoreText.{stored_record}
use Rattle.gx_model.specs.Texts.{Bytes}
use Rattle.gx_model.specs.Texts.Sinks.{Taken, Took}
use Rattle.gx_growing.specs.GrowingText.{growing_text}
use Rattle.gx_object.specs.declared.name.Name.{Name}
use Rattle.gx_store.specs.Marked.{marked}
use Rattle.gx_listed.specs.Listings.{HaveHeads, Listed, head_of, shown_head}
use Rattle.gx_listed.specs.declared.listing.Standing.{Standing}
use Rattle.gx_kept.specs.Faults.{Stops}
use Rattle.gx_kept.specs.declared.fault.KeptFault.{KeptFault}

-- what is left of a repository where marks stand, under the same refs
abbrev pub left_of : List Bool → Records → Records
left_of marks r = record { records = marked marks r.records; refs = r.refs }

-- what is known of the object of a name is so
abbrev pub IsKnown : Name → Standing → Records → Type 0
IsKnown called standing r = (held : Record) → record_named r.records called.bytes ≡ Some held → head_of held ≡ shown_head (called, standing)

module _ (name : Kind → Bytes → Bytes) where
  -- each record has the name that its kind and its body get
  abbrev pub AreNamed : List Record → Type 0
  AreNamed records = AllByRecursion (λ held. held.name ≡ name held.kind held.body) records

  -- whatever is told, what goes out as a whole is the growing text of objects that have their names
  abbrev pub SendsNamed : {X : Type 0} → Option Taken → Option Taken → Result X KeptFault → Type 0
  SendsNamed was now (Ok x) = (kept : Records) × AreNamed kept.records × Took was now (growing_text sha256 kept)
  SendsNamed was now (Err fault) = ⊤

  -- a record went out whose object has its name, and of what is told it is that of the repository; or of this a front went out
  abbrev pub SendsRecord : Option Records → Name → Standing → Option Taken → Option Taken → Result (Unit {0}) KeptFault → Type 0
  SendsRecord told called standing was now (Ok done) =
      (held : Record) × (head_of held ≡ shown_head (called, standing)) × (held.name ≡ name held.kind held.body) × Took was now (stored_record Two held)
      × IfSome told (λ r. record_named r.records called.bytes ≡ Some held)
  SendsRecord told called standing was now (Err fault) =
      IfSome told (λ r. (held : Record) → record_named r.records called.bytes ≡ Some held → Stops (stored_record Two held) was now fault)

  -- the records of the objects that are marked went out
  abbrev pub SendsRecords : Option Records → List Listed → List Bool → Option Taken → Option Taken → Result (Unit {0}) KeptFault → Type 0
  SendsRecords told listed marks was now (Ok done) =
      (kept : List Record) × HaveHeads (marked marks listed) kept × AreNamed kept × Took was now (flat_map (stored_record Two) kept)
      × IfSome told (λ r. kept ≡ marked marks r.records)
  SendsRecords told listed marks was now (Err fault) =
      IfSome told (λ r. Stops (flat_map (stored_record Two) (marked marks r.records)) was now fault)
