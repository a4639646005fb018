-- Objects that go out one after the other, each read as it does. Source: gitformat-bundle(5), and gitformat-pack(5).
use Rattle.std.specs.Prelude.{◌≡◌, Bool, List, map, IfSome, Option, Some, Result, Ok, Err, ⊤}
use Rattle.std.specs.List.{flat_map}
use Rattle.sha1.specs.Sha1.{sha1}
use Rattle.gx_model.specs.declared.objects.Kind.{Kind}
use Rattle.gx_model.specs.Histories.{Record, Records, object_of}
use Rattle.gx_model.specs.Records.Growth.{record_named}
use Rattle.gx_model.specs.Texts.{Bytes}
use Rattle.gx_model.specs.Texts.Sinks.{Taken, Took}
use Rattle.gx_store.specs.Marked.{marked}
use Rattle.gx_listed.specs.Listings.{Listed}
use Rattle.gx_pack.specs.Packs.{Object, entry_text, pack_text}
use Rattle.gx_pack.specs.Bundles.{Bundle, bundle_text}
use Rattle.gx_pack.specs.Writing.{Sent, Writes}
use Rattle.gx_kept.specs.Faults.{Stops}
use Rattle.gx_kept.specs.declared.fault.KeptFault.{KeptFault}
use Rattle.gx_kept.specs.declared.bundle_fault.BundleFault.{BundleFault}

-- the objects of those records that are marked
abbrev pub kept_of : List Bool → List Record → List Object
kept_of marks records = map object_of (marked marks records)

-- entries, one behind the other
abbrev pub entries : List Object → Bytes
entries objects = flat_map entry_text objects

module _ (name : Kind → Bytes → Bytes) where
  -- the name that an object gets
  abbrev pub name_for : Object → Bytes
  name_for object = name object.0 object.1

  -- each object has the name under which one is listed
  abbrev pub HaveNames : List Listed → List Object → Type 0
  HaveNames listed objects = map name_for objects ≡ map (λ one. one.0.bytes) listed

  -- whatever is told, what goes out as a whole is a bundle of objects that have the names that are listed
  abbrev pub SendsObjects : List Listed → Option Taken → Option Taken → Result (Unit {0}) KeptFault → Type 0
  SendsObjects listed was now (Ok done) = (bundle : Bundle) × HaveNames listed bundle.objects × Took was now (bundle_text sha1 bundle)
  SendsObjects listed was now (Err fault) = ⊤

  -- so it is of some of the objects that are listed
  abbrev pub NamesBundle : List Listed → Option Taken → Option Taken → Result (Unit {0}) BundleFault → Type 0
  NamesBundle listed was now (Ok done) = (marks : List Bool) × SendsObjects (marked marks listed) was now (Ok done)
  NamesBundle listed was now (Err fault) = ⊤

  -- whatever is told, a pack that goes out as a whole has objects that have the names of some that are listed
  abbrev pub NamesPack : List Listed → Option Taken → Option Taken → Result (Unit {0}) BundleFault → Type 0
  NamesPack listed was now (Ok done) = (marks : List Bool) × (objects : List Object) × HaveNames (marked marks listed) objects × Took was now (pack_text sha1 objects)
  NamesPack listed was now (Err fault) = ⊤

  -- the entry of an object that has this name went out, and of what is told it is that of the repository; or of this a front went out
  abbrev pub WritesObject : Option Records → Bytes → Sent → Sent → Result (Unit {0}) KeptFault → Type 0
  WritesObject told called was now (Ok done) =
      (object : Object) × (name_for object ≡ called) × Writes was now (entry_text object) (Ok tt)
      × IfSome told (λ r. record_named r.records called ≡ Some (record { name = called; kind = object.0; body = object.1 }))
  WritesObject told called was now (Err fault) =
      (now.name ≡ was.name) × IfSome told (λ r. (held : Record) → record_named r.records called ≡ Some held → Stops (entry_text (object_of held)) was.taken now.taken fault)

  -- the entries of the objects that are marked went out
  abbrev pub WritesObjects : Option Records → List Listed → List Bool → Sent → Sent → Result (Unit {0}) KeptFault → Type 0
  WritesObjects told listed marks was now (Ok done) =
      (sent : List Object) × HaveNames (marked marks listed) sent × Writes was now (entries sent) (Ok tt) × IfSome told (λ r. sent ≡ kept_of marks r.records)
  WritesObjects told listed marks was now (Err fault) =
      (now.name ≡ was.name) × IfSome told (λ r. Stops (entries (kept_of marks r.records)) was.taken now.taken fault)

  -- the pack of objects that have the names that are listed went out, and of what is told it is that of the repository
  abbrev pub SendsPack : Option Records → List Listed → List Bool → Option Taken → Option Taken → Type 0
  SendsPack told listed marks was now = (sent : List Object) × HaveNames (marked marks listed) sent × Took was now (pack_text sha1 sent) × IfSome told (λ r. sent ≡ kept_of marks r.records)

  -- or a front of it did
  abbrev pub SendsPackOf : Option Records → List Listed → List Bool → Option Taken → Option Taken → Result (Unit {0}) KeptFault → Type 0
  SendsPackOf told listed marks was now (Ok done) = SendsPack told listed marks was now
  SendsPackOf told listed marks was now (Err fault) = IfSome told (λ r. Stops (pack_text sha1 (kept_of marks r.records)) was now fault)

  -- to this sink and no other
  abbrev pub WritesPack : Option Records → List Listed → List Bool → Sent → Sent → Result (Unit {0}) KeptFault → Type 0
  WritesPack told listed marks was now result = (now.name ≡ was.name) × SendsPackOf told listed marks was.taken now.taken result
