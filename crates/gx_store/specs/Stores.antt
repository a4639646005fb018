-- What a store holds, and what a put does to it.
use Rattle.std.specs.Prelude.{◌≡◌, ℕ, Bool, true, false, List, map, Option, Some, None, Result, Ok, Err, IsTrue}
use Rattle.std.specs.List.{list_all, position, AllByRecursion}
use Rattle.std.specs.Borrow.{Bor}
use Rattle.gx_model.specs.declared.objects.Kind.{Kind}
use Rattle.gx_model.specs.Texts.{Bytes, same_bytes}
use Rattle.gx_model.specs.Objects.{is_name}
use Rattle.gx_model.specs.Histories.{AreDistinct, Record, record_for}
use Rattle.gx_model.specs.Records.Growth.{put, record_named}
use Rattle.gx_object.specs.declared.name.Name.{Name}
use Rattle.gx_store.specs.declared.fault.StoreFault.{StoreFault}
use Rattle.gx_store.specs.declared.fault.StoreFault.TheVariants.{OutOfMemory, NameHeld}

-- names differ, and each is the namer's
pub record AreHeld (name : Kind → Bytes → Bytes) (rs : List Record) : Type 0 where
  pub distinct : AreDistinct (map (λ r. r.name) rs)
  pub named : AllByRecursion (λ r. r.name ≡ name r.kind r.body) rs
  pub names : IsTrue (list_all (λ r. is_name r.name) rs)

-- what a put of this record does, and answers
abbrev pub Puts : List Record → List Record → Record → Result Name StoreFault → Type 0
Puts old new r (Ok name) = (name.bytes ≡ r.name) × (put old r ≡ Some new)
Puts old new r (Err OutOfMemory) = (record_named old r.name ≡ None) × (new ≡ old)
Puts old new r (Err NameHeld) = (put old r ≡ None) × (new ≡ old)

-- what a put of an object of this kind with this body does, and answers
abbrev pub PutsObject : {N : Type 0} → (N → Kind → Bytes → Bytes) → N × List Record → N × List Record → Kind → Bytes → Result Name StoreFault → Type 0
PutsObject name_of old new kind body answer = Puts old.1 new.1 (record_for (name_of old.0) kind body) answer

-- an object under a name, as a record
abbrev pub record_under : Name → Kind → Bytes → Record
record_under called kind body = record { name = called.bytes; kind = kind; body = body }

-- whether this record is held, and no other has its name
abbrev pub IsFound : List Record → Record → Result Bool StoreFault → Type 0
IsFound rs r (Ok true) = put rs r ≡ Some rs
IsFound rs r (Ok false) = record_named rs r.name ≡ None
IsFound rs r (Err NameHeld) = put rs r ≡ None
IsFound rs r (Err OutOfMemory) = ⊥

-- the place of the first record with this name, counted from 0
abbrev pub place_named : List Record → Bytes → Option ℕ
place_named records name = position (λ held. same_bytes name held.name) records

-- what a look-up shows, through the reference that it lends
abbrev pub shown_object : Kind × Bor Bytes → Kind × Bytes
shown_object o = (o.0, o.1.now)

abbrev pub shown_record : Name × Kind × Bor Bytes → Record
shown_record o = record { name = o.0.bytes; kind = o.1; body = o.2.now }
