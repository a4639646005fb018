-- How answers of a growing text's readers go with what the definitions give. Source: this project's own format.
use Rattle.std.specs.Prelude.{◌≡◌, ◌≢◌, IfErr, Result, Ok, Err, ⊤, nat_eq, drop}
use Rattle.sha2.specs.Sha256.{sha256}
use Rattle.gx_model.specs.declared.objects.Kind.{Kind}
use Rattle.gx_model.specs.declared.store_faults.FileFault.TheVariants.{OutOfMemory}
use Rattle.gx_model.specs.Histories.{Records}
use Rattle.gx_model.specs.Texts.{Bytes}
use Rattle.gx_growing.specs.declared.fault.GrowingFault.{GrowingFault}
use Rattle.gx_growing.specs.declared.fault.GrowingFault.TheVariants.{Text}
use Rattle.gx_model.specs.Faults.{◌>>=◌}
use Rattle.gx_model.specs.declared.store_faults.FileFault.TheVariants as fault
use Rattle.gx_model.specs.Stores.StoreReading.{Stored, only_if}
use Rattle.gx_growing.specs.GrowingReading.{Front, Grown, grown_of, lifted, next_segments, no_front, place_of, with_rows}
use Rattle.gx_growing.specs.GrowingText.{IsGrowingText, Slot}

-- a fault is the definition's; want of memory isn't
abbrev pub IsGrownFault : {Y : Type 0} → GrowingFault → Grown Y → Type 0
IsGrownFault (Text OutOfMemory) given = ⊤
IsGrownFault f given = given ≡ Err f

-- an answer, seen so, is what the definition gives, unless memory ran out
abbrev pub ReadsGrown : {X Y : Type 0} → (X → Y) → Result X GrowingFault → Grown Y → Type 0
ReadsGrown view (Ok x) given = given ≡ Ok (view x)
ReadsGrown view (Err e) given = IsGrownFault e given

-- what is refused, but for want of memory, is the growing text of no repository
abbrev pub RefusesOthers : {X : Type 0} → (Kind → Bytes → Bytes) → (Bytes → Bytes) → Bytes → Result X GrowingFault → Type 0
RefusesOthers name digest text result =
    IfErr result (λ why. why ≢ Text OutOfMemory → (repository : Records) → IsGrowingText name digest text repository → ⊥)

-- a growing text is read as this repository
abbrev pub IsGrownFrom : {N : Type 0} → (N → Kind → Bytes → Bytes) → Bytes → N × Records → Type 0
IsGrownFrom name_of text repo = grown_of (name_of repo.0) sha256 text ≡ Ok repo.1

-- what was read in front of the rows, the last tail of which begins where the slot says
abbrev pub begun_at : Slot → Front → Stored (Slot × Front)
begun_at slot front = do
  begun ← only_if (nat_eq (place_of slot.ends front.tail) slot.tail) fault.BadRecord
  Ok (slot, front)

-- what was read, where the rows of a text are right
abbrev pub rows_told : (Bytes → Bytes) → Bytes → Slot × Front → Grown Records
rows_told digest text read = with_rows digest text read.0 read.1

-- the records and refs behind the head of a text that ends where its slot says, or the first fault
abbrev pub grown_behind : (Kind → Bytes → Bytes) → (Bytes → Bytes) → Slot → Bytes → Grown Records
grown_behind name digest slot text = lifted (next_segments name slot.ends slot.ends no_front (drop 226 text) >>= begun_at slot) >>= rows_told digest text
