-- What comes of each part of a store text that is read. Source: this project's own format.
use Rattle.std.specs.Borrow.{Bor}
use Rattle.std.specs.Prelude.{◌≡◌, ◌≢◌, ℕ, IfErr, None, Ok, Option, Result}
use Rattle.gx_model.specs.declared.objects.Kind.{Kind}
use Rattle.gx_model.specs.declared.store_faults.FileFault.{FileFault}
use Rattle.gx_model.specs.declared.store_faults.FileFault.TheVariants.{NameMismatch, OutOfMemory}
use Rattle.gx_model.specs.declared.store_versions.Version.{Version}
use Rattle.gx_model.specs.Histories.{Records}
use Rattle.gx_model.specs.Stores.StoreReading.{is_stated, next_record, next_records, next_refs, only_if, store_of, with_stored}
use Rattle.gx_model.specs.Texts.{Bytes}
use Rattle.gx_object.specs.declared.name.Name.{Name}
use Rattle.gx_lines.specs.Reads.{Reads}
use Rattle.gx_file.specs.Faults.{IsNoStoreText}
use Rattle.gx_object.specs.Parts.{bytes_if}

-- what is refused, but for want of memory, is the text of no sound repository
abbrev pub RefusesOthers : {X : Type 0} → (Kind → Bytes → Bytes) → Bytes → Result X FileFault → Type 0
RefusesOthers name text result = IfErr result (λ why. why ≢ OutOfMemory → IsNoStoreText name text)

-- a name is the one that is stated, where one is
abbrev pub ChecksName : Option Name → Name → Result (Unit {0}) FileFault → Type 0
ChecksName stated called result = Reads (λ done. done) result (only_if (is_stated (bytes_if stated) called.bytes) NameMismatch)

-- so many refs come next, and what follows them is answered
abbrev pub ReadsRefs : Records → Records → ℕ → Bytes → Result (Bor Bytes) FileFault → Type 0
ReadsRefs old new count text result = Reads (λ rest. (new.refs, rest.now)) result (next_refs count old.records None text)

-- a repository by its namer and its records
module _ {N : Type 0} (name_of : N → Kind → Bytes → Bytes) where
  -- a text is read as this repository
  abbrev pub IsReadAs : Bytes → N × Records → Type 0
  IsReadAs text repo = store_of (name_of repo.0) text ≡ Ok repo.1

  -- so many records come next, and what follows them is answered
  abbrev pub ReadsRecords : N × Records → N × Records → Version → ℕ → Bytes → Result (Bor Bytes) FileFault → Type 0
  ReadsRecords old new version count text result = Reads (λ rest. (new.1.records, rest.now)) result (next_records (name_of old.0) version count old.1.records text)

  -- a record comes next, and what follows it is answered
  abbrev pub ReadsRecord : N × Records → N × Records → Version → Bytes → Result (Bor Bytes) FileFault → Type 0
  ReadsRecord old new version text result = Reads (λ rest. (new.1.records, rest.now)) result (next_record (name_of old.0) version old.1.records text)

  -- a record is added that has the name that is stated, where one is
  abbrev pub AddsStated : N × Records → N × Records → Option Name → Kind → Bytes → Result (Unit {0}) FileFault → Type 0
  AddsStated old new stated kind body result = Reads (λ _. new.1.records) result (with_stored (name_of old.0) old.1.records (bytes_if stated) kind body)
