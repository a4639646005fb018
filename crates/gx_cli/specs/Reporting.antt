-- Imports that tell which refs they changed.
-- Source: git-fast-import(1), and githooks(5), "post-receive".
use Rattle.std.specs.Prelude.{◌≡◌, ◌⊎◌, ℕ, List, Option, Some, None, IfSome, Result, Ok, Err}
use Rattle.std.specs.declared.vec.Vec.{Vec}
use Rattle.gx_model.specs.declared.objects.Kind.{Kind}
use Rattle.gx_model.specs.declared.features.Features.{Features}
use Rattle.gx_model.specs.Texts.{Bytes}
use Rattle.gx_model.specs.Histories.{Records}
use Rattle.gx_model.specs.Records.Publishing.{Ref}
use Rattle.gx_model.specs.Stores.StoreReading.{Stored}
use Rattle.gx_model.specs.Texts.Sinks.{Taken}
use Rattle.gx_text.specs.Devices.{Coming}
use Rattle.gx_repo.specs.Reporting.{IsReport}
use Rattle.gx_import.specs.declared.report.Report.{Report}
use Rattle.gx_cli.specs.Storing.{Imported, ImportsAgain, ImportsStored, answer_of}
use Rattle.gx_cli.specs.declared.fault.CliFault.{CliFault}
use Rattle.gx_cli.specs.declared.fault.CliFault.TheVariants.{OutOfMemory}

-- what an import answers, with a report beside the repository whose text is the store's next one
abbrev pub Told : Type 0 → Type 0 → Type 0
Told N A = Option ((N × Records) × Vec ℕ A) × Result Report CliFault

-- beside the repository whose text is the next one, where there is one, stands the report of the refs that differ from these
abbrev pub HasReport : {N A : Type 0} → List Ref → Option (N × Records) → Option ((N × Records) × Vec ℕ A) → Type 0
HasReport before None told = told ≡ None
HasReport {N} {A} before (Some new) told = (report : Vec ℕ A) × (told ≡ Some (new, report)) × IsReport before new.1.refs report.items

-- an answer with the report of the refs that differ from these; where there is no memory for it, nothing is left
abbrev pub Reports : {N A : Type 0} → List Ref → Imported N → Told N A → Type 0
Reports before answer told = (told ≡ (None, Err OutOfMemory)) ⊎ (HasReport before answer.0 told.0 × (told.1 ≡ answer.1))

-- the same of an import into the store that a text was read as; where none was read, there is nothing to report
abbrev pub ReportsFrom : {N A : Type 0} → Stored Records → Imported N → Told N A → Type 0
ReportsFrom (Ok old) answer told = Reports old.refs answer told
ReportsFrom (Err f) answer told = told ≡ (None, answer.1)

module _ {N A : Type 0} (name_of : N → Kind → Bytes → Bytes) (namer : N) where
  -- the import of a stream into the store that a text was read as, with the report of the refs that it changed
  abbrev pub ReportsStored : Features → Stored Records → Option Coming → Option Taken → Option Taken → Told N A → Type 0
  ReportsStored asks stored coming was now told =
      (given : Imported N) × IfSome given.0 (λ repo. repo.0 ≡ namer) × ImportsStored (name_of namer) asks stored coming was now (answer_of given)
      × ImportsAgain (name_of namer) asks stored coming (answer_of given) × ReportsFrom stored given told
