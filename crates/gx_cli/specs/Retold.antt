-- What imports from a source that tells nothing tell of a refusal: it is about the very commands whose import is answered.
-- Source: git-fast-import(1).
use Rattle.std.specs.Prelude.{◌≡◌, ◌⊎◌, [], Option, Some, None, Result, Ok, Err}
use Rattle.gx_model.specs.declared.objects.Kind.{Kind}
use Rattle.gx_model.specs.declared.features.Features.{Features}
use Rattle.gx_model.specs.declared.store_faults.FileFault.TheVariants as file
use Rattle.gx_model.specs.Texts.{Bytes}
use Rattle.gx_model.specs.Texts.Sinks.{Taken}
use Rattle.gx_model.specs.Histories.{Records, empty_repository}
use Rattle.gx_model.specs.Stores.StoreReading.{Stored}
use Rattle.gx_import.specs.Explaining.{TellsNothing}
use Rattle.gx_import.specs.Retelling.{IsOfOneReplay}
use Rattle.gx_import.specs.declared.explanation.Explanation.{Explanation}
use Rattle.gx_import.specs.declared.fault.ImportFault.{ImportFault}
use Rattle.gx_import.specs.declared.report.Report.{Report}
use Rattle.gx_cli.specs.Explained.{KeepsTold}
use Rattle.gx_cli.specs.Reporting.{ReportsFrom, Told}
use Rattle.gx_cli.specs.Storing.{Answer, Imported, IsAnswer, answer_of}
use Rattle.gx_cli.specs.Trying.{having_taken}
use Rattle.gx_cli.specs.declared.fault.CliFault.{CliFault}
use Rattle.gx_cli.specs.declared.fault.CliFault.TheVariants.{Import, Store}

module _ (name : Kind → Bytes → Bytes) {A : Type 0} where
  -- ---- a trip

  -- the import of the commands of some items into this repository is refused so, leaves this one, and of these commands it is told
  -- what that is about; of all else nothing is told
  abbrev pub RetellsTrip : {X : Type 0} → Features → Records → Records → Option Taken → Option Taken → Result X CliFault → Explanation A → Type 0
  RetellsTrip asks old new was now (Err (Import fault)) told = IsOfOneReplay asks name old new was now (Err fault) told
  RetellsTrip asks old new was now answer told = TellsNothing told

  -- ---- imports into an empty store, of which nothing is kept

  -- the import of the commands of some items is refused so, and of these commands it is told what that is about
  abbrev pub RetellsRefused : Features → Option Taken → Option Taken → ImportFault → Explanation A → Type 0
  RetellsRefused asks was now fault told = (left : Records) × IsOfOneReplay asks name empty_repository left was now (Err fault) told

  -- the same of what a command answers; of all else nothing is told
  abbrev pub RetellsAlone : {X : Type 0} → Features → Option Taken → Option Taken → Result X CliFault → Explanation A → Type 0
  RetellsAlone asks was now (Err (Import fault)) told = RetellsRefused asks was now fault told
  RetellsAlone asks was now answer told = TellsNothing told

  -- the same, where some sink takes their progress text
  abbrev pub RetellsFound : {X : Type 0} → Features → Result X CliFault → Explanation A → Type 0
  RetellsFound asks (Err (Import fault)) told = (text : Bytes) × RetellsRefused asks (Some (having_taken [])) (Some (having_taken text)) fault told
  RetellsFound asks answer told = TellsNothing told

  -- ---- imports into a store

  -- the import of the commands of some items into this repository is answered so, with the next text, and of these commands it is
  -- told what a refusal is about
  abbrev pub RetellsOpened : Features → Records → Option Taken → Option Taken → Answer → Explanation A → Type 0
  RetellsOpened asks old was now answer told =
      (new : Records) × (given : Result Report ImportFault) × IsOfOneReplay asks name old new was now given told × IsAnswer name new given answer

  -- the same into the store that a text was read as; where none was read, nothing is told
  abbrev pub RetellsStored : Features → Stored Records → Option Taken → Option Taken → Answer → Explanation A → Type 0
  RetellsStored asks (Ok old) was now answer told = ((answer ≡ (None, Err (Store file.OutOfMemory))) × TellsNothing told) ⊎ RetellsOpened asks old was now answer told
  RetellsStored asks (Err f) was now answer told = TellsNothing told

  -- the same with the report of the refs that it changes; where there is no memory for that, nothing is told
  abbrev pub RetellsReported : {N : Type 0} → Features → Stored Records → Option Taken → Option Taken → Told N A → Explanation A → Type 0
  RetellsReported {N} asks stored was now answer told =
      (given : Imported N) × (kept : Explanation A) × RetellsStored asks stored was now (answer_of given) kept × ReportsFrom stored given answer × KeepsTold given.1 kept answer.1 told
