-- What imports into a store, and into an empty one, tell of a refusal.
-- Source: git-fast-import(1), "filemodify" to "filedeleteall", and "force".
use Rattle.std.specs.Prelude.{◌≡◌, ◌⊎◌, Option, Result, Ok, Err}
use Rattle.gx_model.specs.declared.objects.Kind.{Kind}
use Rattle.gx_model.specs.declared.features.Features.{Features}
use Rattle.gx_model.specs.Texts.{Bytes}
use Rattle.gx_model.specs.Histories.{Records}
use Rattle.gx_model.specs.Stores.StoreReading.{Stored}
use Rattle.gx_text.specs.Devices.{Coming}
use Rattle.gx_import.specs.Explaining.{ExplainsFault, TellsNothing}
use Rattle.gx_import.specs.declared.explanation.Explanation.{Explanation}
use Rattle.gx_cli.specs.declared.fault.CliFault.{CliFault}
use Rattle.gx_cli.specs.declared.fault.CliFault.TheVariants.{Import, OutOfMemory}

-- what was told stays beside the answer, unless that is now that memory ran out: then nothing is told
abbrev pub KeepsTold : {X A : Type 0} → Result X CliFault → Explanation A → Result X CliFault → Explanation A → Type 0
KeepsTold before old after new = ((after ≡ before) × (new ≡ old)) ⊎ ((after ≡ Err OutOfMemory) × TellsNothing new)

module _ (name : Kind → Bytes → Bytes) {A : Type 0} where
  -- of a refused import into this repository it is told what that is about, and of all else nothing
  abbrev pub ExplainsCommand : {X : Type 0} → Features → Records → Option Coming → Result X CliFault → Explanation A → Type 0
  ExplainsCommand asks old coming (Err (Import fault)) told = ExplainsFault name asks old coming fault told
  ExplainsCommand asks old coming answer told = TellsNothing told

  -- the same of an import into the store that a text was read as; where none was read, nothing is told
  abbrev pub ExplainsStored : {X : Type 0} → Features → Stored Records → Option Coming → Result X CliFault → Explanation A → Type 0
  ExplainsStored asks (Ok old) coming answer told = ExplainsCommand asks old coming answer told
  ExplainsStored asks (Err f) coming answer told = TellsNothing told
