-- The values that were written, with their marks.
use Rattle.std.specs.Prelude.{◌≡◌, ℕ, ◌≤◌, List, length, slice_index_or, Some, Result, Ok, Err}
use Rattle.std.specs.List.{slice_get}
use Rattle.gx_model.specs.Export.{blob_commands, items_text, number_in, with_blobs}
use Rattle.gx_model.specs.Histories.{Records}
use Rattle.gx_model.specs.Streams.Items.{Item}
use Rattle.gx_model.specs.Laws.RepositoryLaws.{values_of}
use Rattle.gx_model.specs.Texts.{Bytes}
use Rattle.gx_model.specs.Histories.Values.{Value, blob_value}
use Rattle.gx_export.specs.Outputs.{Writes, most}
use Rattle.gx_export.specs.Texts.{items_of}
use Rattle.gx_export.specs.declared.fault.ExportFault.{ExportFault}
use Rattle.gx_export.specs.declared.written.Written.{Written}

-- by its place, each value's mark is its number among those written, or 0
pub record AreNumbers (values ws : List Value) (marks : List ℕ) : Type 0 where
  pub long : length marks ≡ length values
  pub numbers : (place : ℕ) (value : Value) → slice_get values place ≡ Some value → slice_index_or marks place 0 ≡ number_in ws value

-- the blob with these bytes stands at this place
abbrev pub IsBlobAt : Records → ℕ → Bytes → Type 0
IsBlobAt repository place bytes = slice_get (values_of repository) place ≡ Some (blob_value bytes)

-- these values were written, the newest first, each in some bytes
pub record HasWritten {W A : Type 0} (repository : Records) (ws : List Value) (written : Written W A) : Type 0 where
  pub count : written.count ≡ length ws
  pub marks : AreNumbers (values_of repository) ws written.marks.items
  pub each : written.count ≤ written.output.bytes
  pub most : written.output.bytes ≤ most

-- Items go out, and then these values were written; or the export stops within the items.
abbrev pub Adds : {W A : Type 0} → Records → List Value → List Item → Written W A → Written W A
    → Result (Unit {0}) ExportFault → Type 0
Adds repository ws items old new (Ok _) =
    HasWritten repository ws new × Writes old.output new.output (items_text items) (Ok tt)
Adds repository ws items old new (Err fault) = Writes old.output new.output (items_text items) (Err fault)

-- The blobs with these bytes go out, those that weren't written yet.
abbrev pub AddsBlobs : {W A : Type 0} → Records → List Value → List Bytes → Written W A → Written W A
    → Result (Unit {0}) ExportFault → Type 0
AddsBlobs repository ws contents old new result =
    Adds repository (with_blobs ws contents) (items_of (blob_commands ws contents)) old new result
