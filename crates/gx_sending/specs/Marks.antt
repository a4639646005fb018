-- The values that were written, with their marks by the names of their objects.
use Rattle.std.specs.Prelude.{◌≡◌, ◌≢◌, ◌<◌, ◌≤◌, ◌+◌, ◌∷◌, ℕ, if◌then◌else◌, List, length, Option, Some, None, Result, IfErr, OnOk}
use Rattle.std.specs.BTreeMap.{get}
use Rattle.gx_model.specs.declared.objects.Kind.{Kind}
use Rattle.gx_model.specs.declared.objects.Kind.TheVariants as kinds
use Rattle.gx_model.specs.Changes.{named_in}
use Rattle.gx_model.specs.Export.{blob_commands, items_text, number_in, with_blobs}
use Rattle.gx_model.specs.Histories.{Records, is_in}
use Rattle.gx_model.specs.Histories.Values.{Value}
use Rattle.gx_model.specs.Objects.{IsNamer}
use Rattle.gx_model.specs.Records.Sound.{IsSound}
use Rattle.gx_model.specs.Streams.Items.{Item}
use Rattle.gx_model.specs.Texts.{Bytes, byte_cmp}
use Rattle.gx_object.specs.declared.name.Name.{Name}
use Rattle.gx_rev.specs.Objects.{IsHeld, IsHeldAs, commit_at, value_at}
use Rattle.gx_export.specs.Naming.{shown_commit}
use Rattle.gx_export.specs.Outputs.{Writes, most}
use Rattle.gx_export.specs.Texts.{items_of}
use Rattle.gx_export.specs.declared.naming.CommitIsh.{CommitIsh}
use Rattle.gx_sending.specs.Faults.{stopped}
use Rattle.gx_sending.specs.declared.fault.SendFault.{SendFault}
use Rattle.gx_sending.specs.declared.fault.SendFault.TheVariants.{Damaged}
use Rattle.gx_sending.specs.declared.written.Written.{Written}

-- the mark of an object that was written
abbrev pub mark_at : {W A : Type 0} → Written W A → Bytes → Option ℕ
mark_at written called = get byte_cmp written.marks called

-- the mark of a value that was written
abbrev pub mark_in : List Value → Value → Option ℕ
mark_in ws value = if is_in ws value then Some (number_in ws value) else None

-- these values were written, the newest first, each in some bytes
pub record HasWritten {W A : Type 0} (repository : Records) (ws : List Value) (written : Written W A) : Type 0 where
  pub count : written.count ≡ length ws
  pub marks : (called : Name) → IsHeld repository called → mark_at written called.bytes ≡ mark_in ws (value_at repository called)
  pub each : length ws ≤ written.output.bytes
  pub most : written.output.bytes ≤ most

-- some values were written
abbrev pub IsWritten : {W A : Type 0} → Written W A → Records → Type 0
IsWritten written repository = (ws : List Value) × HasWritten repository ws written

-- the next mark is that of one value more
abbrev pub IsNextMark : {W A : Type 0} → Written W A → ℕ → Type 0
IsNextMark written mark = (repository : Records) (ws : List Value) → HasWritten repository ws written → mark ≡ length ws + 1

-- an object's value was written behind those before, where these haven't as many marks as bytes
abbrev pub WritesValue : {W A : Type 0} → Name → Written W A → Written W A → Type 0
WritesValue called old new =
    (name : Kind → Bytes → Bytes) (repository : Records) (ws : List Value) → IsNamer name → IsSound name repository → IsHeld repository called
    → HasWritten repository ws old → length ws < old.output.bytes → HasWritten repository (value_at repository called ∷ ws) new

-- this names a held commit: its mark where it was written, else its name
abbrev pub NamesCommit : {W A : Type 0} → Written W A → Name → CommitIsh → Type 0
NamesCommit written commit found =
    (name : Kind → Bytes → Bytes) (repository : Records) (ws : List Value) → IsNamer name → IsSound name repository → IsHeldAs kinds.Commit repository commit
    → HasWritten repository ws written → shown_commit found ≡ named_in name ws (commit_at repository commit)

-- Items go out, and then these values were written; or the export stops within the items.
pub record Adds {W A : Type 0} (ws : List Value) (items : List Item) (old new : Written W A) (result : Result (Unit {0}) SendFault) (repository : Records) : Type 0 where
  pub written : OnOk result (HasWritten repository ws new)
  pub told : IfErr result (λ fault. fault ≢ Damaged)
  pub text : Writes old.output new.output (items_text items) (stopped result)

-- The blobs with these bytes go out, those that weren't written yet.
abbrev pub AddsBlobs : {W A : Type 0} → List Value → List Bytes → Written W A → Written W A → Result (Unit {0}) SendFault → Records → Type 0
AddsBlobs ws contents old new result repository = Adds (with_blobs ws contents) (items_of (blob_commands ws contents)) old new result repository
