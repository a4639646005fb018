-- What an import over a small repository brings the whole one: objects that this doesn't hold.
use Rattle.std.specs.Prelude.{◌≡◌, Bool, true, false, not, List, Some, None, Result, Ok, Err, ⊤}
use Rattle.std.specs.List.{list_any}
use Rattle.gx_model.specs.declared.objects.Kind.{Kind}
use Rattle.gx_model.specs.Histories.{Record, Records}
use Rattle.gx_model.specs.Records.Growth.{put, record_named}
use Rattle.gx_model.specs.Texts.{Bytes, same_bytes}
use Rattle.gx_objects.specs.declared.fault.LookFault.{LookFault}
use Rattle.gx_objects.specs.declared.fault.LookFault.TheVariants as look
use Rattle.gx_brought.specs.declared.fault.BroughtFault.{BroughtFault}
use Rattle.gx_brought.specs.declared.fault.BroughtFault.TheVariants.{OutOfMemory, ReadFailed, Damaged, NotTaken, NameHeld}

abbrev pub of_look : LookFault → BroughtFault
of_look look.OutOfMemory = OutOfMemory
of_look look.ReadFailed = ReadFailed
of_look look.Damaged = Damaged

-- whether a repository holds this record, and no other of its name
abbrev pub IsLookedFor : Record → Records → Result Bool BroughtFault → Type 0
IsLookedFor r whole (Ok true) = put whole.records r ≡ Some whole.records
IsLookedFor r whole (Ok false) = record_named whole.records r.name ≡ None
IsLookedFor r whole (Err OutOfMemory) = ⊤
IsLookedFor r whole (Err ReadFailed) = ⊤
IsLookedFor r whole (Err Damaged) = ⊥
IsLookedFor r whole (Err NotTaken) = ⊥
IsLookedFor r whole (Err NameHeld) = put whole.records r ≡ None

-- whether one of these records hasn't the name that its object gets
abbrev pub has_stand_in : (Kind → Bytes → Bytes) → List Record → Bool
has_stand_in name records = list_any (λ r. not (same_bytes r.name (name r.kind r.body))) records
