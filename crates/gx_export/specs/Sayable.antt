-- Whether a stream can say the commits that are to go out: it says no header of theirs but that of an encoding.
use Rattle.std.specs.Prelude.{◌≡◌, List, Option, Result, Ok, Err}
use Rattle.gx_model.specs.Histories.Values.{Commit}
use Rattle.gx_model.specs.Laws.ExportLaws.{HaveEncodingsAlone}
use Rattle.gx_model.specs.Texts.Sinks.{Taken}
use Rattle.gx_export.specs.declared.fault.ExportFault.{ExportFault}
use Rattle.gx_export.specs.declared.fault.ExportFault.TheVariants.{OutOfMemory, Unsupported, WriteFailed}

-- it is told whether a stream can say them
abbrev pub TellsSayable : List Commit → Result (Unit {0}) ExportFault → Type 0
TellsSayable commits (Ok _) = HaveEncodingsAlone commits
TellsSayable commits (Err Unsupported) = HaveEncodingsAlone commits → ⊥
TellsSayable commits (Err _) = ⊥

-- They go out where a stream can say them, and the sink took nothing where it can't. Memory may run out before that is known.
abbrev pub WhereSayable : List Commit → (Option Taken → Option Taken → Result (Unit {0}) ExportFault → Type 0) → Option Taken → Option Taken → Result (Unit {0}) ExportFault → Type 0
WhereSayable commits Sends was now (Ok x) = HaveEncodingsAlone commits × Sends was now (Ok x)
WhereSayable commits Sends was now (Err Unsupported) = (now ≡ was) × (HaveEncodingsAlone commits → ⊥)
WhereSayable commits Sends was now (Err fault) = Sends was now (Err fault)
