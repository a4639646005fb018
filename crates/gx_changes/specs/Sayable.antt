-- Whether a stream can say the commits that are to go out: it says no header of theirs but that of an encoding.
use Rattle.std.specs.Prelude.{List, Result, Ok, Err, ⊤}
use Rattle.gx_model.specs.Histories.Values.{Commit}
use Rattle.gx_model.specs.Laws.ExportLaws.{HaveEncodingsAlone}
use Rattle.gx_sending.specs.declared.fault.SendFault.{SendFault}
use Rattle.gx_sending.specs.declared.fault.SendFault.TheVariants.{OutOfMemory, ReadFailed, Damaged, Unsupported, WriteFailed}

-- It is told of the commits of a repository whether a stream can say them, unless a look at them stops.
abbrev pub FindsSayable : List Commit → Result (Unit {0}) SendFault → Type 0
FindsSayable commits (Ok x) = HaveEncodingsAlone commits
FindsSayable commits (Err Unsupported) = HaveEncodingsAlone commits → ⊥
FindsSayable commits (Err OutOfMemory) = ⊤
FindsSayable commits (Err ReadFailed) = ⊤
FindsSayable commits (Err Damaged) = ⊥
FindsSayable commits (Err (WriteFailed written)) = ⊥
