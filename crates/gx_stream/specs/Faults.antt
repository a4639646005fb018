-- The faults of a stream as those of the model.
use Rattle.std.specs.Prelude.{◌≡◌, [], Option, Some, None, ⊤}
use Rattle.gx_model.specs.Streams.Items.{End, Finished, Failed, Stream}
use Rattle.gx_model.specs.declared.faults.Fault.{Fault}
use Rattle.gx_model.specs.declared.faults.Fault.TheVariants as model
use Rattle.gx_stream.specs.declared.fault.StreamFault.{StreamFault}
use Rattle.gx_stream.specs.declared.fault.StreamFault.TheVariants.{OutOfMemory, ReadFailed, TruncatedData, BadNumber}

abbrev pub fault_of : StreamFault → Fault
fault_of OutOfMemory = model.OutOfMemory
fault_of ReadFailed = model.ReadFailed
fault_of TruncatedData = model.TruncatedData
fault_of BadNumber = model.BadNumber

-- an end, or a fault
abbrev pub shown_end : Option StreamFault → End
shown_end None = Finished
shown_end (Some f) = Failed (fault_of f)

-- an end as a reader of items tells it: none, or one of its faults
abbrev pub IsEnd : End → Type 0
IsEnd Finished = ⊤
IsEnd (Failed f) = (why : StreamFault) × (f ≡ fault_of why)

-- nothing to come but an end
abbrev pub ended : End → Stream
ended e = record { items = []; end = e }
