-- How a command's answer goes with what it has to print.
use Rattle.std.specs.Prelude.{◌≡◌, [], Option, Result, Ok, Err}
use Rattle.gx_model.specs.Texts.{Bytes}
use Rattle.gx_model.specs.Texts.Sinks.{FailedWithin, Taken, Took}
use Rattle.gx_rev.specs.RevFaults as rev
use Rattle.gx_print.specs.Stored.{IsFrontOf, Printed, Refusal, of_word}
use Rattle.gx_cli.specs.declared.fault.CliFault.{CliFault}
use Rattle.gx_cli.specs.declared.fault.CliFault.TheVariants.{OutOfMemory, Revision, WriteFailed}

-- a refusal as it is answered
abbrev pub IsRefusal : Refusal → CliFault → Type 0
IsRefusal (of_word n f) (Revision number why) = (number ≡ n) × (f ≡ rev.fault_of why)
IsRefusal refusal fault = ⊥

-- The text went out, or the refusal is answered and nothing went out. Where the sink failed or memory ran out, a front of the
-- text went out.
abbrev pub Prints : Printed → Option Taken → Option Taken → Result (Unit {0}) CliFault → Type 0
Prints given was now (Ok done) = (text : Bytes) × (given ≡ Ok text) × Took was now text
Prints given was now (Err WriteFailed) = (text : Bytes) × (given ≡ Ok text) × FailedWithin was now text
Prints given was now (Err OutOfMemory) = (front : Bytes) × IsFrontOf given front × Took was now front
Prints given was now (Err fault) = (refusal : Refusal) × (given ≡ Err refusal) × IsRefusal refusal fault × Took was now []
