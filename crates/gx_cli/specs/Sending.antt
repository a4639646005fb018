-- Texts that go out.
use Rattle.std.specs.Prelude.{Option, Result, Ok, Err}
use Rattle.gx_model.specs.Texts.{Bytes}
use Rattle.gx_model.specs.Texts.Sinks.{FailedWithin, Taken, Took, TookFront}
use Rattle.gx_cli.specs.declared.fault.CliFault.{CliFault}
use Rattle.gx_cli.specs.declared.fault.CliFault.TheVariants.{OutOfMemory, WriteFailed}

-- The text went out, or the sink failed within it.
abbrev pub Sent : Bytes → Option Taken → Option Taken → Result (Unit {0}) CliFault → Type 0
Sent text was now (Ok done) = Took was now text
Sent text was now (Err WriteFailed) = FailedWithin was now text
Sent text was now (Err fault) = ⊥

-- The text went out, or the sink failed within it, or memory ran out behind a front of it.
abbrev pub PrintsText : Bytes → Option Taken → Option Taken → Result (Unit {0}) CliFault → Type 0
PrintsText text was now (Ok done) = Took was now text
PrintsText text was now (Err WriteFailed) = FailedWithin was now text
PrintsText text was now (Err OutOfMemory) = TookFront was now text
PrintsText text was now (Err fault) = ⊥
