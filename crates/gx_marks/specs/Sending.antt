-- Texts that go out to a sink.
use Rattle.std.specs.Borrow.{Bor}
use Rattle.std.specs.Prelude.{List, Option, Result, Ok, Err}
use Rattle.std.specs.List.{flat_map}
use Rattle.gx_model.specs.Texts.{Bytes}
use Rattle.gx_model.specs.Texts.Sinks.{FailedWithin, Taken, Took}
use Rattle.gx_text.specs.declared.device.Failed.{Failed}

-- The text went out, or the sink failed within it.
abbrev pub Sent : Bytes → Option Taken → Option Taken → Result (Unit {0}) Failed → Type 0
Sent text was now (Ok done) = Took was now text
Sent text was now (Err failed) = FailedWithin was now text

-- texts go out, one after the other, to a sink by what it took
abbrev pub SendsParts : {W : Type 0} → (W → Option Taken) → List (Bor Bytes) → W → W → Result (Unit {0}) Failed → Type 0
SendsParts taken parts old new result = Sent (flat_map (λ part. part.now) parts) (taken old) (taken new) result
