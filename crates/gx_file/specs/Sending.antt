-- Texts that go out to a sink.
use Rattle.std.specs.Prelude.{◌<◌, ◌^◌, length, List, Option, Result, Ok, Err}
use Rattle.std.specs.List.{AllByRecursion}
use Rattle.gx_model.specs.Texts.{Bytes}
use Rattle.gx_model.specs.Histories.{Record}
use Rattle.gx_model.specs.Texts.Sinks.{FailedWithin, Taken, Took}
use Rattle.gx_text.specs.declared.device.Failed.{Failed}

-- The text went out, or the sink failed within it.
abbrev pub Sent : Bytes → Option Taken → Option Taken → Result (Unit {0}) Failed → Type 0
Sent text was now (Ok done) = Took was now text
Sent text was now (Err failed) = FailedWithin was now text

-- each record's body has a length that a store text can state
abbrev pub HaveLengths : List Record → Type 0
HaveLengths = AllByRecursion (λ r. length r.body < 2 ^ 64)
