-- Why a bundle isn't made, and how that leaves the sink.
use Rattle.std.specs.Prelude.{◌≡◌, ℕ, ◌^◌, ◌≤◌, Option, Result, Ok, Err, ⊤}
use Rattle.gx_model.specs.Histories.{Records}
use Rattle.gx_model.specs.Texts.{Bytes}
use Rattle.gx_model.specs.Texts.Sinks.{Taken, Took}
use Rattle.gx_kept.specs.Faults.{IsOnTheWay, Stops}
use Rattle.gx_kept.specs.declared.bundle_fault.BundleFault.{BundleFault}
use Rattle.gx_kept.specs.declared.bundle_fault.BundleFault.TheVariants.{Stopped, Unsupported}

-- a text went out, or a front of it, or nothing
abbrev pub SendsBundle : Bytes → Option Taken → Option Taken → Result (Unit {0}) BundleFault → Type 0
SendsBundle text was now (Ok done) = Took was now text
SendsBundle text was now (Err (Stopped fault)) = Stops text was now fault
SendsBundle text was now (Err Unsupported) = now ≡ was

-- only so many objects are too many
abbrev pub IsTooMany : ℕ → Result (Unit {0}) BundleFault → Type 0
IsTooMany count (Ok done) = ⊤
IsTooMany count (Err (Stopped fault)) = ⊤
IsTooMany count (Err Unsupported) = 2 ^ 32 ≤ count

-- only of what tells no repository it is answered that it is damaged
abbrev pub IsStopped : Option Records → Result (Unit {0}) BundleFault → Type 0
IsStopped told (Ok done) = ⊤
IsStopped told (Err (Stopped fault)) = IsOnTheWay {X = Unit {0}} told (Err fault)
IsStopped told (Err Unsupported) = ⊤
