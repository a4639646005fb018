-- What a source will still give, what a sink has taken, and what one call does to them.
use Rattle.std.specs.Prelude.{◌≡◌, ℕ, ◌≤◌, [], ◌++◌, length, take, drop, Bool, true, false, Option, Some, None, Result, Ok, Err, ⊤}
use Rattle.gx_model.specs.Texts.{Bytes}
use Rattle.gx_model.specs.Texts.Sinks.{Taken}
use Rattle.gx_text.specs.declared.device.Failed.{Failed}

-- ---- sources

-- the bytes that a source still gives, and whether Failed follows them, or an end
pub record Coming : Type 0 where
  pub bytes : Bytes
  pub fails : Bool

-- what comes after the first n bytes
abbrev pub past : ℕ → Coming → Coming
past n c = record { bytes = drop n c.bytes; fails = c.fails }

-- One pull gives bytes from the front. It gives none only at an end, and fails only where that follows the bytes.
abbrev pub PullsFrom : Coming → Option Coming → Bytes → Result ℕ Failed → Type 0
PullsFrom old new buffer (Ok n) = (n ≤ length old.bytes) × (take n buffer ≡ take n old.bytes) × (new ≡ Some (past n old)) × (n ≡ 0 → (old.bytes ≡ []) × (old.fails ≡ false))
PullsFrom old new buffer (Err _) = (old.bytes ≡ []) × (old.fails ≡ true) × (new ≡ Some old)

-- of a source that tells nothing, nothing is claimed
abbrev pub Pulls : Option Coming → Option Coming → Bytes → Result ℕ Failed → Type 0
Pulls None new buffer answer = ⊤
Pulls (Some old) new buffer answer = PullsFrom old new buffer answer

-- a source over memory: what it gives, and how many bytes a pull gives at most
pub record Supply : Type 0 where
  pub coming : Coming
  pub piece : ℕ

-- ---- sinks

-- One push takes some bytes from the front, or the sink has failed from then on and takes none.
abbrev pub PushesTo : Taken → Option Taken → Bytes → Result ℕ Failed → Type 0
PushesTo old new bytes (Ok n) = (old.failed ≡ false) × (new ≡ Some (record { bytes = old.bytes ++ take n bytes; failed = false }))
PushesTo old new bytes (Err _) = new ≡ Some (record { bytes = old.bytes; failed = true })

-- of a sink that tells nothing, nothing is claimed
abbrev pub Pushes : Option Taken → Option Taken → Bytes → Result ℕ Failed → Type 0
Pushes None new bytes answer = ⊤
Pushes (Some old) new bytes answer = PushesTo old new bytes answer

-- a sink over memory: what it took, and how many bytes it still takes
pub record Holding : Type 0 where
  pub taken : Taken
  pub room : ℕ

-- a sink over memory that took nothing yet, and takes so many bytes
abbrev pub holding_nothing : ℕ → Holding
holding_nothing room = record { taken = record { bytes = []; failed = false }; room = room }
