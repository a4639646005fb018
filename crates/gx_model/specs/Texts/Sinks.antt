-- What a sink of bytes has taken, and what sending a text does to it.
-- Source: this project's own.
use Rattle.std.specs.Prelude.{◌≡◌, ℕ, ◌<◌, ◌++◌, length, take, Bool, true, false, Option, Some, None, Result, Ok, Err, ⊤}
use Rattle.gx_model.specs.Texts.{Bytes}

-- the bytes that a sink holds, and whether it has failed
pub record Taken : Type 0 where
  pub bytes : Bytes
  pub failed : Bool

-- Sending takes all bytes, or those before the place where the sink failed. A sink that had failed before takes none.
abbrev pub SendsTo : Taken → Option Taken → Bytes → Result (Unit {0}) ℕ → Type 0
SendsTo old new bytes (Ok _) = (new ≡ Some (record { bytes = old.bytes ++ bytes; failed = old.failed })) × (0 < length bytes → old.failed ≡ false)
SendsTo old new bytes (Err n) = (n < length bytes) × (new ≡ Some (record { bytes = old.bytes ++ take n bytes; failed = true })) × (old.failed ≡ true → n ≡ 0)

abbrev pub Sends : Option Taken → Option Taken → Bytes → Result (Unit {0}) ℕ → Type 0
Sends None new bytes answer = ⊤
Sends (Some old) new bytes answer = SendsTo old new bytes answer

-- a sink took this text; of one that tells nothing, nothing is claimed
abbrev pub Took : Option Taken → Option Taken → Bytes → Type 0
Took None now text = ⊤
Took (Some was) now text = now ≡ Some (record { bytes = was.bytes ++ text; failed = was.failed })

-- a sink failed within this text, of which it took the front
abbrev pub FailedWithin : Option Taken → Option Taken → Bytes → Type 0
FailedWithin None now text = ⊤
FailedWithin (Some was) now text = (front : Bytes) × (rest : Bytes) × (text ≡ front ++ rest) × (0 < length rest) × (now ≡ Some (record { bytes = was.bytes ++ front; failed = true }))

-- a sink took a front of this text
abbrev pub TookFront : Option Taken → Option Taken → Bytes → Type 0
TookFront was now text = (front : Bytes) × (rest : Bytes) × (text ≡ front ++ rest) × Took was now front
