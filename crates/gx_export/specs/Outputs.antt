-- What a sink makes of a text that is written to it.
use Rattle.std.specs.Prelude.{◌≡◌, ◌⊎◌, ℕ, ◌+◌, ◌-◌, ◌^◌, ◌<◌, ◌≤◌, ◌++◌, length, true, Option, Some, None, Result, Ok, Err, ⊤}
use Rattle.gx_model.specs.Texts.{Bytes}
use Rattle.gx_model.specs.Texts.Sinks.{Taken, Took, TookFront}
use Rattle.gx_export.specs.declared.fault.ExportFault.{ExportFault}
use Rattle.gx_export.specs.declared.fault.ExportFault.TheVariants.{OutOfMemory, Unsupported, WriteFailed}

-- the most bytes that a text has
abbrev pub most : ℕ
most = 2 ^ 63 - 1

-- a sink, by the name of its loan, what it took, and how many bytes of a text went there
pub record Sent : Type 0 where
  pub name : ℕ
  pub taken : Option Taken
  pub bytes : ℕ

-- the sink failed after this front, or its bytes are the most; of a sink that tells nothing, nothing is claimed
abbrev pub StopsAfter : ℕ → Option Taken → Option Taken → Bytes → Type 0
StopsAfter count None now front = ⊤
StopsAfter count (Some was) now front =
    (now ≡ Some (record { bytes = was.bytes ++ front; failed = true }))
    ⊎ ((count ≡ most) × (now ≡ Some (record { bytes = was.bytes ++ front; failed = was.failed })))

-- Of this text, with so many bytes before it, the sink took those up to this count, which aren't all, and failed or has the
-- most bytes. Also of a sink that tells nothing, not all bytes are counted.
abbrev pub StopsAt : ℕ → ℕ → Option Taken → Option Taken → Bytes → Type 0
StopsAt before count was now text =
    (front : Bytes) × (rest : Bytes) × (text ≡ front ++ rest) × (0 < length rest) × (count ≡ before + length front) × StopsAfter count was now front

-- what an export that stops within this text leaves
abbrev pub Stops : Sent → Sent → Bytes → ExportFault → Type 0
Stops old new text OutOfMemory = TookFront old.taken new.taken text
Stops old new text (WriteFailed count) = StopsAt old.bytes count old.taken new.taken text
Stops old new text Unsupported = ⊥

-- a text goes out behind so many bytes, and is then counted with them; or the export stops within it
abbrev pub Goes : Sent → Sent → Bytes → Result (Unit {0}) ExportFault → Type 0
Goes old new text (Ok _) =
    (new.bytes ≡ old.bytes + length text) × (old.bytes ≤ most → new.bytes ≤ most) × Took old.taken new.taken text
Goes old new text (Err fault) = Stops old new text fault

-- It goes to this sink and no other.
abbrev pub Writes : Sent → Sent → Bytes → Result (Unit {0}) ExportFault → Type 0
Writes old new text result = (new.name ≡ old.name) × Goes old new text result

-- The sink took a text of at most 2^63 - 1 bytes; or memory ran out within this front of the text; or the sink didn't take
-- all of it.
abbrev pub Delivers : Bytes → Bytes → Option Taken → Option Taken → Result (Unit {0}) ExportFault → Type 0
Delivers front text was now (Ok _) = Took was now text × (length text ≤ most)
Delivers front text was now (Err OutOfMemory) = TookFront was now front
Delivers front text was now (Err (WriteFailed count)) = StopsAt 0 count was now text
Delivers front text was now (Err Unsupported) = ⊥
