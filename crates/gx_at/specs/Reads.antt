-- What a read at a place gives of a text.
use Rattle.std.specs.Prelude.{◌≡◌, ℕ, ◌≤◌, length, take, drop, Option, Some, None, Result, Ok, Err, ⊤}
use Rattle.gx_model.specs.Texts.{Bytes}
use Rattle.gx_text.specs.declared.device.Failed.{Failed}

-- so many bytes of a text, from a place on: fewer where it ends before
abbrev pub part : Bytes → ℕ → ℕ → Bytes
part text at count = take count (drop at text)

-- A read gives bytes of the text from the place on, and none only where the text ends there or before.
abbrev pub ReadsPart : Bytes → ℕ → Bytes → Result ℕ Failed → Type 0
ReadsPart text at room (Ok n) = (take n room ≡ part text at n) × (n ≡ 0 → length text ≤ at)
ReadsPart text at room (Err _) = ⊤

-- of what tells no text, nothing is claimed
abbrev pub ReadsAt : Option Bytes → ℕ → Bytes → Result ℕ Failed → Type 0
ReadsAt None at room answer = ⊤
ReadsAt (Some text) at room answer = ReadsPart text at room answer

-- these bytes stand in the text at a place
abbrev pub StandsAt : Option Bytes → ℕ → Bytes → Type 0
StandsAt None at bytes = ⊤
StandsAt (Some text) at bytes = bytes ≡ part text at (length bytes)
