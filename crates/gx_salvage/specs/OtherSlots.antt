-- A growing text of which the byte that picks a slot is another. Source: this project's own format.
use Rattle.std.specs.Prelude.{◌≡◌, ℕ, ◌∷◌, [], not, set, Option, Some, None}
use Rattle.std.specs.Option.{option_map}
use Rattle.gx_at.specs.Reads.{part}
use Rattle.gx_growing.specs.GrowingText.{picks_first}
use Rattle.gx_model.specs.Texts.{Bytes}

-- a text with this byte to pick a slot
abbrev pub with_pick : ℕ → Bytes → Bytes
with_pick byte text = set text 10 byte

-- a byte picks a slot, and another one doesn't
abbrev pub PicksOther : Bytes → ℕ → Type 0
PicksOther text byte = picks_first (byte ∷ []) ≡ not (picks_first (part text 10 1))

-- the one text is the other with the other slot picked
abbrev pub IsOther : Option Bytes → Option Bytes → Type 0
IsOther None other = other ≡ None
IsOther (Some text) other = (byte : ℕ) × (other ≡ Some (with_pick byte text)) × PicksOther text byte
