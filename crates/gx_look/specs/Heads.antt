-- The slot that a growing text's head picks. Source: this project's own format.
use Rattle.std.specs.Prelude.{◌≡◌, Bool, if◌then◌else◌, Option, Some, None, Result, Ok, ⊤}
use Rattle.std.specs.Option.{option_map}
use Rattle.gx_model.specs.Texts.{Bytes}
use Rattle.gx_growing.specs.GrowingText.{IsHead, Slot, head_text, part, picked, picks_first}
use Rattle.gx_growing.specs.GrowingReading.{head_of, slot_in}
use Rattle.gx_growing_parts.specs.Shown.{shown_slot}
use Rattle.gx_objects.specs.declared.fault.LookFault.{LookFault}
use Rattle.gx_look.specs.declared.head.Picked.{Picked}
use Rattle.gx_look.specs.Reading.{Gives}

-- the part of a head in which its first slot stands, or its second
abbrev pub slot_part : Bytes → Bool → Bytes
slot_part head is_first = if is_first then part head 12 106 else part head 119 106

-- whether the first slot is picked, and the one that is
abbrev pub shown_picked : Picked → Bool × Slot
shown_picked found = (found.is_first, shown_slot found.slot)

-- of a head's text it is found whether it picks the first slot, and the slot that it picks
abbrev pub PicksSlot : Bytes → Option Picked → Type 0
PicksSlot head found =
    (pick first second : Bytes) → IsHead pick first second → head ≡ head_text pick first second
    → option_map shown_picked found ≡ option_map (λ slot. (picks_first pick, slot)) (slot_in (picked pick first second))

-- of a text that has a head the same is told
abbrev pub TellsSlot : Option Bytes → Result Picked LookFault → Type 0
TellsSlot None result = ⊤
TellsSlot (Some text) result =
    (x : Slot × Bytes) → head_of text ≡ Ok x → Gives (λ found. shown_picked found ≡ (picks_first (part text 10 1), x.0)) result
