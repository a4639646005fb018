-- Parts of growing texts without where they lie in memory.
use Rattle.std.specs.Borrow.{Bor}
use Rattle.gx_model.specs.Texts.{Bytes}
use Rattle.gx_growing.specs.GrowingText.{Run, Slot}
use Rattle.gx_growing_parts.specs.declared.head.Slot.{Slot as GivenSlot}
use Rattle.gx_growing_parts.specs.declared.runs.Run.{Run as GivenRun}

abbrev pub shown_slot : GivenSlot → Slot
shown_slot slot = record { ends = slot.ends; tail = slot.tail; digest = slot.digest }

abbrev pub shown_run : GivenRun → Run
shown_run run = record { place = run.place; count = run.count; digest = run.digest }

-- a slot and what follows the head
abbrev pub shown_head : GivenSlot × Bor Bytes → Slot × Bytes
shown_head parts = (shown_slot parts.0, parts.1.now)

-- a run and what follows its line
abbrev pub shown_next_run : GivenRun × Bor Bytes → Run × Bytes
shown_next_run parts = (shown_run parts.0, parts.1.now)
