-- The growing text of a repository, as it is laid out and sent. Source: this project's own format.
use Rattle.std.specs.Prelude.{◌≡◌, ℕ, ◌+◌, ◌-◌, ◌<◌, ◌^◌, nat_eq, if◌then◌else◌, List, [], ◌∷◌, length, Option, Some, None, Result, Ok, Err}
use Rattle.sha2.specs.Sha256.{sha256}
use Rattle.gx_model.specs.Histories.{Records}
use Rattle.gx_model.specs.Texts.{Bytes}
use Rattle.gx_model.specs.Texts.Sinks.{FailedWithin, Taken, Took}
use Rattle.gx_growing.specs.GrowingText.{Run, Slot, first_rows, first_runs, first_segment, first_slot, page_digests, tail_text}
use Rattle.gx_growing_parts.specs.Shown.{shown_run, shown_slot}
use Rattle.gx_growing_parts.specs.declared.runs.Run.{Run as GivenRun}
use Rattle.gx_growing_rows.specs.declared.laying.Table.{Table}
use Rattle.gx_growing_file.specs.declared.sending.Layout.{Layout}
use Rattle.gx_growing_file.specs.declared.sending.WriteFault.{WriteFault}
use Rattle.gx_growing_file.specs.declared.sending.WriteFault.TheVariants.{Failed, OutOfMemory}

-- the text went out, or the sink failed within it, or memory ran out before anything did
abbrev pub SentGrown : Bytes → Option Taken → Option Taken → Result (Unit {0}) WriteFault → Type 0
SentGrown text was now (Ok done) = Took was now text
SentGrown text was now (Err Failed) = FailedWithin was now text
SentGrown text was now (Err OutOfMemory) = now ≡ was

-- a run or none
abbrev pub runs_of : Option GivenRun → List Run
runs_of None = []
runs_of (Some run) = shown_run run ∷ []

-- the run of so many rows at a place with these digests of their pages, and none where there are no rows
abbrev pub runs_from : ℕ → ℕ → Bytes → List Run
runs_from place count digests = if nat_eq count 0 then [] else record { place = place; count = count; digest = sha256 digests } ∷ []

-- where a text ends in which an LF and a tail stand behind a table
abbrev pub ends_of : {A : Type 0} → Table A → Bytes → ℕ
ends_of table tail = table.place + length table.rows.items + length table.digests.items + 1 + length tail

-- the slot of a text that ends here with a tail
abbrev pub slot_from : ℕ → Bytes → Slot
slot_from ends tail = record { ends = ends; tail = ends - length tail; digest = sha256 tail }

-- what stands around the records of a repository in its growing text, which has fewer than 2^63 bytes
pub record LaysOut {A : Type 0} (repository : Records) (layout : Layout A) : Type 0 where
  pub rows : layout.table.rows.items ≡ first_rows repository.records
  pub digests : layout.table.digests.items ≡ page_digests sha256 (first_rows repository.records)
  pub tail : layout.tail.items ≡ tail_text (first_runs sha256 repository.records) repository.refs
  pub slot : shown_slot layout.slot ≡ first_slot sha256 (first_segment sha256 repository)
  pub short : layout.slot.ends < 2 ^ 63
