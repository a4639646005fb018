-- The last tail of a growing text. Source: this project's own format.
use Rattle.std.specs.Prelude.{◌≡◌, ℕ, ◌+◌, ◌*◌, ◌≤◌, ◌<◌, ◌^◌, List, [], ◌∷◌, ◌++◌, map, length, take, drop, codes, Option, Some, None, Result, ⊤}
use Rattle.std.specs.Borrow.{Bor}
use Rattle.std.specs.List.{AllByRecursion, flat_map}
use Rattle.std.specs.declared.vec.Vec.{Vec}
use Rattle.sha2.specs.Sha256.{sha256}
use Rattle.gx_model.specs.Texts.{Bytes}
use Rattle.gx_model.specs.Texts.Numbers.{number_text}
use Rattle.gx_model.specs.Objects.{line}
use Rattle.gx_model.specs.Stores.StoreText.{stored_ref}
use Rattle.gx_growing.specs.GrowingText.{IsRun, Run, Slot, run_text, tail_text}
use Rattle.gx_growing_parts.specs.Shown.{shown_run}
use Rattle.gx_growing_parts.specs.declared.runs.Run.{Run as GivenRun}
use Rattle.gx_objects.specs.Answers.{AreRefs}
use Rattle.gx_objects.specs.declared.fault.LookFault.{LookFault}
use Rattle.gx_look.specs.declared.tail.Tail.{Tail}
use Rattle.gx_look.specs.Reading.{Gives}

-- the rows of a run stand before an end
abbrev pub EndsBy : ℕ → ℕ → ℕ → Type 0
EndsBy ends place count = place + 28 * count ≤ ends

-- a run that a tail tells, whose rows stand before an end
pub record IsLive (ends : ℕ) (run : Run) : Type 0 where
  pub told : IsRun run
  pub within : EndsBy ends run.place run.count

-- the runs of a tail in front of what follows them
abbrev pub runs_text : List Run → Bytes → Bytes
runs_text runs rest = line (codes "runs") (number_text (length runs)) ++ (flat_map run_text runs ++ rest)

-- the lines of refs, and the last line
abbrev pub refs_text : List (Bytes × Bytes) → Bytes
refs_text refs = flat_map stored_ref refs ++ (codes "end" ++ 10 ∷ [])

-- lines of refs as a repository may have them, and the last line
abbrev pub SpellsLines : Bytes → Type 0
SpellsLines text = (refs : List (Bytes × Bytes)) × (text ≡ refs_text refs) × AreRefs refs

-- these are the runs in front of a rest, where a text spells so
abbrev pub ReadsRuns : {A : Type 0} → ℕ → Bytes → Result (Vec GivenRun A × Bor Bytes) LookFault → Type 0
ReadsRuns ends text result =
    (runs : List Run) (rest : Bytes) → AllByRecursion (IsLive ends) runs → length runs < 2 ^ 64 → text ≡ runs_text runs rest
    → Gives (λ found. (map shown_run found.0.items ≡ runs) × (found.1.now ≡ rest)) result

-- the rows of all runs stand before an end
abbrev pub AreWithin : ℕ → List GivenRun → Type 0
AreWithin ends runs = AllByRecursion (λ run. EndsBy ends run.place run.count) runs

-- a tail's runs stand before an end, and the lines of its refs at the end of its text
pub record IsWithin {A : Type 0} (ends : ℕ) (tail : Tail A) : Type 0 where
  pub runs : AreWithin ends tail.runs.items
  pub refs : tail.refs ≤ length tail.text.items
  pub lines : SpellsLines (drop tail.refs tail.text.items)

-- these are the runs of a tail, and the lines of its refs
abbrev pub HoldsTail : {A : Type 0} → List Run → List (Bytes × Bytes) → Tail A → Type 0
HoldsTail runs refs tail = (map shown_run tail.runs.items ≡ runs) × (drop tail.refs tail.text.items ≡ refs_text refs)

-- of a text that spells a tail its runs and refs are held
abbrev pub ReadsTail : {A : Type 0} → ℕ → Bytes → Result (Tail A) LookFault → Type 0
ReadsTail ends text result =
    (runs : List Run) (refs : List (Bytes × Bytes)) → AllByRecursion (IsLive ends) runs → AreRefs refs → length text < 2 ^ 64 → text ≡ tail_text runs refs
    → Gives (HoldsTail runs refs) result

-- a slot leads to a tail of these runs and refs, and has its digest
pub record LeadsTo (text : Bytes) (slot : Slot) (runs : List Run) (refs : List (Bytes × Bytes)) : Type 0 where
  pub ends : slot.ends ≤ length text
  pub begins : slot.tail ≤ slot.ends
  pub spelled : drop slot.tail (take slot.ends text) ≡ tail_text runs refs
  pub digest : slot.digest ≡ sha256 (tail_text runs refs)
  pub live : AllByRecursion (IsLive slot.ends) runs
  pub named : AreRefs refs

-- the tail to which a slot leads is told
abbrev pub TellsTail : {A : Type 0} → Option Bytes → Slot → Result (Tail A) LookFault → Type 0
TellsTail None slot result = ⊤
TellsTail (Some text) slot result =
    (runs : List Run) (refs : List (Bytes × Bytes)) → LeadsTo text slot runs refs → Gives (HoldsTail runs refs) result
