-- The laws of growing texts: what is read of them, what their rows tell, where they end, and how they grow.
-- Source: this project's own format.
use Rattle.std.specs.Prelude.{◌≡◌, ◌^◌, ℕ, ◌+◌, ◌-◌, ◌<◌, List, [], ◌∷◌, ◌++◌, map, length, take, drop, Some, Ok, IsTrue, ⊤}
use Rattle.std.specs.List.{AllByRecursion, zip}
use Rattle.std.specs.List.Sorted.{IsPermutation}
use Rattle.std.specs.FinMap.Entries.{is_sorted}
use Rattle.gx_model.specs.declared.objects.Kind.{Kind}
use Rattle.gx_model.specs.declared.store_versions.Version.TheVariants.{Two}
use Rattle.gx_model.specs.Texts.{Bytes, byte_cmp}
use Rattle.gx_model.specs.Histories.{Record, Records}
use Rattle.gx_model.specs.Records.Sound.{IsSound}
use Rattle.gx_model.specs.Stores.StoreText.{stored_record}
use Rattle.gx_growing.specs.GrowingText.{IsDigester, IsGrowingText, IsHead, IsSegment, Run, Segment, Slot, StandsIn, first_place, growing_text, head_length, head_text, live_rows, part, picked, placed, placed_rows, run_rows, segment_text, slot_text, sorted_rows, tail_text}
use Rattle.gx_growing.specs.GrowingReading.{grown_of, head_of, slot_in}

-- a law of texts whose digests have 32 bytes
abbrev pub ForEachDigester : ((Bytes → Bytes) → Type 0) → Type 0
ForEachDigester Law = (digest : Bytes → Bytes) → IsDigester digest → Law digest

-- ---- what is read

-- what is read of a text is sound, and the text is a growing one of it; each growing text is read as its repository, and so is
-- the one that a writer makes anew
pub record GrowingIsRead (name : Kind → Bytes → Bytes) : Type 0 where
  pub only : ForEachDigester (λ digest. (text : Bytes) (repository : Records) → grown_of name digest text ≡ Ok repository
      → IsSound name repository × IsGrowingText name digest text repository)
  pub read : ForEachDigester (λ digest. (text : Bytes) (repository : Records) → IsGrowingText name digest text repository → length text < 2 ^ 63
      → grown_of name digest text ≡ Ok repository)
  pub written : ForEachDigester (λ digest. (repository : Records) → IsSound name repository → length (growing_text digest repository) < 2 ^ 63
      → grown_of name digest (growing_text digest repository) ≡ Ok repository)

-- ---- what rows tell

-- places that go up
abbrev pub GoUp : List ℕ → Type 0
GoUp [] = ⊤
GoUp (p ∷ ps) = AllByRecursion (λ later. p < later) ps × GoUp ps

-- the text of a record stands at a place
abbrev pub StandsAt : Bytes → ℕ → Record → Type 0
StandsAt text place held = part text place (length (stored_record Two held)) ≡ stored_record Two held

-- the live runs of a text, each sorted by names, have one row for each record, with the place where it stands, and no other;
-- places go up with the order of records
pub record TellsRows (text : Bytes) (runs : List Run) (repository : Records) : Type 0 where
  pub sorted : AllByRecursion (λ run. IsTrue (is_sorted byte_cmp (run_rows text run))) runs
  pub places : List ℕ
  pub all : length places ≡ length repository.records
  pub up : GoUp places
  pub stand : AllByRecursion (λ (p : ℕ × Record). StandsAt text p.0 p.1) (zip places repository.records)
  pub told : IsPermutation (live_rows text runs) (zip (map (λ held. held.name) repository.records) places)

-- the tail that the picked slot of a text leads to, with these runs and refs
abbrev pub HasTail : Bytes → List Run → List (Bytes × Bytes) → Type 0
HasTail text runs refs =
    (slot : Slot) × (rest : Bytes) × (head_of text ≡ Ok (slot, rest)) × (drop slot.tail (take slot.ends text) ≡ tail_text runs refs)

-- the tail of a text that is read has the repository's refs, and its runs tell where the records stand
pub record RowsTell (name : Kind → Bytes → Bytes) : Type 0 where
  pub tells : ForEachDigester (λ digest. (text : Bytes) (repository : Records) → grown_of name digest text ≡ Ok repository
      → (runs : List Run) × HasTail text runs repository.refs × TellsRows text runs repository)

-- ---- where a text ends

-- what stands behind the end, and in the slot that isn't picked, is no part of a text
pub record EndCounts (name : Kind → Bytes → Bytes) : Type 0 where
  pub alike : ForEachDigester (λ digest.
      (pick first second other_pick other_first other_second segments behind other_behind : Bytes) (slot : Slot)
      → IsHead pick first second → IsHead other_pick other_first other_second → picked pick first second ≡ picked other_pick other_first other_second
      → slot_in (picked pick first second) ≡ Some slot → slot.ends ≡ head_length + length segments
      → grown_of name digest (head_text pick first second ++ (segments ++ behind))
      ≡ grown_of name digest (head_text other_pick other_first other_second ++ (segments ++ other_behind)))

-- ---- how a text grows

-- the slot of a text with this segment behind so many bytes
abbrev pub next_slot : (Bytes → Bytes) → ℕ → Segment → Slot
next_slot digest ends segment =
    let tail : Bytes = tail_text segment.runs segment.refs in
    record { ends = ends + length (segment_text segment); tail = ends + length (segment_text segment) - length tail; digest = digest tail }

-- a text up to its end, under another head and with a segment behind it
abbrev pub grown_text : Bytes → Bytes → Bytes → ℕ → Bytes → Segment → Bytes
grown_text pick first second ends text segment = head_text pick first second ++ (part text head_length (ends - head_length) ++ segment_text segment)

-- a segment behind the end of a growing text, under a head that picks a slot that tells it: where the repository with its
-- records and refs is sound, and its runs tell where all records stand, this is a growing text of that repository
pub record Grows (name : Kind → Bytes → Bytes) : Type 0 where
  pub grows : ForEachDigester (λ digest.
      (text : Bytes) (repository new : Records) (old : IsGrowingText name digest text repository) (pick first second behind : Bytes) (segment : Segment)
      → IsHead pick first second → picked pick first second ≡ slot_text (next_slot digest old.slot.ends segment)
      → IsSegment segment → new.records ≡ repository.records ++ segment.records → new.refs ≡ segment.refs → IsSound name new
      → AllByRecursion (StandsIn digest (grown_text pick first second old.slot.ends text segment)) segment.runs
      → sorted_rows (live_rows (grown_text pick first second old.slot.ends text segment) segment.runs)
      ≡ sorted_rows (placed_rows head_length (old.before ++ old.last ∷ []) ++ placed (first_place old.slot.ends segment.records) segment.records)
      → IsGrowingText name digest (grown_text pick first second old.slot.ends text segment ++ behind) new)
