-- A growing text to which a segment is appended: what stands in its file, and as what the file is read.
use Rattle.std.specs.Prelude.{◌≡◌, ◌⊎◌, ◌^◌, ℕ, ◌+◌, ◌<◌, Bool, true, false, not, [], ◌∷◌, ◌++◌, length, Option, Some, Ok, ⊤}
use Rattle.std.specs.List.{AllByRecursion}
use Rattle.gx_model.specs.declared.objects.Kind.{Kind}
use Rattle.gx_model.specs.Texts.{Bytes}
use Rattle.gx_model.specs.Histories.{Records}
use Rattle.gx_model.specs.Records.Sound.{IsSound}
use Rattle.gx_growing.specs.GrowingText.{IsGrowingText, IsHead, IsSegment, Segment, StandsIn, first_place, head_length, head_text, live_rows, picked, picks_first, placed, placed_rows, segment_text, slot_text, sorted_rows}
use Rattle.gx_growing.specs.GrowingLaws.{grown_text, next_slot}
use Rattle.gx_growing.specs.GrowingReading.{grown_of}
use Rattle.gx_append.specs.declared.fault.AppendFault.{AppendFault}
use Rattle.gx_append.specs.declared.fault.AppendFault.TheVariants.{Unwritten, Unsettled}
use Rattle.gx_append.specs.Devices.{Only}

-- ---- what stands in a file

-- The first slot of a file is picked, or the second; that is this one, and these bytes stand behind the head. Whatever stands behind
-- them is no part of the text, nor is the other slot.
pub record Shows (is_first : Bool) (slot segments file : Bytes) : Type 0 where
  pub pick : Bytes
  pub first : Bytes
  pub second : Bytes
  pub behind : Bytes
  pub spelled : file ≡ head_text pick first second ++ (segments ++ behind)
  pub head : IsHead pick first second
  pub picks : picks_first pick ≡ is_first
  pub slot_is : picked pick first second ≡ slot

-- a file is as it was, or has one segment more, to which the other slot leads
abbrev pub IsBeforeOrAfter : Bool → Bytes → Bytes → Bytes → Bytes → Bytes → Type 0
IsBeforeOrAfter is_first was segments slot segment file = Shows is_first was segments file ⊎ Shows (not is_first) slot (segments ++ segment) file

-- one segment more stands in a file, and the slot that isn't picked leads to it
pub record Staged (is_first : Bool) (was segments slot segment file : Bytes) : Type 0 where
  pub shows : Shows is_first was (segments ++ segment) file
  pub other : (pick : Bytes) → picks_first pick ≡ not is_first → picked pick shows.first shows.second ≡ slot

-- a file is told that has such a picked slot and such bytes up to its end, and the slot that is to be written has a slot's length
pub record IsAsked (told : Option Bytes) (is_first : Bool) (ends : ℕ) (slot : Bytes) (was segments : Bytes) : Type 0 where
  pub file : Bytes
  pub is : told ≡ Some file
  pub shows : Shows is_first was segments file
  pub ends_are : ends ≡ head_length + length segments
  pub long : length slot ≡ 106

-- where the first slot stands, and the second
abbrev pub slot_place : Bool → ℕ
slot_place true = 12
slot_place false = 119

-- a text is told of which this holds
abbrev pub IsTold : Option Bytes → (Bytes → Type 0) → Type 0
IsTold told Holds = (file : Bytes) × (told ≡ Some file) × Holds file

-- a text is told of which this holds, and a stop leaves nothing else
abbrev pub IsDurable : Option Bytes → (Bytes → Type 0) → (Bytes → Type 0) → Type 0
IsDurable told outcomes Holds = IsTold told (λ file. Only file outcomes × Holds file)

-- nothing is written, or the file is as before up to its end, and ends there
abbrev pub IsCutBack : Option Bytes → Option Bytes → Bool → Bytes → Bytes → Type 0
IsCutBack told new is_first was segments = (new ≡ told) ⊎ IsTold new (λ file. Shows is_first was segments file × (length file ≡ head_length + length segments))

-- nothing of the segment is part of the text
abbrev pub IsUnwritten : AppendFault → Type 0
IsUnwritten (Unwritten _) = ⊤
IsUnwritten (Unsettled _) = ⊥

-- ---- as what a file is read

module _ (name : Kind → Bytes → Bytes) (digest : Bytes → Bytes) where
  -- A growing text takes a segment, which makes it one of the second repository: this has the segment's records behind those of the
  -- first, and its refs. The segment's runs tell where all these records stand.
  pub record Takes (text : Bytes) (repository new : Records) (old : IsGrowingText name digest text repository) (segment : Segment) : Type 0 where
    pub whole : IsSegment segment
    pub records : new.records ≡ repository.records ++ segment.records
    pub refs : new.refs ≡ segment.refs
    pub sound : IsSound name new
    pub live : (pick first second : Bytes) → IsHead pick first second
        → AllByRecursion (StandsIn digest (grown_text pick first second old.slot.ends text segment)) segment.runs
    pub told : (pick first second : Bytes) → IsHead pick first second
        → sorted_rows (live_rows (grown_text pick first second old.slot.ends text segment) segment.runs)
        ≡ sorted_rows (placed_rows head_length (old.before ++ old.last ∷ []) ++ placed (first_place old.slot.ends segment.records) segment.records)
    -- files are shorter than that
    pub was_short : length text < 2 ^ 63
    pub is_short : old.slot.ends + length (segment_text segment) < 2 ^ 63

  -- A file is told that is a growing text of a repository, and what is to be appended is a segment that it takes, with the slot that
  -- leads to it.
  pub record IsGrowth (told : Option Bytes) (is_first : Bool) (ends : ℕ) (bytes slot : Bytes) (repository new : Records) : Type 0 where
    pub file : Bytes
    pub is : told ≡ Some file
    pub old : IsGrowingText name digest file repository
    pub picks : picks_first old.pick ≡ is_first
    pub ends_are : ends ≡ old.slot.ends
    pub segment : Segment
    pub takes : Takes file repository new old segment
    pub bytes_are : bytes ≡ segment_text segment
    pub slot_is : slot ≡ slot_text (next_slot digest old.slot.ends segment)

  -- a file is read as this repository
  abbrev pub IsReadAs : Records → Bytes → Type 0
  IsReadAs repository file = grown_of name digest file ≡ Ok repository

  -- a file is read as one of both repositories
  abbrev pub IsReadAsEither : Records → Records → Bytes → Type 0
  IsReadAsEither repository new file = IsReadAs repository file ⊎ IsReadAs new file
