-- Segments that bring objects, with the rows of live runs that they take in. Source: this project's own format.
use Rattle.std.specs.Prelude.{◌≡◌, ◌^◌, ℕ, zero, suc, ◌+◌, ◌<◌, List, [], ◌∷◌, ◌++◌, length, take, map, Option, Some, None, ⊤}
use Rattle.std.specs.List.{flat_map}
use Rattle.sha2.specs.Sha256.{sha256}
use Rattle.gx_model.specs.declared.objects.Kind.{Kind}
use Rattle.gx_model.specs.Histories.{Record, Records}
use Rattle.gx_model.specs.Records.Sound.{IsSound}
use Rattle.gx_model.specs.Texts.{Bytes}
use Rattle.gx_growing.specs.GrowingText.{IsGrowingText, Row, Run, Segment, live_rows, page_digests, row_text, segment_text, slot_text}
use Rattle.gx_growing.specs.GrowingLaws.{ForEachDigester, next_slot}
use Rattle.gx_growing_parts.specs.Endings.{IsEnding}
use Rattle.gx_growing_parts.specs.Shown.{shown_run}
use Rattle.gx_growing_parts.specs.declared.ending.Ending.{Ending}
use Rattle.gx_growing_rows.specs.declared.laying.Table.{Table}
use Rattle.gx_growing_rows.specs.NextTable.{next_place, next_rows}
use Rattle.gx_append.specs.Appending.{Takes}
use Rattle.gx_additions.specs.Additions.{AreLines}
use Rattle.gx_additions.specs.Parts.{before_tail, runs_front}

module _ (digest : Bytes → Bytes) where
  -- the run of so many rows at a place, whose pages have these digests, and none where there are no rows
  abbrev pub new_run : ℕ → ℕ → Bytes → List Run
  new_run place zero digests = []
  new_run place (suc rows) digests = record { place = place; count = suc rows; digest = digest digests } ∷ []

  -- The segment behind a place that brings these records and refs. Its rows are those of the records and of runs that it takes in;
  -- the other live runs stay.
  abbrev pub new_objects : ℕ → List Run → List Row → List Record → List (Bytes × Bytes) → Segment
  new_objects ends kept taken new refs =
      let rows : List Row = next_rows ends new taken in
      record {
        records = new;
        count = length rows;
        table = flat_map row_text rows ++ page_digests digest (flat_map row_text rows);
        runs = kept ++ new_run (next_place ends new (length taken)) (length rows) (page_digests digest (flat_map row_text rows));
        refs = refs;
      }

-- A growing text takes the segment that brings new records and other refs, and takes in the rows of some of its live runs: it is
-- one of all these records with the refs then, where they are sound together.
pub record AdditionsAreTaken (name : Kind → Bytes → Bytes) : Type 0 where
  pub taken : ForEachDigester (λ digest. (text : Bytes) (repository new : Records) (old : IsGrowingText name digest text repository)
      (kept taken : List Run) (records : List Record) → kept ++ taken ≡ old.last.runs → new.records ≡ repository.records ++ records → IsSound name new
      → length text < 2 ^ 63 → old.slot.ends + length (segment_text (new_objects digest old.slot.ends kept (live_rows text taken) records new.refs)) < 2 ^ 63
      → Takes name digest text repository new old (new_objects digest old.slot.ends kept (live_rows text taken) records new.refs))

-- the segment without refs that has a table of so many rows, and its run behind others
abbrev pub laid_out : {A : Type 0} → List Record → List Run → ℕ → Table A → Segment
laid_out records kept count table =
    record { records = records; count = count; table = table.rows.items ++ table.digests.items; runs = kept ++ new_run sha256 table.place count table.digests.items; refs = [] }

-- ---- appending them

-- A file is told that is a growing text of a repository, with this ending, and its records are the first ones of a second
-- repository, so many.
pub record GivesObjects (name : Kind → Bytes → Bytes) (told : Option Bytes) (ending : Ending) (repository new : Records) (held : ℕ) : Type 0 where
  pub file : Bytes
  pub is : told ≡ Some file
  pub old : IsGrowingText name sha256 file repository
  pub ends : IsEnding old ending
  pub front : take held new.records ≡ repository.records
  pub short : length file < 2 ^ 63

-- A file is told that is a growing text of a repository, with this ending. A second repository has these records behind those of
-- the first, and its refs have these lines.
pub record GivesAdditions (name : Kind → Bytes → Bytes) (told : Option Bytes) (ending : Ending) (records : List Record) (count : ℕ) (refs : Bytes)
    (repository new : Records) : Type 0 where
  pub file : Bytes
  pub is : told ≡ Some file
  pub old : IsGrowingText name sha256 file repository
  pub ends : IsEnding old ending
  pub more : new.records ≡ repository.records ++ records
  pub lines : AreLines new.refs count refs
  pub sound : IsSound name new
  pub short : length file < 2 ^ 63

-- the bytes stand in front of a segment's refs, and so many of them before its tail
abbrev pub IsFront : Segment → Bytes → ℕ → Type 0
IsFront segment bytes front = (bytes ≡ before_tail segment ++ runs_front segment.runs) × (front ≡ length (before_tail segment))

-- The bytes stand in front of the refs of a segment that brings these records, and takes in some live runs of a file.
pub record IsBegun (ending : Ending) (records : List Record) (bytes : Bytes) (front : ℕ) (file : Bytes) : Type 0 where
  pub kept : List Run
  pub taken : List Run
  pub runs : kept ++ taken ≡ map shown_run ending.runs.now
  pub front_is : IsFront (new_objects sha256 ending.ends kept (live_rows file taken) records []) bytes front

-- of what tells no file, nothing is claimed
abbrev pub Begins : Option Bytes → Ending → List Record → Bytes → ℕ → Type 0
Begins None ending records bytes front = ⊤
Begins (Some file) ending records bytes front = IsBegun ending records bytes front file

-- The bytes are those of a segment that brings these records and refs, and takes in some live runs of a file, with the slot that
-- leads to it.
pub record IsBrought (ending : Ending) (records : List Record) (refs : List (Bytes × Bytes)) (segment slot file : Bytes) : Type 0 where
  pub kept : List Run
  pub taken : List Run
  pub runs : kept ++ taken ≡ map shown_run ending.runs.now
  pub segment_is : segment ≡ segment_text (new_objects sha256 ending.ends kept (live_rows file taken) records refs)
  pub slot_is : slot ≡ slot_text (next_slot sha256 ending.ends (new_objects sha256 ending.ends kept (live_rows file taken) records refs))
  pub short : ending.ends + length segment < 2 ^ 63

-- of what tells no file, nothing is claimed
abbrev pub BringsObjects : Option Bytes → Ending → List Record → List (Bytes × Bytes) → Bytes → Bytes → Type 0
BringsObjects None ending records refs segment slot = ⊤
BringsObjects (Some file) ending records refs segment slot = IsBrought ending records refs segment slot file
