-- All objects of a growing text, by the rows of its live runs.
use Rattle.std.specs.Prelude.{◌≡◌, ℕ, ◌+◌, ◌≤◌, List, [], ◌∷◌, ◌++◌, length, map, Option, Some, None, Result, ⊤}
use Rattle.std.specs.List.{AllZip}
use Rattle.std.specs.List.Sorted.{IsNonDecreasingBy, IsPermutation}
use Rattle.gx_model.specs.declared.objects.Kind.{Kind}
use Rattle.gx_model.specs.declared.store_versions.Version.TheVariants.{Two}
use Rattle.gx_model.specs.Texts.{Bytes}
use Rattle.gx_model.specs.Histories.{AreDistinct, Record}
use Rattle.gx_model.specs.Stores.StoreText.{stored_record}
use Rattle.gx_growing.specs.GrowingText.{Row, live_rows, run_rows}
use Rattle.gx_growing_parts.specs.Shown.{shown_run}
use Rattle.gx_growing_parts.specs.declared.runs.Run.{Run as GivenRun}
use Rattle.gx_listed.specs.Listings.{HaveHeads, Listed, head_of, shown_head}
use Rattle.gx_listed.specs.declared.listing.Standing.{Standing}
use Rattle.gx_object.specs.declared.name.Name.{Name}
use Rattle.gx_objects.specs.declared.fault.LookFault.{LookFault}
use Rattle.gx_objects.specs.declared.fault.LookFault.TheVariants.{Damaged}
use Rattle.gx_look.specs.Reading.{Gives}
use Rattle.gx_look.specs.Records.{IsRecordAt}
use Rattle.gx_look.specs.Tails.{AreWithin}

-- ---- rows

-- the rows of a run were added; of what tells no text, nothing is claimed
abbrev pub AddsRows : Option Bytes → GivenRun → List Row → List Row → Type 0
AddsRows None run old new = ⊤
AddsRows (Some text) run old new = new ≡ old ++ run_rows text (shown_run run)

-- these are the rows of runs, in the order of places
pub record AreRows (text : Bytes) (runs : List GivenRun) (rows : List Row) : Type 0 where
  pub all : IsPermutation (live_rows text (map shown_run runs)) rows
  pub up : IsNonDecreasingBy (λ row. row.1) rows

abbrev pub AreRowsOf : Option Bytes → List GivenRun → List Row → Type 0
AreRowsOf None runs rows = ⊤
AreRowsOf (Some text) runs rows = AreRows text runs rows

-- a text that is damaged ends before the rows of a run do
abbrev pub EndsBeforeRuns : Option Bytes → List GivenRun → LookFault → Type 0
EndsBeforeRuns None runs fault = ⊤
EndsBeforeRuns (Some text) runs fault = fault ≡ Damaged → AreWithin (length text) runs → ⊥

-- ---- records

module _ (text : Bytes) (ends : ℕ) where
  -- these records stand at the places in rows before an end, under their names
  abbrev pub AreRecordsAt : (Kind → Bytes → Bytes) → List Row → List Record → Type 0
  AreRecordsAt name rows records = AllZip (λ row held. IsRecordAt name text ends row.1 row.0 held) rows records

  -- of records that stand so it is listed where they stand, of what kind they are, and how long
  abbrev pub ListsRecords : List Row → List Listed → Type 0
  ListsRecords rows listed =
      (name : Kind → Bytes → Bytes) (records : List Record) → AreRecordsAt name rows records → HaveHeads listed records × (map (λ one. one.1.place) listed ≡ map (λ row. row.1) rows)

-- records that follow one another: each stands behind a place, and behind the one before it
abbrev pub Follow : ℕ → List Row → List Record → Type 0
Follow least [] records = ⊤
Follow least (row ∷ rows) [] = ⊤
Follow least (row ∷ rows) (held ∷ records) = least ≤ row.1 × Follow (row.1 + length (stored_record Two held)) rows records

-- objects whose bodies have no byte in common: each stands behind a place, and behind the body of the one before it
abbrev pub StandApart : ℕ → List Listed → Type 0
StandApart least [] = ⊤
StandApart least (one ∷ listed) = least ≤ one.1.place × StandApart (one.1.place + one.1.length) listed

-- of the record of a name at a place before an end it is told of what kind it is, how long, and where its body ends: in front of an LF
abbrev pub TellsStanding : Option Bytes → ℕ → ℕ → Name → Result (Standing × ℕ) LookFault → Type 0
TellsStanding None ends place called result = ⊤
TellsStanding (Some text) ends place called result =
    (name : Kind → Bytes → Bytes) (held : Record) → IsRecordAt name text ends place called.bytes held
    → Gives (λ told. (told.0.place ≡ place) × (shown_head (called, told.0) ≡ head_of held) × (told.1 + 1 ≡ place + length (stored_record Two held))) result

abbrev pub ListsRows : Option Bytes → ℕ → List Row → List Listed → Type 0
ListsRows None ends rows listed = ⊤
ListsRows (Some text) ends rows listed = ListsRecords text ends rows listed

-- where records stand so that follow one another, and whose names differ, nothing is damaged
abbrev pub RefusesRows : Option Bytes → ℕ → List Row → LookFault → Type 0
RefusesRows None ends rows fault = ⊤
RefusesRows (Some text) ends rows fault =
    fault ≡ Damaged → (name : Kind → Bytes → Bytes) (records : List Record) → AreRecordsAt text ends name rows records
    → AreDistinct (map (λ held. held.name) records) → Follow 0 rows records → ⊥
