-- Where objects stand, and which names lie between two, by the rows of live runs.
use Rattle.std.specs.Prelude.{◌≡◌, ◌≢◌, ℕ, ◌+◌, ◌*◌, ◌<◌, ◌^◌, List, ◌++◌, map, true, Option, Some, None, IsTrue, ⊤}
use Rattle.std.specs.List.{AllByRecursion, Contains}
use Rattle.std.specs.FinMap.Entries.{is_sorted}
use Rattle.gx_model.specs.Texts.{Bytes, byte_cmp}
use Rattle.gx_growing.specs.GrowingText.{Run, live_rows, run_rows}
use Rattle.gx_growing_parts.specs.Shown.{shown_run}
use Rattle.gx_growing_parts.specs.declared.runs.Run.{Run as GivenRun}
use Rattle.gx_object.specs.declared.name.Name.{Name}
use Rattle.gx_store.specs.NameOrder.{is_within}
use Rattle.gx_store.specs.declared.prefix.Prefix.{Prefix}
use Rattle.gx_store.specs.declared.prefix.Prefix.TheVariants.{Unique, Absent, Ambiguous}

-- places in the rows of runs can be told
abbrev pub AreNear : List GivenRun → Type 0
AreNear runs = AllByRecursion (λ run. run.place + 28 * run.count < 2 ^ 64) runs

-- the rows of each run are in the order of names
abbrev pub AreSorted : Bytes → List Run → Type 0
AreSorted text runs = AllByRecursion (λ run. IsTrue (is_sorted byte_cmp (run_rows text run))) runs

-- A place that is found stands in a row with the name. Where rows are in order, none has it if none is found.
abbrev pub PlacesAmong : Bytes → List Run → Bytes → Option ℕ → Type 0
PlacesAmong text runs name (Some place) = Contains (live_rows text runs) (name, place)
PlacesAmong text runs name None = AreSorted text runs → (place : ℕ) → Contains (live_rows text runs) (name, place) → ⊥

-- of what tells no text, nothing is claimed
abbrev pub PlacesIn : Option Bytes → List GivenRun → Bytes → Option ℕ → Type 0
PlacesIn None runs name found = ⊤
PlacesIn (Some text) runs name found = PlacesAmong text (map shown_run runs) name found

-- ---- between two names

-- a name between two, both included, stands in a row of runs
pub record IsBetween (text : Bytes) (runs : List Run) (ends : Name × Name) (name : Bytes) : Type 0 where
  pub place : ℕ
  pub row : Contains (live_rows text runs) (name, place)
  pub within : is_within ends.0.bytes ends.1.bytes name ≡ true

-- this is found where these names are: none, one alone, or two that differ
abbrev pub IsFoundOf : (Bytes → Type 0) → Prefix → Type 0
IsFoundOf Is Absent = (name : Bytes) → Is name → ⊥
IsFoundOf Is (Unique name) = Is name.bytes × ((other : Bytes) → Is other → other ≡ name.bytes)
IsFoundOf Is Ambiguous = (name : Bytes) × (other : Bytes) × Is name × Is other × (name ≢ other)

-- this is what runs have between two names, where their rows are in order; of what tells no text, nothing is claimed
abbrev pub BegunIn : Option Bytes → List GivenRun → Name × Name → Prefix → Type 0
BegunIn None runs ends found = ⊤
BegunIn (Some text) runs ends found = AreSorted text (map shown_run runs) → IsFoundOf (IsBetween text (map shown_run runs) ends) found

-- this is what two parts of runs have together
abbrev pub Joins : Prefix → Prefix → Prefix → Type 0
Joins found more result =
    (told : Option Bytes) (front behind : List GivenRun) (ends : Name × Name) → BegunIn told front ends found → BegunIn told behind ends more
    → BegunIn told (front ++ behind) ends result
