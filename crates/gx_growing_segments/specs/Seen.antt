-- What was read of a growing text, without where it lies in memory. Source: this project's own format.
use Rattle.std.specs.Borrow.{Bor}
use Rattle.std.specs.Prelude.{◌≡◌, ℕ, List, [], None, Ok, Err, map}
use Rattle.gx_model.specs.Histories.{Record}
use Rattle.gx_model.specs.Stores.StoreReading.{Stored, next_refs}
use Rattle.gx_model.specs.Texts.{Bytes}
use Rattle.gx_growing.specs.GrowingReading.{Front}
use Rattle.gx_growing.specs.GrowingText.{Run}
use Rattle.std.specs.declared.vec.Vec.{Vec}
use Rattle.gx_growing_parts.specs.declared.runs.Run.{Run as GivenRun}
use Rattle.gx_growing_parts.specs.Shown.{shown_run}
use Rattle.gx_growing_segments.specs.declared.segments.Tail.{Tail}
use Rattle.gx_growing_parts.specs.Placing.{rows_of}

-- the refs that were read, where these were
abbrev pub refs_told : Stored (List (Bytes × Bytes) × Bytes) → List (Bytes × Bytes)
refs_told (Ok x) = x.0
refs_told (Err f) = []

-- so many refs at the front of a text, as these records may have them
abbrev pub refs_at : List Record → ℕ → Bytes → List (Bytes × Bytes)
refs_at records count text = refs_told (next_refs count records None text)

-- records with their places, and nothing of a tail
abbrev pub seen_so_far : List Record → List ℕ → Front
seen_so_far records places = record { records = records; rows = rows_of records places; tail = []; runs = []; refs = [] }

-- the runs of a tail, and its refs, which these records may have
abbrev pub shown_tail : {A : Type 0} → List Record → Tail A → List Run × List (Bytes × Bytes)
shown_tail records tail = (map shown_run tail.runs.items, refs_at records tail.count tail.refs.now)

-- these records with their places, and a tail
abbrev pub seen_with : {A : Type 0} → List Record → List ℕ → Tail A → Front
seen_with records places tail = record {
  records = records;
  rows = rows_of records places;
  tail = tail.text.now;
  runs = map shown_run tail.runs.items;
  refs = refs_at records tail.count tail.refs.now;
}

-- a tail and what follows it
abbrev pub shown_next_tail : {A : Type 0} → List Record → Tail A × Bor Bytes → (List Run × List (Bytes × Bytes)) × Bytes
shown_next_tail records parts = (shown_tail records parts.0, parts.1.now)

-- what was read with one more segment, and what follows it
abbrev pub shown_next_segment : {A : Type 0} → List Record → List ℕ → Tail A × Bor Bytes → Front × Bytes
shown_next_segment records places parts = (seen_with records places parts.0, parts.1.now)

-- runs and what follows their lines
abbrev pub shown_next_runs : {A : Type 0} → Vec GivenRun A × Bor Bytes → List Run × Bytes
shown_next_runs parts = (map shown_run parts.0.items, parts.1.now)

-- the name of a ref, and what follows its line
abbrev pub name_and_rest : Stored ((Bytes × Bytes) × Bytes) → Stored (Bytes × Bytes)
name_and_rest (Ok x) = Ok (x.0.0, x.1)
name_and_rest (Err f) = Err f

-- these records may have the refs of a tail
abbrev pub HasRefs : {A : Type 0} → List Record → Tail A → Type 0
HasRefs records tail = (rest : Bytes) × (next_refs tail.count records None tail.refs.now ≡ Ok (refs_at records tail.count tail.refs.now, rest))
