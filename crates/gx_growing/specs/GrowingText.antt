-- The text of a growing store: a head with two slots, of which one byte picks one, and segments of records, rows and refs up to
-- where the picked slot says. Source: this project's own format.
use Rattle.std.specs.Prelude.{◌≡◌, ℕ, zero, suc, ◌+◌, ◌*◌, ◌-◌, ◌/◌, ◌≤◌, ◌<◌, ◌^◌, Bool, ◌&&◌, nat_eq, nat_lt, if◌then◌else◌, List, [], ◌∷◌, ◌++◌, length, take, drop, replicate, codes, IsTrue, ⊤}
use Rattle.std.specs.List.{AllByRecursion, flat_map, list_all}
use Rattle.std.specs.Int.{w64, from_be_bytes, to_be_bytes}
use Rattle.std.specs.FinMap.Entries.{is_sorted}
use Rattle.std.specs.Ordering.{is_lt, nat_cmp, ordering_then}
use Rattle.std.specs.declared.cmp.Ordering.{Ordering}
use Rattle.gx_model.specs.declared.objects.Kind.{Kind}
use Rattle.gx_model.specs.declared.store_versions.Version.TheVariants.{Two}
use Rattle.gx_model.specs.Texts.{Bytes, byte_cmp, same_bytes}
use Rattle.gx_model.specs.Texts.Numbers.{number_text}
use Rattle.gx_model.specs.Objects.{hex, line}
use Rattle.gx_model.specs.Histories.{Record, Records}
use Rattle.gx_model.specs.Records.Sound.{IsSound}
use Rattle.gx_model.specs.Stores.StoreText.{stored_record, stored_ref}

-- so many bytes of a text, from a place on
abbrev pub part : Bytes → ℕ → ℕ → Bytes
part text at count = take count (drop at text)

-- ---- digests

-- 32 bytes
abbrev pub is_digest : Bytes → Bool
is_digest digest = nat_eq (length digest) 32 && list_all (λ byte. nat_lt byte 256) digest

-- every text has a digest of 32 bytes, as with SHA-256
abbrev pub IsDigester : (Bytes → Bytes) → Type 0
IsDigester digest = (text : Bytes) → IsTrue (is_digest (digest text))

-- ---- the head

-- a number of twenty digits, with zeros in front
abbrev pub long_number : ℕ → Bytes
long_number n = replicate (20 - length (number_text n)) 48 ++ number_text n

-- where a text ends, where its last tail begins, and the digest of this tail
pub record Slot : Type 0 where
  pub ends : ℕ
  pub tail : ℕ
  pub digest : Bytes

-- a slot in 106 bytes
abbrev pub slot_text : Slot → Bytes
slot_text slot = long_number slot.ends ++ (32 ∷ (long_number slot.tail ++ (32 ∷ hex slot.digest)))

-- the first 226 bytes: the byte that picks stands alone in its line, and so do both slots
abbrev pub head_text : Bytes → Bytes → Bytes → Bytes
head_text pick first second = line (codes "gxstore") (codes "3") ++ (pick ++ (10 ∷ (first ++ (10 ∷ (second ++ 10 ∷ [])))))

-- whether this byte picks the first slot
abbrev pub picks_first : Bytes → Bool
picks_first pick = same_bytes pick (codes "a")

-- an `a` picks the first slot, and any other byte the second
abbrev pub picked : Bytes → Bytes → Bytes → Bytes
picked pick first second = if picks_first pick then first else second

-- a byte and two slots, whatever they hold
pub record IsHead (pick first second : Bytes) : Type 0 where
  pub one_byte : length pick ≡ 1
  pub of_first : length first ≡ 106
  pub of_second : length second ≡ 106

-- where the segments begin
abbrev pub head_length : ℕ
head_length = 226

-- ---- rows

-- a name, and where the line of its record stands
abbrev pub Row : Type 0
Row = Bytes × ℕ

-- a row in 28 bytes: the place has the most significant byte first
abbrev pub row_text : Row → Bytes
row_text row = row.0 ++ to_be_bytes w64 row.1

-- the order of names, and of places where names are equal
abbrev pub row_cmp : Row → Row → Ordering
row_cmp row other = ordering_then (byte_cmp row.0 other.0) (nat_cmp row.1 other.1)

-- a row with others that are in order
abbrev pub with_row : Row → List Row → List Row
with_row row [] = row ∷ []
with_row row (r ∷ rs) = if is_lt (row_cmp r row) then r ∷ with_row row rs else row ∷ r ∷ rs

-- rows in order
abbrev pub sorted_rows : List Row → List Row
sorted_rows [] = []
sorted_rows (row ∷ rows) = with_row row (sorted_rows rows)

-- the rows that so many times 28 bytes are
abbrev pub rows_in : ℕ → Bytes → List Row
rows_in zero text = []
rows_in (suc n) text = (take 20 text, from_be_bytes w64 (part text 20 8)) ∷ rows_in n (drop 28 text)

-- how many pages of 585 rows so many bytes of rows have
abbrev pub page_count : ℕ → ℕ
page_count bytes = (bytes + 16379) / 16380

-- the digests of so many pages
abbrev pub digests_of : (Bytes → Bytes) → ℕ → Bytes → Bytes
digests_of digest zero rows = []
digests_of digest (suc n) rows = digest (take 16380 rows) ++ digests_of digest n (drop 16380 rows)

-- the digests of all pages of the bytes of rows
abbrev pub page_digests : (Bytes → Bytes) → Bytes → Bytes
page_digests digest rows = digests_of digest (page_count (length rows)) rows

-- how many bytes the digests behind so many rows have
abbrev pub digests_length : ℕ → ℕ
digests_length count = 32 * page_count (28 * count)

-- how many bytes so many rows and their digests have
abbrev pub table_length : ℕ → ℕ
table_length count = 28 * count + digests_length count

-- ---- segments

-- where rows begin, how many they are, and the digest of their pages' digests
pub record Run : Type 0 where
  pub place : ℕ
  pub count : ℕ
  pub digest : Bytes

-- the line of a run
abbrev pub run_text : Run → Bytes
run_text run = number_text run.place ++ (32 ∷ (number_text run.count ++ (32 ∷ (hex run.digest ++ 10 ∷ []))))

-- what is told in the line of a run
pub record IsRun (run : Run) : Type 0 where
  pub place : run.place < 2 ^ 64
  pub count : run.count < 2 ^ 64
  pub digest : IsTrue (is_digest run.digest)

-- records, a table of rows with the digests of its pages, and the runs and refs from then on
pub record Segment : Type 0 where
  pub records : List Record
  pub count : ℕ
  pub table : Bytes
  pub runs : List Run
  pub refs : List (Bytes × Bytes)

-- the last part of a segment
abbrev pub tail_text : List Run → List (Bytes × Bytes) → Bytes
tail_text runs refs =
    line (codes "runs") (number_text (length runs))
    ++ (flat_map run_text runs ++ (line (codes "refs") (number_text (length refs)) ++ (flat_map stored_ref refs ++ (codes "end" ++ 10 ∷ []))))

-- a segment in front of what follows its records
abbrev pub records_text : List Record → Bytes → Bytes
records_text records rest = line (codes "objects") (number_text (length records)) ++ (flat_map (stored_record Two) records ++ rest)

-- a table in front of what follows it
abbrev pub rows_text : ℕ → Bytes → Bytes → Bytes
rows_text count table rest = line (codes "rows") (number_text count) ++ (table ++ (10 ∷ rest))

-- the text of a segment
abbrev pub segment_text : Segment → Bytes
segment_text segment = records_text segment.records (rows_text segment.count segment.table (tail_text segment.runs segment.refs))

-- ---- what segments hold

-- the names of records that stand one behind the other from a place on, with their places
abbrev pub placed : ℕ → List Record → List Row
placed place [] = []
placed place (r ∷ rs) = (r.name, place) ∷ placed (place + length (stored_record Two r)) rs

-- where the first record of a segment stands
abbrev pub first_place : ℕ → List Record → ℕ
first_place place records = place + length (line (codes "objects") (number_text (length records)))

-- the names and places of the records of segments that stand one behind the other from a place on, in their order
abbrev pub placed_rows : ℕ → List Segment → List Row
placed_rows place [] = []
placed_rows place (s ∷ ss) = placed (first_place place s.records) s.records ++ placed_rows (place + length (segment_text s)) ss

-- the records of segments
abbrev pub records_of : List Segment → List Record
records_of = flat_map (λ segment. segment.records)

-- a table is as long as it says, and the runs are told
pub record IsSegment (segment : Segment) : Type 0 where
  pub table : length segment.table ≡ table_length segment.count
  pub runs : AllByRecursion IsRun segment.runs

-- segments behind these records: the refs of each are a repository's with all records so far
abbrev pub AreSegments : (Kind → Bytes → Bytes) → List Record → List Segment → Type 0
AreSegments name before [] = ⊤
AreSegments name before (s ∷ ss) =
    IsSegment s × IsSound name (record { records = before ++ s.records; refs = s.refs }) × AreSegments name (before ++ s.records) ss

-- ---- live runs

-- the bytes of a run's rows
abbrev pub run_bytes : Bytes → Run → Bytes
run_bytes text run = part text run.place (28 * run.count)

-- the rows of a run
abbrev pub run_rows : Bytes → Run → List Row
run_rows text run = rows_in run.count (drop run.place text)

-- the rows of runs
abbrev pub live_rows : Bytes → List Run → List Row
live_rows text = flat_map (run_rows text)

-- a run stands in the segments of a text: its rows in the order of names, the digests of their pages, and the digest of these
pub record StandsIn (digest : Bytes → Bytes) (text : Bytes) (run : Run) : Type 0 where
  pub behind : head_length ≤ run.place
  pub within : run.place + table_length run.count ≤ length text
  pub pages : part text (run.place + 28 * run.count) (digests_length run.count) ≡ page_digests digest (run_bytes text run)
  pub told : run.digest ≡ digest (page_digests digest (run_bytes text run))
  pub sorted : IsTrue (is_sorted byte_cmp (run_rows text run))

-- ---- the whole

module _ (name : Kind → Bytes → Bytes) (digest : Bytes → Bytes) where
  -- this is a growing text of a repository
  pub record IsGrowingText (text : Bytes) (repository : Records) : Type 0 where
    pub pick : Bytes
    pub first : Bytes
    pub second : Bytes
    pub slot : Slot
    pub before : List Segment
    pub last : Segment
    -- what stands behind where the picked slot says that the text ends
    pub behind : Bytes
    pub spelled : text ≡ head_text pick first second ++ (flat_map segment_text (before ++ last ∷ []) ++ behind)
    pub head : IsHead pick first second
    pub slot_is : picked pick first second ≡ slot_text slot
    pub ends : slot.ends ≡ head_length + length (flat_map segment_text (before ++ last ∷ []))
    pub tail : slot.tail + length (tail_text last.runs last.refs) ≡ slot.ends
    pub tail_digest : slot.digest ≡ digest (tail_text last.runs last.refs)
    pub segments : AreSegments name [] (before ++ last ∷ [])
    pub records : records_of (before ++ last ∷ []) ≡ repository.records
    pub refs : last.refs ≡ repository.refs
    pub live : AllByRecursion (StandsIn digest (take slot.ends text)) last.runs
    pub told : sorted_rows (live_rows (take slot.ends text) last.runs) ≡ sorted_rows (placed_rows head_length (before ++ last ∷ []))

-- ---- the text that a writer makes anew

-- the slot that isn't picked
abbrev pub no_slot : Slot
no_slot = record { ends = 0; tail = 0; digest = replicate 32 0 }

-- where the rows of the first segment stand
abbrev pub rows_place : List Record → ℕ
rows_place records = first_place head_length records + length (flat_map (stored_record Two) records) + length (line (codes "rows") (number_text (length records)))

-- the bytes of the rows of the first segment
abbrev pub first_rows : List Record → Bytes
first_rows records = flat_map row_text (sorted_rows (placed (first_place head_length records) records))

module _ (digest : Bytes → Bytes) where
  -- the one run, and none where there are no records
  abbrev pub first_runs : List Record → List Run
  first_runs [] = []
  first_runs (r ∷ rs) =
      record { place = rows_place (r ∷ rs); count = length (r ∷ rs); digest = digest (page_digests digest (first_rows (r ∷ rs))) } ∷ []

  -- all records, their rows, and the refs
  abbrev pub first_segment : Records → Segment
  first_segment repository = record {
    records = repository.records;
    count = length repository.records;
    table = first_rows repository.records ++ page_digests digest (first_rows repository.records);
    runs = first_runs repository.records;
    refs = repository.refs;
  }

  -- where the text with this one segment ends, and its tail
  abbrev pub first_slot : Segment → Slot
  first_slot segment =
      let tail = tail_text segment.runs segment.refs in
      let ends = head_length + length (segment_text segment) in
      record { ends = ends; tail = ends - length tail; digest = digest tail }

  -- the growing text of a repository with one segment
  unfoldable pub growing_text : Records → Bytes
  growing_text repository =
      head_text (codes "a") (slot_text (first_slot (first_segment repository))) (slot_text no_slot) ++ segment_text (first_segment repository)
