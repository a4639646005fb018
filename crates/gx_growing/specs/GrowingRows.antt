-- Worked rows on growing texts: as a writer of them that knows nothing of these definitions gives them, and texts that are refused.
-- Their digests are no real ones, so that they are computed soon. The true digest of the empty text's tail stands in one row.
use Rattle.std.specs.Prelude.{◌≡◌, ℕ, ◌+◌, ◌%◌, List, [], ◌∷◌, ◌++◌, map, length, take, drop, replicate, codes, Option, Some, None, Result, Ok, Err, refl}
use Rattle.std.specs.List.{flat_map, fold}
use Rattle.std.specs.Fmt.{digits}
use Rattle.gx_model.specs.declared.objects.Kind.{Kind}
use Rattle.gx_model.specs.declared.objects.Kind.TheVariants as kind
use Rattle.gx_model.specs.declared.store_faults.FileFault.TheVariants as fault
use Rattle.gx_model.specs.Texts.{Bytes, cut_at}
use Rattle.gx_model.specs.Texts.Idents.{is_ident}
use Rattle.gx_model.specs.Texts.Numbers.{number_text}
use Rattle.gx_model.specs.Streams.Spelling.{text_of_lines}
use Rattle.gx_model.specs.Histories.Values.{CommitText}
use Rattle.gx_model.specs.Histories.{Record, Records, empty_repository}
use Rattle.gx_model.specs.Objects.{commit_text, unhex}
use Rattle.gx_model.specs.Records.RecordFaults.{content_fault, record_fault}
use Rattle.gx_model.specs.Rows.RowTexts.{last_byte_name}
use Rattle.gx_growing.specs.declared.fault.GrowingFault.{GrowingFault}
use Rattle.gx_growing.specs.declared.fault.GrowingFault.TheVariants.{Text, BadRows}
use Rattle.gx_growing.specs.GrowingText.{Run, Segment, first_segment, first_slot, growing_text, head_length, head_text, long_number, page_digests, segment_text, slot_text}
use Rattle.gx_growing.specs.GrowingReading.{grown_of}

-- the names in these rows
abbrev name : Kind → Bytes → Bytes
name = last_byte_name

-- the digests in these rows: thirty bytes 0x11, the length modulo 256, and the last byte
abbrev digest : Bytes → Bytes
digest text = replicate 30 17 ++ length text % 256 ∷ fold (λ x b. b) 0 text ∷ []

-- a record under its name
abbrev stored : Kind → Bytes → Record
stored k body = record { name = name k body; kind = k; body = body }

abbrev root_tree : Record
root_tree = stored kind.Tree []

abbrev text : CommitText
text = record { author = codes "A <a@x> 1 +0000"; committer = codes "A <a@x> 1 +0000"; headers = []; message = codes "m" }

abbrev root : Record
root = stored kind.Commit (commit_text (record { tree = root_tree.name; parents = []; text = text }))

-- a blob, a tree and a commit
abbrev first_records : List Record
first_records = stored kind.Blob (codes "v1" ++ 10 ∷ []) ∷ root_tree ∷ root ∷ []

abbrev main : Bytes × Bytes
main = (codes "refs/heads/main", root.name)

abbrev next : Bytes × Bytes
next = (codes "refs/heads/next", root.name)

-- three repositories, of which each has grown out of the one before
abbrev first : Records
first = record { records = first_records; refs = main ∷ [] }

abbrev second : Records
second = record { records = first_records ++ stored kind.Blob (codes "v2" ++ 10 ∷ codes "+") ∷ []; refs = main ∷ next ∷ [] }

abbrev third : Records
third = record { records = second.records ++ stored kind.Blob (codes "v3" ++ 10 ∷ codes "++") ∷ []; refs = main ∷ next ∷ [] }

-- ---- texts

-- rows and digests, without an LF between
abbrev table_of : List Bytes → Bytes
table_of = flat_map unhex

-- no records and no refs
abbrev nothing : List Bytes
nothing =
    codes "objects 0"
    ∷ codes "rows 0"
    ∷ []
    ∷ codes "runs 0"
    ∷ codes "refs 0"
    ∷ codes "end"
    ∷ []

-- a blob, a tree, a commit and a ref
abbrev first_part : List Bytes
first_part =
    codes "objects 3"
    ∷ codes "blob 3 111111111111111111111111111111111100030a"
    ∷ codes "v1"
    ∷ []
    ∷ codes "tree 0 1111111111111111111111111111111111010000"
    ∷ []
    ∷ codes "commit 97 111111111111111111111111111111111102616d"
    ∷ codes "tree 1111111111111111111111111111111111010000"
    ∷ codes "author A <a@x> 1 +0000"
    ∷ codes "committer A <a@x> 1 +0000"
    ∷ []
    ∷ codes "m"
    ∷ codes "rows 3"
    ∷ table_of (
    codes "111111111111111111111111111111111100030a00000000000000ec"
    ∷ codes "11111111111111111111111111111111110100000000000000000120"
    ∷ codes "111111111111111111111111111111111102616d0000000000000151"
    ∷ codes "1111111111111111111111111111111111111111111111111111111111115451"
    ∷ [])
    ∷ codes "runs 1"
    ∷ codes "493 3 1111111111111111111111111111111111111111111111111111111111112051"
    ∷ codes "refs 1"
    ∷ codes "111111111111111111111111111111111102616d refs/heads/main"
    ∷ codes "end"
    ∷ []

-- another blob, and one more ref
abbrev second_part : List Bytes
second_part =
    codes "objects 1"
    ∷ codes "blob 4 111111111111111111111111111111111100042b"
    ∷ codes "v2"
    ∷ codes "+"
    ∷ codes "rows 1"
    ∷ table_of (
    codes "111111111111111111111111111111111100042b00000000000002fe"
    ∷ codes "1111111111111111111111111111111111111111111111111111111111111cfe"
    ∷ [])
    ∷ codes "runs 2"
    ∷ codes "493 3 1111111111111111111111111111111111111111111111111111111111112051"
    ∷ codes "826 1 11111111111111111111111111111111111111111111111111111111111120fe"
    ∷ codes "refs 2"
    ∷ codes "111111111111111111111111111111111102616d refs/heads/main"
    ∷ codes "111111111111111111111111111111111102616d refs/heads/next"
    ∷ codes "end"
    ∷ []

-- one more blob, with a row for each object
abbrev third_part : List Bytes
third_part =
    codes "objects 1"
    ∷ codes "blob 5 111111111111111111111111111111111100052b"
    ∷ codes "v3"
    ∷ codes "++"
    ∷ codes "rows 5"
    ∷ table_of (
    codes "111111111111111111111111111111111100030a00000000000000ec"
    ∷ codes "111111111111111111111111111111111100042b00000000000002fe"
    ∷ codes "111111111111111111111111111111111100052b0000000000000493"
    ∷ codes "11111111111111111111111111111111110100000000000000000120"
    ∷ codes "111111111111111111111111111111111102616d0000000000000151"
    ∷ codes "1111111111111111111111111111111111111111111111111111111111118c51"
    ∷ [])
    ∷ codes "runs 1"
    ∷ codes "1232 5 1111111111111111111111111111111111111111111111111111111111112051"
    ∷ codes "refs 2"
    ∷ codes "111111111111111111111111111111111102616d refs/heads/main"
    ∷ codes "111111111111111111111111111111111102616d refs/heads/next"
    ∷ codes "end"
    ∷ []

abbrev slot_of_nothing : Bytes
slot_of_nothing = codes "00000000000000000262 00000000000000000244 111111111111111111111111111111111111111111111111111111111111120a"

abbrev slot_of_first : Bytes
slot_of_first = codes "00000000000000000756 00000000000000000610 111111111111111111111111111111111111111111111111111111111111920a"

abbrev slot_of_second : Bytes
slot_of_second = codes "00000000000000001161 00000000000000000887 111111111111111111111111111111111111111111111111111111111111120a"

abbrev slot_of_third : Bytes
slot_of_third = codes "00000000000000001609 00000000000000001405 111111111111111111111111111111111111111111111111111111111111cc0a"

-- what no slot says yet
abbrev unused_slot : Bytes
unused_slot = codes "00000000000000000000 00000000000000000000 0000000000000000000000000000000000000000000000000000000000000000"

-- a head, and what stands behind it
abbrev grown_text : Bytes → Bytes → Bytes → List Bytes → Bytes
grown_text pick a b lines = text_of_lines (codes "gxstore 3" ∷ pick ∷ a ∷ b ∷ lines)

abbrev first_text : Bytes
first_text = grown_text (codes "a") slot_of_first unused_slot first_part

abbrev second_text : Bytes
second_text = grown_text (codes "b") slot_of_first slot_of_second (first_part ++ second_part)

abbrev third_text : Bytes
third_text = grown_text (codes "a") slot_of_third slot_of_second (first_part ++ second_part ++ third_part)

-- the empty text, with the SHA-256 of its tail
abbrev tail_digest : Bytes
tail_digest = unhex (codes "adb75895df009d6af652e3e2686b8d561b10c7e4b0c7c84e20c13de012fb0597")

abbrev empty_slot : Bytes
empty_slot = codes "00000000000000000262 00000000000000000244 adb75895df009d6af652e3e2686b8d561b10c7e4b0c7c84e20c13de012fb0597"

-- what is read of a text
abbrev read : Bytes → Result Records GrowingFault
read = grown_of name digest

pub record GrowingRows : Type 0 where
  -- the texts of repositories with one segment
  pub empty : growing_text (λ text. tail_digest) empty_repository ≡ grown_text (codes "a") empty_slot unused_slot nothing
  pub short : length (growing_text digest empty_repository) ≡ 262
  pub nothing_held : growing_text digest empty_repository ≡ grown_text (codes "a") slot_of_nothing unused_slot nothing
  pub one_segment : growing_text digest first ≡ first_text
  -- each is read, and so are those with more segments and runs
  pub empty_read : grown_of name (λ text. tail_digest) (grown_text (codes "a") empty_slot unused_slot nothing) ≡ Ok empty_repository
  pub first_read : read first_text ≡ Ok first
  pub second_read : read second_text ≡ Ok second
  pub third_read : read third_text ≡ Ok third
  -- the byte picks a slot: what stands behind its end is no part of the text, whatever it is
  pub picked_first : read (grown_text (codes "a") slot_of_first slot_of_second (first_part ++ second_part)) ≡ Ok first
  pub any_byte : read (grown_text (0 ∷ []) slot_of_first slot_of_second (first_part ++ second_part)) ≡ Ok second
  pub behind : read (second_text ++ codes "objects") ≡ Ok second
  pub other_slot : read (grown_text (codes "a") slot_of_first (replicate 106 10) first_part) ≡ Ok first

pub growing_rows : GrowingRows
unfolding cut_at is_ident digits number_text content_fault record_fault growing_text grown_of
growing_rows = record { empty = refl; short = refl; nothing_held = refl; one_segment = refl; empty_read = refl; first_read = refl; second_read = refl; third_read = refl; picked_first = refl; any_byte = refl; behind = refl; other_slot = refl }

-- ---- texts that are refused

-- the first text with another slot
abbrev with_slot : Bytes → Bytes
with_slot slot = grown_text (codes "a") slot unused_slot first_part

abbrev bad_heads : List (Bytes × GrowingFault)
bad_heads =
    ([], Text fault.Truncated)
    ∷ (text_of_lines (codes "gitstore 3" ∷ []), Text fault.BadMagic)
    ∷ (text_of_lines (codes "gxstore 2" ∷ codes "objects 0" ∷ codes "refs 0" ∷ codes "end" ∷ []), Text fault.BadVersion)
    ∷ (text_of_lines (codes "gxstore 30" ∷ []), Text fault.BadVersion)
    ∷ (take 10 first_text, Text fault.Truncated)
    ∷ (take 225 first_text, Text fault.Truncated)
    -- no LF behind the byte, behind the first slot, and behind the second
    ∷ (grown_text (codes "ab") (take 105 slot_of_first) unused_slot first_part, Text fault.BadRecord)
    ∷ (grown_text (codes "a") (slot_of_first ++ codes "0") (take 105 unused_slot) first_part, Text fault.BadRecord)
    ∷ (grown_text (codes "a") slot_of_first (unused_slot ++ codes "0") first_part, Text fault.BadRecord)
    -- a picked slot without numbers, with one of 19 digits, with one that is too large, and with digits in upper case
    ∷ (with_slot (replicate 106 120), Text fault.BadRecord)
    ∷ (with_slot (codes "0000000000000000756 000000000000000000610 111111111111111111111111111111111111111111111111111111111111920a"), Text fault.BadRecord)
    ∷ (with_slot (codes "18446744073709551616 00000000000000000610 111111111111111111111111111111111111111111111111111111111111920a"), Text fault.BadRecord)
    ∷ (with_slot (codes "00000000000000000756 00000000000000000610 111111111111111111111111111111111111111111111111111111111111920A"), Text fault.BadRecord)
    -- an end beyond the text, before the head's, at it, and in the last line
    ∷ (with_slot (codes "00000000000000000757 00000000000000000610 111111111111111111111111111111111111111111111111111111111111920a"), Text fault.Truncated)
    ∷ (with_slot (codes "00000000000000000000 00000000000000000610 111111111111111111111111111111111111111111111111111111111111920a"), Text fault.Truncated)
    ∷ (with_slot (codes "00000000000000000226 00000000000000000610 111111111111111111111111111111111111111111111111111111111111920a"), Text fault.Truncated)
    ∷ (with_slot (codes "00000000000000000755 00000000000000000610 111111111111111111111111111111111111111111111111111111111111920a"), Text fault.Truncated)
    -- a tail elsewhere, and a digest of another one
    ∷ (with_slot (codes "00000000000000000756 00000000000000000611 111111111111111111111111111111111111111111111111111111111111920a"), Text fault.BadRecord)
    ∷ (with_slot (codes "00000000000000000756 00000000000000000610 111111111111111111111111111111111111111111111111111111111111920b"), BadRows)
    -- the tail of the segment before
    ∷ (grown_text (codes "b") slot_of_first (codes "00000000000000001161 00000000000000000610 111111111111111111111111111111111111111111111111111111111111920a") (first_part ++ second_part), Text fault.BadRecord)
    ∷ []

-- the first repository's text with another segment
abbrev with_segment : Segment → Bytes
with_segment segment = head_text (codes "a") (slot_text (first_slot digest segment)) unused_slot ++ segment_text segment

-- with other runs, and with other rows
abbrev with_runs : List Run → Bytes
with_runs runs = with_segment (record { records = first.records; count = 3; table = (first_segment digest first).table; runs = runs; refs = first.refs })

-- a run at a place, with the digest of the first repository's
abbrev run_at : ℕ → ℕ → Run
run_at place count = record { place = place; count = count; digest = unhex (codes "1111111111111111111111111111111111111111111111111111111111112051") }

-- rows with the digests of their pages, and the run of these rows at a place
abbrev table_with : Bytes → Bytes
table_with rows = rows ++ page_digests digest rows

abbrev run_with : ℕ → ℕ → Bytes → Run
run_with place count rows = record { place = place; count = count; digest = digest (page_digests digest rows) }

-- with these rows, and a run of them
abbrev with_table : List Bytes → Bytes
with_table rows =
    let bytes : Bytes = table_of rows in
    with_segment (record { records = first.records; count = 3; table = table_with bytes; runs = run_with 493 3 bytes ∷ []; refs = first.refs })

-- the rows of the first repository
abbrev blob_row : Bytes
blob_row = codes "111111111111111111111111111111111100030a00000000000000ec"

abbrev tree_row : Bytes
tree_row = codes "11111111111111111111111111111111110100000000000000000120"

abbrev commit_row : Bytes
commit_row = codes "111111111111111111111111111111111102616d0000000000000151"

-- the first row in the slot that isn't picked, and a run of it; the others where they belong
abbrev hidden : Bytes
hidden =
    let rows : Bytes = table_of (tree_row ∷ commit_row ∷ []) in
    let segment : Segment = record { records = first.records; count = 2; table = table_with rows; runs = run_with 119 1 (unhex blob_row) ∷ run_with 493 2 rows ∷ []; refs = first.refs } in
    head_text (codes "a") (slot_text (first_slot digest segment)) (table_with (unhex blob_row) ++ replicate 46 48) ++ segment_text segment

abbrev run_line : Run
run_line = run_at 493 3

abbrev bad_runs : List (Bytes × GrowingFault)
bad_runs =
    -- none, one twice, a part of one, and more than there is
    (with_runs [], BadRows)
    ∷ (with_runs (run_line ∷ run_line ∷ []), BadRows)
    ∷ (with_runs (run_at 493 2 ∷ []), BadRows)
    ∷ (with_runs (run_at 493 4 ∷ []), BadRows)
    ∷ (with_runs (run_at 493 100 ∷ []), BadRows)
    -- beyond the end, over the end, in a record, and in the head
    ∷ (with_runs (record { place = 2000; count = 0; digest = digest [] } ∷ run_line ∷ []), BadRows)
    ∷ (with_runs (run_at 700 3 ∷ []), BadRows)
    ∷ (with_runs (run_at 300 3 ∷ []), BadRows)
    ∷ (with_runs (run_at 119 3 ∷ []), BadRows)
    -- with another digest
    ∷ (with_runs (record { place = 493; count = 3; digest = digest [] } ∷ []), BadRows)
    -- rows out of order, one twice, of another place, and of another name
    ∷ (with_table (tree_row ∷ blob_row ∷ commit_row ∷ []), BadRows)
    ∷ (with_table (blob_row ∷ tree_row ∷ tree_row ∷ []), BadRows)
    ∷ (with_table (blob_row ∷ tree_row ∷ codes "111111111111111111111111111111111102616d0000000000000152" ∷ []), BadRows)
    ∷ (with_table (blob_row ∷ tree_row ∷ codes "111111111111111111111111111111111102616e0000000000000151" ∷ []), BadRows)
    -- a run that has its right row in the slot that isn't picked
    ∷ (hidden, BadRows)
    ∷ []

-- ---- segments

-- a text of these lines that ends where its slot says, whatever else the slot says
abbrev ended : List Bytes → Bytes
ended lines = grown_text (codes "a") (long_number (head_length + length (text_of_lines lines)) ++ drop 20 slot_of_first) unused_slot lines

-- the first part, with another line in place of one
abbrev with_line : ℕ → Bytes → Bytes
with_line n other = ended (take n first_part ++ other ∷ drop (n + 1) first_part)

-- the first part, and another segment of these records and refs
abbrev with_another : List Record → List (Bytes × Bytes) → Bytes
with_another records refs =
    let segment : Segment = record { records = records; count = 0; table = []; runs = run_line ∷ []; refs = refs } in
    let text : Bytes = text_of_lines first_part ++ segment_text segment in
    head_text (codes "a") (long_number (head_length + length text) ++ drop 20 slot_of_first) unused_slot ++ text

abbrev bad_segments : List (Bytes × GrowingFault)
bad_segments =
    -- an object that is held, one whose links aren't, a ref out of order, and one to no object
    (with_another (root_tree ∷ []) (main ∷ []), Text fault.DuplicateObject)
    ∷ (with_another (stored kind.Tag (codes "object") ∷ []) (main ∷ []), Text fault.BadObject)
    ∷ (with_another [] (next ∷ main ∷ []), Text fault.RefOrder)
    ∷ (with_another [] ((codes "refs/heads/main", replicate 20 17) ∷ []), Text fault.BadRef)
    -- in lines of a segment
    ∷ (with_line 12 (codes "rows 03"), Text fault.BadRecord)
    ∷ (with_line 12 (codes "rows 2"), Text fault.BadRecord)
    ∷ (with_line 12 (codes "rows 99"), Text fault.Truncated)
    ∷ (with_line 14 (codes "runs  1"), Text fault.BadRecord)
    ∷ (with_line 14 (codes "runs 2"), Text fault.BadRecord)
    ∷ (with_line 15 (codes "493 3 111111111111111111111111111111111111111111111111111111111111205"), Text fault.BadRecord)
    ∷ (with_line 15 (codes "0493 3 1111111111111111111111111111111111111111111111111111111111112051"), Text fault.BadRecord)
    ∷ (with_line 16 (codes "refs 2"), Text fault.BadRef)
    ∷ (with_line 18 (codes "ends"), Text fault.BadRecord)
    ∷ []

-- the fault of a text
abbrev fault_in : Result Records GrowingFault → Option GrowingFault
fault_in (Ok r) = None
fault_in (Err f) = Some f

pub record GrowingRefusals : Type 0 where
  pub heads_refused : map (λ r. fault_in (read r.0)) bad_heads ≡ map (λ r. Some r.1) bad_heads
  pub runs_refused : map (λ r. fault_in (read r.0)) bad_runs ≡ map (λ r. Some r.1) bad_runs
  pub segments_refused : map (λ r. fault_in (read r.0)) bad_segments ≡ map (λ r. Some r.1) bad_segments
  -- the same rows where nothing is against them
  pub rows_right : read (with_table (blob_row ∷ tree_row ∷ commit_row ∷ [])) ≡ Ok first

pub growing_refusals : GrowingRefusals
unfolding cut_at is_ident digits number_text content_fault record_fault growing_text grown_of
growing_refusals = record { heads_refused = refl; runs_refused = refl; segments_refused = refl; rows_right = refl }
