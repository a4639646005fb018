-- Worked rows on store files: the texts of a repository, in each version, and the texts that are refused.
use Rattle.std.specs.Prelude.{◌≡◌, if◌then◌else◌, List, [], ◌∷◌, ◌++◌, map, replicate, codes, Option, Some, None, Result, Ok, Err, refl}
use Rattle.std.specs.Fmt.{digits}
use Rattle.gx_model.specs.declared.objects.Kind.{Kind}
use Rattle.gx_model.specs.declared.objects.Kind.TheVariants as kind
use Rattle.gx_model.specs.declared.objects.Mode.{Mode}
use Rattle.gx_model.specs.declared.objects.Mode.TheVariants.{File, Dir}
use Rattle.gx_model.specs.declared.store_versions.Version.{Version}
use Rattle.gx_model.specs.declared.store_versions.Version.TheVariants.{One, Two}
use Rattle.gx_model.specs.declared.store_faults.FileFault.{FileFault}
use Rattle.gx_model.specs.declared.store_faults.FileFault.TheVariants as fault
use Rattle.gx_model.specs.Texts.Numbers.{number_text}
use Rattle.gx_model.specs.Texts.{Bytes, cut_at, same_bytes}
use Rattle.gx_model.specs.Texts.Idents.{is_ident}
use Rattle.gx_model.specs.Texts.Paths.{char_at, unquote_within, quoted_of}
use Rattle.gx_model.specs.Streams.Items.{counted_block, lines_before, delimited, first_line, first_of, read_upto, items_of}
use Rattle.gx_model.specs.Streams.Grammar.{unsigned_in, item_after_in, modify_at, two_paths, change_at, changes_within, merges_within, blob_at, commit_at, links_at, tag_at, reset_at, command_at, commands_within}
use Rattle.gx_model.specs.Streams.Lines.{rest_line_in, block_in, mark_of, commit_ish_of, last_path, source_path}
use Rattle.gx_model.specs.Revisions.{revision_of}
use Rattle.gx_model.specs.Streams.Spelling.{text_of_lines}
use Rattle.gx_model.specs.Histories.Values.{CommitText}
use Rattle.gx_model.specs.Objects.{Entry, commit_text, tag_text, tree_text, unhex}
use Rattle.gx_model.specs.Histories.{History, Records, no_history, record_of, value_at}
use Rattle.gx_model.specs.Records.{name_of}
use Rattle.gx_model.specs.Objects.Naming.{short_name}
use Rattle.gx_model.specs.Replay.{imported_asked}
use Rattle.gx_model.specs.Records.RecordFaults.{content_fault, record_fault}
use Rattle.gx_model.specs.Stores.StoreText.{store_text}
use Rattle.gx_model.specs.Stores.StoreReading.{store_of}
use Rattle.gx_model.specs.Rows.RowTexts.{history_of_lines, last_byte_name}
use Rattle.gx_model.specs.Rows.ExportRows.{stream}

-- the names in these rows
abbrev name : Kind → Bytes → Bytes
name = last_byte_name

-- the repository that stands for a history
abbrev records_of : History → Records
records_of h = record { records = map (record_of name) h.values; refs = map (λ r. (r.0, name_of name (value_at r.1))) h.refs }

abbrev branches : History
branches = history_of_lines stream

-- a blob with the name that Git gives it, alone
abbrev content : Bytes
content = codes "test content" ++ 10 ∷ []

abbrev content_digits : Bytes
content_digits = codes "d670460b4b4aece5915caf5c68d12f560a9fe3e4"

abbrev content_name : Kind → Bytes → Bytes
content_name k body = if same_bytes body content then unhex content_digits else name k body

abbrev one_blob : Records
one_blob = record { records = record { name = unhex content_digits; kind = kind.Blob; body = content } ∷ []; refs = [] }

-- a text with this first line and this line of a record of `test content`
abbrev blob_text : Bytes → Bytes → Bytes
blob_text first heading = text_of_lines (first ∷ codes "objects 1" ∷ heading ∷ codes "test content" ∷ [] ∷ codes "refs 0" ∷ codes "end" ∷ [])

pub record StoreRows : Type 0 where
  -- the texts of an empty repository, and of one with a blob
  pub empty_of_one : store_text One (records_of no_history) ≡ text_of_lines (codes "gxstore 1" ∷ codes "objects 0" ∷ codes "refs 0" ∷ codes "end" ∷ [])
  pub empty : store_text Two (records_of no_history) ≡ text_of_lines (codes "gxstore 2" ∷ codes "objects 0" ∷ codes "refs 0" ∷ codes "end" ∷ [])
  pub blob_of_one : store_text One one_blob ≡ blob_text (codes "gxstore 1") (codes "blob 13")
  pub blob : store_text Two one_blob ≡ blob_text (codes "gxstore 2") (codes "blob 13 d670460b4b4aece5915caf5c68d12f560a9fe3e4")
  -- both texts of a repository are read
  pub blob_of_one_read : store_of content_name (blob_text (codes "gxstore 1") (codes "blob 13")) ≡ Ok one_blob
  pub blob_read : store_of content_name (blob_text (codes "gxstore 2") (codes "blob 13 d670460b4b4aece5915caf5c68d12f560a9fe3e4")) ≡ Ok one_blob
  pub read_again_of_one : store_of name (store_text One (records_of branches)) ≡ Ok (records_of branches)
  pub read_again : store_of name (store_text Two (records_of branches)) ≡ Ok (records_of branches)

pub store_rows : StoreRows
unfolding char_at unsigned_in item_after_in rest_line_in block_in cut_at is_ident unquote_within quoted_of mark_of commit_ish_of last_path source_path modify_at two_paths change_at changes_within merges_within blob_at commit_at links_at tag_at reset_at command_at commands_within counted_block lines_before delimited first_line first_of read_upto items_of digits number_text revision_of imported_asked store_text store_of content_fault record_fault short_name
store_rows = record { empty_of_one = refl; empty = refl; blob_of_one = refl; blob = refl; blob_of_one_read = refl; blob_read = refl; read_again_of_one = refl; read_again = refl }

-- ---- texts that are refused

-- a text with these records, under their names, and these refs
abbrev text_of : Version → List (Kind × Bytes) → List (Bytes × Bytes) → Bytes
text_of v rs refs = store_text v (record { records = map (λ r. record { name = name r.0 r.1; kind = r.0; body = r.1 }) rs; refs = refs })

-- of version 1
abbrev text_with : List (Kind × Bytes) → List (Bytes × Bytes) → Bytes
text_with rs refs = text_of One rs refs

abbrev blob : Bytes → Kind × Bytes
blob x = (kind.Blob, x)

abbrev entry : Mode → Bytes → Bytes → Entry
entry m c n = record { mode = m; component = c; name = n }

abbrev tree : List Entry → Kind × Bytes
tree es = (kind.Tree, tree_text es)

abbrev named : Kind × Bytes → Bytes
named r = name r.0 r.1

abbrev version_1 : Kind × Bytes
version_1 = blob (codes "version 1" ++ 10 ∷ [])

abbrev hello : Kind × Bytes
hello = blob (codes "hello" ++ 10 ∷ [])

abbrev test_tree : Kind × Bytes
test_tree = tree (entry File (codes "test.txt") (named version_1) ∷ [])

-- the components of three entries, of which two are one
abbrev twice_a : Kind × Bytes
twice_a = tree (entry File (codes "a") (named hello) ∷ entry File (codes "a.b") (named hello) ∷ entry Dir (codes "a") (named test_tree) ∷ [])

abbrev directory : Bytes → Kind × Bytes → Kind × Bytes
directory c r = tree (entry Dir c (named r) ∷ [])

abbrev text : CommitText
text = record { author = codes "A <a@x> 1 +0000"; committer = codes "A <a@x> 1 +0000"; headers = []; message = codes "m" }

abbrev commit_with : Kind × Bytes → Kind × Bytes
commit_with t = (kind.Commit, commit_text (record { tree = named t; parents = []; text = text }))

abbrev tag_of : Kind × Bytes → Kind × Bytes
tag_of c = (kind.Tag, tag_text (record { object = named c; name = codes "v1"; tagger = None; message = [] }))

-- a tree with a file of 4,090 bytes
abbrev long_tree : Kind × Bytes
long_tree = tree (entry File (replicate 4090 97) (named hello) ∷ [])

abbrev root_commit : List (Kind × Bytes)
root_commit = tree [] ∷ commit_with (tree []) ∷ []

abbrev ref : Bytes → Kind × Bytes → Bytes × Bytes
ref n r = (n, named r)

abbrev root : Kind × Bytes
root = commit_with (tree [])

-- ---- of lines

abbrev bad_lines : List (Bytes × FileFault)
bad_lines =
    ([], fault.Truncated)
    ∷ (text_of_lines (codes "gitstore 1" ∷ []), fault.BadMagic)
    ∷ (text_of_lines (codes "gxstore 9" ∷ []), fault.BadVersion)
    ∷ (text_of_lines (codes "gxstore 12" ∷ []), fault.BadVersion)
    ∷ (text_of_lines (codes "gxstore 1" ∷ codes "objects 01" ∷ []), fault.BadRecord)
    ∷ (text_of_lines (codes "gxstore 1" ∷ codes "objects 18446744073709551616" ∷ []), fault.BadRecord)
    ∷ (text_of_lines (codes "gxstore 1" ∷ codes "objects 18446744073709551615" ∷ []), fault.Truncated)
    ∷ (text_of_lines (codes "gxstore 1" ∷ codes "objects 1" ∷ codes "blob 6" ∷ []) ++ codes "hel", fault.Truncated)
    ∷ (text_of_lines (codes "gxstore 1" ∷ codes "objects 1" ∷ codes "blob 2" ∷ codes "hello" ∷ []), fault.BadRecord)
    ∷ (text_of_lines (codes "gxstore 1" ∷ codes "objects 1" ∷ codes "tree 2" ∷ codes "xy" ∷ []), fault.BadObject)
    ∷ (text_of_lines (codes "gxstore 1" ∷ codes "objects 0" ∷ codes "refs 0" ∷ codes "ends" ∷ []), fault.BadRecord)
    ∷ (text_of_lines (codes "gxstore 1" ∷ codes "objects 0" ∷ codes "refs 0" ∷ codes "end" ∷ []) ++ 0 ∷ [], fault.TrailingBytes)
    ∷ []

-- ---- of stated names

abbrev zeros : Bytes
zeros = replicate 40 48

abbrev bad_names : List (Bytes × FileFault)
bad_names =
    -- the digits of another name
    (blob_text (codes "gxstore 2") (codes "blob 13 e69de29bb2d1d6434b8b29ae775ad8c2e48c5391"), fault.NameMismatch)
    -- no lower-case digits, none, not forty of them, and more behind them
    ∷ (blob_text (codes "gxstore 2") (codes "blob 13 D670460b4b4aece5915caf5c68d12f560a9fe3e4"), fault.BadRecord)
    ∷ (blob_text (codes "gxstore 2") (codes "blob 13"), fault.BadRecord)
    ∷ (blob_text (codes "gxstore 2") (codes "blob 13 "), fault.BadRecord)
    ∷ (blob_text (codes "gxstore 2") (codes "blob 13 d670460b4b4aece5915caf5c68d12f560a9fe3e"), fault.BadRecord)
    ∷ (blob_text (codes "gxstore 2") (codes "blob 13 d670460b4b4aece5915caf5c68d12f560a9fe3e4 "), fault.BadRecord)
    ∷ (blob_text (codes "gxstore 2") (codes "blob 13  d670460b4b4aece5915caf5c68d12f560a9fe3e4"), fault.BadRecord)
    -- digits in a text of version 1
    ∷ (blob_text (codes "gxstore 1") (codes "blob 13 d670460b4b4aece5915caf5c68d12f560a9fe3e4"), fault.BadRecord)
    -- a body that isn't there, or has no LF behind it, before its name
    ∷ (text_of_lines (codes "gxstore 2" ∷ codes "objects 1" ∷ (codes "blob 13 " ++ zeros) ∷ []) ++ codes "test content", fault.Truncated)
    ∷ (blob_text (codes "gxstore 2") (codes "blob 12 " ++ zeros), fault.NameMismatch)
    ∷ (blob_text (codes "gxstore 2") (codes "blob 11 " ++ zeros), fault.BadRecord)
    -- its name before a body that is none of its kind
    ∷ (text_of_lines (codes "gxstore 2" ∷ codes "objects 1" ∷ (codes "tree 2 " ++ zeros) ∷ codes "xy" ∷ []), fault.NameMismatch)
    ∷ (text_of Two ((kind.Tree, codes "xy") ∷ []) [], fault.BadObject)
    ∷ []

-- ---- of records and refs

abbrev bad_records : List (Bytes × FileFault)
bad_records =
    (text_with (test_tree ∷ []) [], fault.Dangling)
    ∷ (text_with (test_tree ∷ version_1 ∷ []) [], fault.Dangling)
    ∷ (text_with (blob [] ∷ blob [] ∷ []) [], fault.DuplicateObject)
    -- a directory without entries
    ∷ (text_with (tree [] ∷ directory (codes "d") (tree []) ∷ []) [], fault.BadObject)
    -- one component twice
    ∷ (text_with (version_1 ∷ hello ∷ test_tree ∷ twice_a ∷ []) [], fault.BadObject)
    -- links to another kind
    ∷ (text_with (hello ∷ directory (codes "d") hello ∷ []) [], fault.Dangling)
    ∷ (text_with (hello ∷ commit_with hello ∷ []) [], fault.Dangling)
    ∷ (text_with (hello ∷ tag_of hello ∷ []) [], fault.Dangling)
    -- refs to a blob, to a tag of another name, under no ref name, and out of order
    ∷ (text_with (hello ∷ []) (ref (codes "refs/heads/a") hello ∷ []), fault.BadRef)
    ∷ (text_with (root_commit ++ tag_of root ∷ []) (ref (codes "refs/tags/v2") (tag_of root) ∷ []), fault.BadRef)
    ∷ (text_with root_commit (ref (codes "refs/heads/a..b") root ∷ []), fault.BadRef)
    ∷ (text_with root_commit (ref (codes "refs/heads/b") root ∷ ref (codes "refs/heads/a") root ∷ []), fault.RefOrder)
    ∷ (text_with root_commit (ref (codes "refs/heads/a") root ∷ ref (codes "refs/heads/a") root ∷ []), fault.RefOrder)
    -- in version 2 as in version 1
    ∷ (text_of Two (test_tree ∷ version_1 ∷ []) [], fault.Dangling)
    ∷ (text_of Two (blob [] ∷ blob [] ∷ []) [], fault.DuplicateObject)
    ∷ (text_of Two (hello ∷ []) (ref (codes "refs/heads/a") hello ∷ []), fault.BadRef)
    ∷ (text_of Two root_commit (ref (codes "refs/heads/b") root ∷ ref (codes "refs/heads/a") root ∷ []), fault.RefOrder)
    ∷ []

-- whether a text is read
abbrev fault_in : Result Records FileFault → Option FileFault
fault_in (Ok r) = None
fault_in (Err f) = Some f

abbrev fault_of : Bytes → Option FileFault
fault_of x = fault_in (store_of name x)

pub record StoreRefusals : Type 0 where
  pub lines_refused : map (λ r. fault_of r.0) bad_lines ≡ map (λ r. Some r.1) bad_lines
  pub names_refused : map (λ r. fault_in (store_of content_name r.0)) bad_names ≡ map (λ r. Some r.1) bad_names
  pub records_refused : map (λ r. fault_of r.0) bad_records ≡ map (λ r. Some r.1) bad_records
  -- a path may have 4,095 bytes and no more
  pub long_path : fault_of (text_with (hello ∷ long_tree ∷ directory (codes "bbbb") long_tree ∷ []) []) ≡ None
  pub too_long : fault_of (text_with (hello ∷ long_tree ∷ directory (codes "bbbbb") long_tree ∷ []) []) ≡ Some fault.BadObject
  -- a tag under its own name
  pub own_name : fault_of (text_with (root_commit ++ tag_of root ∷ []) (ref (codes "refs/heads/a") root ∷ ref (codes "refs/tags/v1") (tag_of root) ∷ [])) ≡ None

pub store_refusals : StoreRefusals
unfolding char_at unsigned_in item_after_in rest_line_in block_in cut_at is_ident unquote_within quoted_of mark_of commit_ish_of last_path source_path modify_at two_paths change_at changes_within merges_within blob_at commit_at links_at tag_at reset_at command_at commands_within counted_block lines_before delimited first_line first_of read_upto items_of digits number_text revision_of imported_asked store_text store_of content_fault record_fault short_name
store_refusals = record { lines_refused = refl; names_refused = refl; records_refused = refl; long_path = refl; too_long = refl; own_name = refl }
