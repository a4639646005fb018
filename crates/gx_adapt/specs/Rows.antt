-- Worked lines and streams: what becomes of them. Each row holds by computing.
use Rattle.std.specs.Prelude.{◌≡◌, ℕ, Bool, true, false, List, [], ◌∷◌, ◌++◌, map, codes, refl}
use Rattle.gx_model.specs.Texts.{Bytes, cut_at}
use Rattle.gx_model.specs.Texts.Paths.{char_at, unquote_within, path_of, quoted_of}
use Rattle.gx_model.specs.Streams.Lines.{last_path, mark_of}
use Rattle.gx_model.specs.Streams.Items.{Item, Line, Data}
use Rattle.gx_adapt.specs.Paths.{quoted, is_open, source_of}
use Rattle.gx_adapt.specs.Lines.{Lot, kept, deletion, marks, feature, signature, spaced, requoted, ident_lot, path_lot, modify_lot, move_lot, word_lot, lot_of, is_early, is_refused}
use Rattle.gx_adapt.specs.Marks.{command_begun, mark_behind, tags_of_blobs_or_tags}
use Rattle.gx_adapt.specs.Streams.{adapted, ends_with_done, lost_lines, report_of}
use Rattle.gx_adapt.specs.declared.lot.Behind.{Behind}
use Rattle.gx_adapt.specs.declared.lot.Behind.TheVariants.{Reset, Signature, Other}

-- ---- lines

-- a line, what it stands behind, and what becomes of it where signatures stay
pub record LineRow : Type 0 where
  pub behind : Behind
  pub line : Bytes
  pub lot : Lot

abbrev row : Bytes → Lot → LineRow
row line lot = record { behind = Other; line = line; lot = lot }

abbrev null_from : Bytes
null_from = codes "from 0000000000000000000000000000000000000000"

abbrev pub line_rows : List LineRow
line_rows =
    row (codes "author <a> 1 +0000") (spaced (codes "author  <a> 1 +0000"))
    ∷ row (codes "committer <a> 1 +0000") (spaced (codes "committer  <a> 1 +0000"))
    ∷ row (codes "tagger <a> 1 +0000") (spaced (codes "tagger  <a> 1 +0000"))
    ∷ row (codes "committer  <a> 1 +0000") kept
    ∷ row (codes "committer A <a> 1 +0000") kept
    ∷ row (codes "merge <a") kept
    -- a branch's deletion
    ∷ record { behind = Reset; line = null_from; lot = deletion }
    ∷ record { behind = Signature; line = null_from; lot = kept }
    ∷ row null_from kept
    ∷ record { behind = Reset; line = codes "from :1"; lot = kept }
    ∷ record { behind = Reset; line = null_from ++ codes "0"; lot = kept }
    -- paths
    ∷ row (codes "M 100644 :1 \"a") (requoted (codes "M 100644 :1 \"\\\"a\""))
    ∷ row (codes "M 100644 inline \"a\" b") (requoted (codes "M 100644 inline \"\\\"a\\\" b\""))
    ∷ row (codes "M 100644 :1 \"a\"") kept
    ∷ row (codes "M 100644 :1 a\"b") kept
    ∷ row (codes "M 100644 :1 \"a\\y\"") (requoted (codes "M 100644 :1 \"\\\"a\\\\y\\\"\""))
    ∷ row (codes "M 100644 :1 \"\\351\"") kept
    ∷ row (codes "M 100644 :1 \"") (requoted (codes "M 100644 :1 \"\\\"\""))
    ∷ row (codes "M 100644 \"a") kept
    ∷ row (codes "D \"a b") (requoted (codes "D \"\\\"a b\""))
    ∷ row (codes "D \"a b\"") kept
    ∷ row (codes "R \"a b") (requoted (codes "R \"\\\"a\" b"))
    ∷ row (codes "R \"a b\" \"c") (requoted (codes "R \"a b\" \"\\\"c\""))
    ∷ row (codes "C a \"b\" c") (requoted (codes "C a \"\\\"b\\\" c\""))
    ∷ row (codes "C \"a\"b \"c") (requoted (codes "C \"\\\"a\\\"b\" \"\\\"c\""))
    ∷ row (codes "C \"a b\" c d") kept
    ∷ row (codes "R \"a\"") kept
    -- marks
    ∷ row (codes "feature import-marks=marks") marks
    ∷ row (codes "feature import-marks-if-exists=marks") marks
    ∷ row (codes "feature export-marks=marks") marks
    ∷ row (codes "feature relative-marks") marks
    ∷ row (codes "feature no-relative-marks") marks
    ∷ row (codes "get-mark :1") marks
    -- features
    ∷ row (codes "feature notes") feature
    ∷ row (codes "feature ls") feature
    ∷ row (codes "feature cat-blob") feature
    ∷ row (codes "feature get-mark") feature
    ∷ row (codes "feature notes ") kept
    ∷ row (codes "feature force") kept
    ∷ row (codes "feature done") kept
    ∷ row (codes "feature date-format=raw") kept
    ∷ row (codes "mark :1") kept
    -- signatures, which stay
    ∷ row (codes "gpgsig sha1") kept
    ∷ row [] kept
    ∷ []

lines_adapted : map (λ r. lot_of false r.behind r.line) line_rows ≡ map (λ r. r.lot) line_rows
unfolding cut_at char_at unquote_within is_open source_of ident_lot path_lot modify_lot move_lot word_lot lot_of
lines_adapted = refl

-- lines, and whether they go with a signature that is dropped. git wrote its kind alone first, and then its format, too
abbrev pub signature_rows : List (Bytes × Lot)
signature_rows =
    (codes "gpgsig sha1", signature)
    ∷ (codes "gpgsig sha1 openpgp", signature)
    ∷ (codes "gpgsig sha256 ssh", signature)
    ∷ (codes "gpgsig", kept)
    ∷ (codes "gpgsig-sha256 x", kept)
    ∷ (codes "encoding gpgsig x", kept)
    ∷ (codes "author <a> 1 +0000", spaced (codes "author  <a> 1 +0000"))
    ∷ []

signatures_dropped : map (λ r. lot_of true Other r.0) signature_rows ≡ map (λ r. r.1) signature_rows
unfolding cut_at ident_lot word_lot lot_of
signatures_dropped = refl

-- lines, and whether no ref can have the name of their branch
abbrev pub refused_rows : List (Bytes × Bool)
refused_rows =
    (codes "commit refs/heads/feature x", true)
    ∷ (codes "reset refs/heads/a..b", true)
    ∷ (codes "commit refs/heads/a.lock", true)
    ∷ (codes "commit refs/heads/main", false)
    ∷ (codes "reset main", false)
    ∷ (codes "tag feature x", false)
    ∷ (codes "commit", false)
    ∷ []

refusals_told : map (λ r. is_refused r.0) refused_rows ≡ map (λ r. r.1) refused_rows
unfolding cut_at is_refused
refusals_told = refl

-- identities, and whether they are dated before 1970
abbrev pub dates : List (Bytes × Bool)
dates =
    (codes "author A <a> -1 +0000", true)
    ∷ (codes "committer <a> -100 -0500", true)
    ∷ (codes "committer A - <a-> 1 -0500", false)
    ∷ (codes "merge A <a> -1 +0000", false)
    ∷ (codes "author", false)
    ∷ []

dates_told : map (λ r. is_early r.0) dates ≡ map (λ r. r.1) dates
unfolding cut_at is_early
dates_told = refl

-- ---- paths

-- names that begin with a quote
abbrev pub names : List Bytes
names = codes "\"" ∷ codes "\"a" ∷ codes "\"a\" b" ∷ codes "\"a\\y\"" ∷ codes "\"\\" ∷ codes "\"a/b" ∷ []

names_kept : map (λ name. last_path (quoted name)) names ≡ map path_of names
unfolding char_at unquote_within quoted_of last_path
names_kept = refl

-- ---- streams

abbrev before : List Item
before =
    Line (codes "feature done") ∷ Line (codes "feature export-marks=marks") ∷ Line (codes "blob") ∷ Line (codes "mark :1") ∷ Data (codes "author <a> 1 +0000" ++ 10 ∷ [])
    ∷ Line (codes "commit refs/heads/main") ∷ Line (codes "author <a> -1 +0000") ∷ Line (codes "committer A <a> 1 +0000") ∷ Data (codes "M 100644 :1 \"a") ∷ Line null_from
    ∷ Line (codes "N :1 refs/heads/main") ∷ Line (codes "M 100644 :1 \"a") ∷ Line [] ∷ Line (codes "reset refs/heads/side") ∷ Line null_from ∷ Line [] ∷ Line (codes "done") ∷ []

abbrev after : List Item
after =
    Line (codes "feature done") ∷ Line (codes "blob") ∷ Line (codes "mark :1") ∷ Data (codes "author <a> 1 +0000" ++ 10 ∷ [])
    ∷ Line (codes "commit refs/heads/main") ∷ Line (codes "author  <a> -1 +0000") ∷ Line (codes "committer A <a> 1 +0000") ∷ Data (codes "M 100644 :1 \"a") ∷ Line null_from
    ∷ Line (codes "N :1 refs/heads/main") ∷ Line (codes "M 100644 :1 \"\\\"a\"") ∷ Line [] ∷ Line (codes "reset refs/heads/side") ∷ Line [] ∷ []

stream_adapted : adapted false before ≡ after
unfolding cut_at char_at unquote_within is_open source_of ident_lot path_lot modify_lot move_lot word_lot lot_of
stream_adapted = refl

stream_counted : report_of false before ≡ record { identities = 1; deletions = 1; paths = 1; marks = 1; features = 0; signatures = 0; refused_names = 0; notes = 1; early_dates = 1; tags_of_blobs_or_tags = 0; ended_with_done = true }
unfolding cut_at char_at unquote_within is_open source_of ident_lot path_lot modify_lot move_lot word_lot lot_of is_early is_refused command_begun mark_of mark_behind
stream_counted = refl

-- a signed commit with two signatures, of which each has its block
abbrev signed : List Item
signed =
    Line (codes "feature notes") ∷ Line (codes "commit refs/heads/feature x") ∷ Line (codes "committer <a> 1 +0000") ∷ Line (codes "gpgsig sha1 openpgp") ∷ Data (codes "gpgsig sha1")
    ∷ Line (codes "gpgsig sha256 openpgp") ∷ Data (codes "sign") ∷ Line (codes "encoding latin1") ∷ Data (codes "signed") ∷ Line (codes "reset refs/heads/b") ∷ Line null_from ∷ []

abbrev with_signatures : List Item
with_signatures =
    Line (codes "commit refs/heads/feature x") ∷ Line (codes "committer  <a> 1 +0000") ∷ Line (codes "gpgsig sha1 openpgp") ∷ Data (codes "gpgsig sha1")
    ∷ Line (codes "gpgsig sha256 openpgp") ∷ Data (codes "sign") ∷ Line (codes "encoding latin1") ∷ Data (codes "signed") ∷ Line (codes "reset refs/heads/b") ∷ []

abbrev without_signatures : List Item
without_signatures =
    Line (codes "commit refs/heads/feature x") ∷ Line (codes "committer  <a> 1 +0000") ∷ Line (codes "encoding latin1") ∷ Data (codes "signed") ∷ Line (codes "reset refs/heads/b") ∷ []

signatures_kept : adapted false signed ≡ with_signatures
unfolding cut_at char_at unquote_within is_open source_of ident_lot path_lot modify_lot move_lot word_lot lot_of
signatures_kept = refl

signatures_left_out : adapted true signed ≡ without_signatures
unfolding cut_at char_at unquote_within is_open source_of ident_lot path_lot modify_lot move_lot word_lot lot_of
signatures_left_out = refl

signatures_counted : report_of true signed ≡ record { identities = 1; deletions = 1; paths = 0; marks = 0; features = 1; signatures = 2; refused_names = 1; notes = 0; early_dates = 0; tags_of_blobs_or_tags = 0; ended_with_done = false }
unfolding cut_at char_at unquote_within is_open source_of ident_lot path_lot modify_lot move_lot word_lot lot_of is_early is_refused command_begun mark_of mark_behind
signatures_counted = refl

-- ---- lines that are lost

-- streams, what tells of their lost lines, and what goes out
pub record LostRow : Type 0 where
  pub items : List Item
  pub lost : List Bytes
  pub sent : List Item

-- a ref that is deleted, as git fast-export(1) writes it
abbrev deletes : Bytes → List Item
deletes ref = Line (codes "reset " ++ ref) ∷ Line null_from ∷ Line [] ∷ []

abbrev pub lost_rows : List LostRow
lost_rows =
    record { items = deletes (codes "refs/heads/a") ++ deletes (codes "refs/tags/b") ++ Line (codes "done") ∷ []; lost = codes "reset refs/heads/a" ∷ codes "reset refs/tags/b" ∷ []; sent = Line (codes "reset refs/heads/a") ∷ Line [] ∷ Line (codes "reset refs/tags/b") ∷ Line [] ∷ [] }
    -- files of marks
    ∷ record { items = Line (codes "feature import-marks=a") ∷ Line (codes "feature done") ∷ Line (codes "done") ∷ []; lost = codes "feature import-marks=a" ∷ []; sent = Line (codes "feature done") ∷ [] }
    ∷ record { items = Line (codes "feature import-marks-if-exists=a") ∷ Line (codes "feature export-marks=b") ∷ Line (codes "done") ∷ []; lost = codes "feature import-marks-if-exists=a" ∷ codes "feature export-marks=b" ∷ []; sent = [] }
    -- lines that are left out and change neither
    ∷ record { items = Line (codes "feature relative-marks") ∷ Line (codes "get-mark :1") ∷ Line (codes "feature notes") ∷ Line (codes "done") ∷ []; lost = []; sent = Line (codes "done") ∷ [] }
    -- what only looks like a deletion
    ∷ record { items = Line (codes "commit refs/heads/a") ∷ Line null_from ∷ Line (codes "done") ∷ []; lost = []; sent = Line (codes "commit refs/heads/a") ∷ Line null_from ∷ Line (codes "done") ∷ [] }
    ∷ record { items = Line (codes "reset refs/heads/a") ∷ Line [] ∷ Line null_from ∷ []; lost = []; sent = Line (codes "reset refs/heads/a") ∷ Line [] ∷ Line null_from ∷ [] }
    -- blocks with such lines
    ∷ record { items = Data (codes "feature export-marks=b") ∷ Line (codes "reset refs/heads/a") ∷ Data null_from ∷ Data (codes "done") ∷ []; lost = []; sent = Data (codes "feature export-marks=b") ∷ Line (codes "reset refs/heads/a") ∷ Data null_from ∷ Data (codes "done") ∷ [] }
    -- behind `done`
    ∷ record { items = Line (codes "done") ∷ Line (codes "feature export-marks=b") ∷ Line (codes "done") ∷ []; lost = []; sent = Line (codes "done") ∷ Line (codes "done") ∷ [] }
    -- each `done` behind a lost line
    ∷ record { items = Line (codes "feature export-marks=b") ∷ Line (codes "done") ∷ Line (codes "feature export-marks=c") ∷ Line (codes "done") ∷ Data (codes "done") ∷ []; lost = codes "feature export-marks=b" ∷ []; sent = Data (codes "done") ∷ [] }
    ∷ []

lost_told : map (λ r. lost_lines r.items) lost_rows ≡ map (λ r. r.lost) lost_rows
lost_told = refl

lost_left_out : map (λ r. adapted false r.items) lost_rows ≡ map (λ r. r.sent) lost_rows
unfolding cut_at word_lot lot_of
lost_left_out = refl

-- streams, and whether `done` ends them
abbrev pub end_rows : List (List Item × Bool)
end_rows =
    ([], false)
    ∷ (Line (codes "done") ∷ [], true)
    -- a block of these bytes, and one that ends with them
    ∷ (Line (codes "blob") ∷ Data (codes "done") ∷ [], false)
    ∷ (Line (codes "blob") ∷ Data (codes "x" ++ 10 ∷ codes "done") ∷ [], false)
    -- a line behind it, and a line that begins so
    ∷ (Line (codes "done") ∷ Line (codes "reset refs/heads/a") ∷ [], false)
    ∷ (Line (codes "done ") ∷ [], false)
    ∷ (Line (codes "feature done") ∷ [], false)
    ∷ []

ends_told : map (λ r. ends_with_done r.0) end_rows ≡ map (λ r. r.1) end_rows
ends_told = refl

-- ---- tags

abbrev a_blob : Bytes → List Item
a_blob mark = Line (codes "blob") ∷ Line (codes "mark :" ++ mark) ∷ Data (codes "mark :7") ∷ []

abbrev a_commit : Bytes → List Item
a_commit mark = Line (codes "commit refs/heads/main") ∷ Line (codes "mark :" ++ mark) ∷ Line (codes "committer A <a> 1 +0000") ∷ Data (codes "blob") ∷ []

abbrev a_tag : Bytes → Bytes → List Item
a_tag mark target = Line (codes "tag v") ∷ Line (codes "mark :" ++ mark) ∷ Line (codes "from " ++ target) ∷ Data (codes "tag") ∷ []

-- streams, and how many of their tags are of a blob or of a tag
abbrev pub tag_rows : List (List Item × ℕ)
tag_rows =
    (a_blob (codes "1") ++ a_tag (codes "2") (codes ":1"), 1)
    ∷ (a_commit (codes "1") ++ a_tag (codes "2") (codes ":1"), 0)
    ∷ (a_commit (codes "1") ++ a_tag (codes "2") (codes ":1") ++ a_tag (codes "3") (codes ":2"), 1)
    ∷ (a_blob (codes "1") ++ a_tag (codes "2") (codes ":1") ++ a_tag (codes "3") (codes ":2"), 2)
    -- a mark that is set anew
    ∷ (a_blob (codes "1") ++ a_commit (codes "1") ++ a_tag (codes "2") (codes ":1"), 0)
    ∷ (a_commit (codes "1") ++ a_blob (codes "1") ++ a_tag (codes "2") (codes ":1"), 1)
    -- one number, written with a zero more
    ∷ (a_blob (codes "01") ++ a_tag (codes "2") (codes ":1"), 1)
    -- marks in blocks, and those that aren't there
    ∷ (a_blob (codes "1") ++ a_tag (codes "2") (codes ":7"), 0)
    ∷ (a_tag (codes "2") (codes ":2"), 1)
    ∷ (a_blob (codes "0") ++ a_tag (codes "2") (codes ":0"), 0)
    -- what no mark names
    ∷ (a_blob (codes "1") ++ a_tag (codes "2") (codes "1"), 0)
    ∷ (a_blob (codes "1") ++ a_tag (codes "2") (codes "refs/heads/main"), 0)
    -- a `from` of other commands
    ∷ (a_blob (codes "1") ++ a_commit (codes "2") ++ Line (codes "from :1") ∷ [], 0)
    ∷ (a_blob (codes "1") ++ Line (codes "reset refs/tags/v") ∷ Line (codes "from :1") ∷ [], 0)
    ∷ (a_blob (codes "1") ++ a_tag (codes "2") (codes ":3") ++ Line (codes "reset refs/tags/v") ∷ Line (codes "from :1") ∷ [], 0)
    ∷ []

tags_counted : map (λ r. tags_of_blobs_or_tags r.0) tag_rows ≡ map (λ r. r.1) tag_rows
unfolding cut_at command_begun mark_of mark_behind
tags_counted = refl
