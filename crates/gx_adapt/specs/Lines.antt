-- What becomes of a line.
-- Source: git-fast-import(1), "author", "committer", "tagger", "gpgsig", "from", "filemodify", "filedelete", "filecopy", "filerename", "feature" and "get-mark".
use Rattle.std.specs.Prelude.{Bool, true, false, not, ◌&&◌, ◌||◌, nat_eq, List, [], ◌∷◌, ◌++◌, codes, Option, Some, None, if◌then◌else◌}
use Rattle.std.specs.List.{starts_with}
use Rattle.std.specs.Str.{bytes_eq}
use Rattle.gx_model.specs.Texts.{Bytes, cut_at}
use Rattle.gx_model.specs.Texts.RefNames.{is_ref_name}
use Rattle.gx_model.specs.Streams.Items.{Item, Line, Data}
use Rattle.gx_adapt.specs.Paths.{quoted, is_open, anew, source_of}
use Rattle.gx_adapt.specs.declared.lot.Behind.{Behind}
use Rattle.gx_adapt.specs.declared.lot.Behind.TheVariants.{Reset, Signature, Other}

-- An item stays, or is left out since it deletes a branch, is about marks, asks for a feature, is of a signature or ends a
-- stream that isn't whole, or is another line: one whose identity has a space before its `<`, or one with a path in quotes.
pub data Lot : Type 0 where
  kept : Lot
  deletion : Lot
  marks : Lot
  feature : Lot
  signature : Lot
  unfinished : Lot
  spaced : Bytes → Lot
  requoted : Bytes → Lot

-- ---- which lines

-- a line begins so
abbrev pub begins : Bytes → Bytes → Bool
begins front l = starts_with nat_eq l front

-- a reset to another commit or to none
abbrev pub is_reset_line : Bytes → Bool
is_reset_line l = begins (codes "reset ") l

-- a `from` with forty zeros
abbrev pub is_null_from : Bytes → Bool
is_null_from l = bytes_eq l (codes "from 0000000000000000000000000000000000000000")

-- files of marks, which a stream can't ask for here, and a mark's name asked for
abbrev pub is_of_marks : Bytes → Bool
is_of_marks l =
    begins (codes "feature import-marks=") l || begins (codes "feature import-marks-if-exists=") l || begins (codes "feature export-marks=") l
    || bytes_eq l (codes "feature relative-marks") || bytes_eq l (codes "feature no-relative-marks") || begins (codes "get-mark :") l

-- those of them by which git reads or writes a file of marks
abbrev pub changes_marks : Bytes → Bool
changes_marks l = begins (codes "feature import-marks=") l || begins (codes "feature import-marks-if-exists=") l || begins (codes "feature export-marks=") l

-- a feature that only asks whether the reader knows a command. git knows them all, so that the line does nothing there
abbrev pub is_feature : Bytes → Bool
is_feature l = bytes_eq l (codes "feature notes") || bytes_eq l (codes "feature ls") || bytes_eq l (codes "feature cat-blob") || bytes_eq l (codes "feature get-mark")

-- the line of a commit's signature, whose block follows
abbrev pub is_signature_line : Bytes → Bool
is_signature_line l = begins (codes "gpgsig ") l

-- what an item stands behind, by the line directly before it
abbrev pub behind_line : Bytes → Behind
behind_line l = if is_reset_line l then Reset else (if is_signature_line l then Signature else Other)

abbrev pub is_reset : Behind → Bool
is_reset Reset = true
is_reset Signature = false
is_reset Other = false

abbrev pub is_signature : Behind → Bool
is_signature Reset = false
is_signature Signature = true
is_signature Other = false

-- the word of a line with an identity
abbrev pub is_ident_word : Bytes → Bool
is_ident_word word = bytes_eq word (codes "author") || bytes_eq word (codes "committer") || bytes_eq word (codes "tagger")

-- the word of a line with two paths
abbrev pub is_move_word : Bytes → Bool
is_move_word word = bytes_eq word (codes "C") || bytes_eq word (codes "R")

-- ---- lines written anew

-- a space more before an identity
abbrev pub spaced_line : Bytes → Bytes → Bytes
spaced_line word ident = word ++ 32 ∷ 32 ∷ ident

-- a modify before its path
abbrev pub modify_front : Bytes → Bytes → Bytes
modify_front mode dataref = codes "M " ++ mode ++ 32 ∷ dataref

-- a path in quotes, behind what stands before it
abbrev pub quoted_line : Bytes → Bytes → Bytes
quoted_line front path = front ++ 32 ∷ quoted path

-- a modify with its path in quotes
abbrev pub modified_line : Bytes → Bytes → Bytes → Bytes
modified_line mode dataref path = quoted_line (modify_front mode dataref) path

-- two paths, of which one or both are in quotes
abbrev pub moved_line : Bytes → Bytes → Bytes → Bytes
moved_line word source destination = word ++ 32 ∷ anew source ++ 32 ∷ anew destination

-- ---- what becomes of them

-- an identity that begins with `<`
unfoldable pub ident_lot : Bytes → Bytes → Lot
ident_lot word ident = if begins (codes "<") ident then spaced (spaced_line word ident) else kept

-- a path that ends its line, and the part before it
unfoldable pub path_lot : Bytes → Bytes → Lot
path_lot front path = if is_open path then requoted (quoted_line front path) else kept

-- behind the dataref, which follows the mode
abbrev pub dataref_lot : Bytes → Option (Bytes × Bytes) → Lot
dataref_lot mode None = kept
dataref_lot mode (Some p) = path_lot (modify_front mode p.0) p.1

-- a modify, from its mode on
abbrev pub mode_lot : Option (Bytes × Bytes) → Lot
mode_lot None = kept
mode_lot (Some p) = dataref_lot p.0 (cut_at 32 p.1)

unfoldable pub modify_lot : Bytes → Lot
modify_lot rest = mode_lot (cut_at 32 rest)

-- a source and a destination
abbrev pub paths_lot : Bytes → Option (Bytes × Bytes) → Lot
paths_lot word None = kept
paths_lot word (Some p) = if is_open p.0 || is_open p.1 then requoted (moved_line word p.0 p.1) else kept

unfoldable pub move_lot : Bytes → Bytes → Lot
move_lot word rest = paths_lot word (source_of rest)

-- by the word of a line, and its rest
unfoldable pub word_lot : Bytes → Bytes → Lot
word_lot word rest =
    if is_ident_word word then ident_lot word rest
    else (if bytes_eq word (codes "M") then modify_lot rest
    else (if bytes_eq word (codes "D") then path_lot (codes "D") rest
    else (if is_move_word word then move_lot word rest else kept)))

abbrev pub words_lot : Option (Bytes × Bytes) → Lot
words_lot None = kept
words_lot (Some p) = word_lot p.0 p.1

-- what becomes of a line, by whether signatures are dropped, and by what it stands behind
unfoldable pub lot_of : Bool → Behind → Bytes → Lot
lot_of drops behind l =
    if is_of_marks l then marks
    else (if is_feature l then feature
    else (if drops && is_signature_line l then signature
    else (if is_reset behind && is_null_from l then deletion else words_lot (cut_at 32 l))))

-- what becomes of a block: it stays, unless it is a signature and these are dropped
abbrev pub block_lot : Bool → Behind → Lot
block_lot drops behind = if drops && is_signature behind then signature else kept

-- the lines that stand in a line's place
abbrev pub lines_for : Bytes → Lot → List Item
lines_for l kept = Line l ∷ []
lines_for l deletion = []
lines_for l marks = []
lines_for l feature = []
lines_for l signature = []
lines_for l unfinished = []
lines_for l (spaced new) = Line new ∷ []
lines_for l (requoted new) = Line new ∷ []

-- a block is left out, as a signature
abbrev pub is_dropped : Lot → Bool
is_dropped kept = false
is_dropped deletion = false
is_dropped marks = false
is_dropped feature = false
is_dropped signature = true
is_dropped unfinished = false
is_dropped (spaced new) = false
is_dropped (requoted new) = false

-- the items that stand in an item's place
abbrev pub items_for : Item → Lot → List Item
items_for (Line l) lot = lines_for l lot
items_for (Data x) lot = if is_dropped lot then [] else Data x ∷ []

-- ---- what is seen and stays

-- a note
abbrev pub is_note : Bytes → Bool
is_note l = begins (codes "N ") l

-- a commit or a reset, and what it names as its branch
abbrev pub is_branch_word : Bytes → Bool
is_branch_word word = bytes_eq word (codes "commit") || bytes_eq word (codes "reset")

abbrev pub has_refused_name : Option (Bytes × Bytes) → Bool
has_refused_name None = false
has_refused_name (Some p) = is_branch_word p.0 && not (is_ref_name p.1)

-- a commit or a reset of a branch whose name no ref can have
unfoldable pub is_refused : Bytes → Bool
is_refused l = has_refused_name (cut_at 32 l)

-- the date behind an email's `>`, with its sign
abbrev pub has_minus : Option (Bytes × Bytes) → Bool
has_minus None = false
has_minus (Some p) = begins (codes " -") p.1

abbrev pub has_early_ident : Option (Bytes × Bytes) → Bool
has_early_ident None = false
has_early_ident (Some p) = is_ident_word p.0 && has_minus (cut_at 62 p.1)

-- an identity dated before 1970
unfoldable pub is_early : Bytes → Bool
is_early l = has_early_ident (cut_at 32 l)
