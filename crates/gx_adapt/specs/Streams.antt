-- The items that stand in the place of a stream's, which of them are lost, and how many of each kind were changed.
-- Source: git-fast-import(1) and git-fast-export(1).
use Rattle.std.specs.Prelude.{ℕ, Bool, true, false, not, ◌&&◌, ◌||◌, if◌then◌else◌, List, [], ◌∷◌, ◌++◌, length, codes}
use Rattle.std.specs.List.{flat_map, filter}
use Rattle.gx_model.specs.Texts.{Bytes, same_bytes}
use Rattle.gx_model.specs.Streams.Items.{Item, Line, Data}
use Rattle.gx_adapt.specs.Lines.{Lot, kept, deletion, marks, feature, signature, unfinished, spaced, requoted, behind_line, changes_marks, is_null_from, is_reset, is_signature_line, lot_of, block_lot, items_for, is_refused, is_note, is_early}
use Rattle.gx_adapt.specs.Marks.{tags_of_blobs_or_tags}
use Rattle.gx_adapt.specs.declared.course.Course.{Course}
use Rattle.gx_adapt.specs.declared.lot.Behind.{Behind}
use Rattle.gx_adapt.specs.declared.lot.Behind.TheVariants.{Other}
use Rattle.gx_adapt.specs.declared.report.Report.{Report}

-- what the next item stands behind
abbrev pub behind_of : Item → Behind
behind_of (Line l) = behind_line l
behind_of (Data x) = Other

-- of a line
abbrev pub on_line : (Bytes → Bool) → Item → Bool
on_line test (Line l) = test l
on_line test (Data x) = false

-- a line that ends a stream
abbrev pub is_done : Bytes → Bool
is_done l = same_bytes l (codes "done")

-- ---- lines that are lost

-- Lines are lost that are left out though git changes refs or files of marks by them: those that delete a ref, and those that
-- ask for a file of marks. Behind `done` git reads nothing, so that nothing is lost there.
abbrev pub is_lost : Course → Bytes → Bool
is_lost course l = not course.done && (changes_marks l || (is_reset course.behind && is_null_from l))

-- how far a stream is of which nothing came, and how far behind an item
abbrev pub start : Course
start = record { behind = Other; lost = false; done = false }

abbrev pub course_of : Course → Item → Course
course_of course i = record { behind = behind_of i; lost = course.lost || on_line (is_lost course) i; done = course.done || on_line is_done i }

-- what tells of a lost line: itself, or the reset that it stands behind, which has the name of the ref that it deletes
abbrev pub lost_line : Bytes → Bytes → Bytes
lost_line before l = if changes_marks l then l else before

-- the line of an item
abbrev pub text_of : Item → Bytes
text_of (Line l) = l
text_of (Data x) = []

-- what tells of an item, by the line directly before it, if it is lost
abbrev pub lost_at : Bytes → Course → Item → List Bytes
lost_at before course (Line l) = if is_lost course l then lost_line before l ∷ [] else []
lost_at before course (Data x) = []

-- what tells of the lost ones of these items
abbrev pub lost_from : Bytes → Course → List Item → List Bytes
lost_from before course [] = []
lost_from before course (i ∷ is) = lost_at before course i ++ lost_from (text_of i) (course_of course i) is

-- what tells of the lost lines of a stream
abbrev pub lost_lines : List Item → List Bytes
lost_lines is = lost_from [] start is

-- ---- what stands in the place of items

-- an item, and how far its stream is
pub record Placed : Type 0 where
  pub course : Course
  pub item : Item

-- items of which the first stands so far in its stream
abbrev pub placed_from : Course → List Item → List Placed
placed_from course [] = []
placed_from course (i ∷ is) = record { course = course; item = i } ∷ placed_from (course_of course i) is

-- the items of a stream
abbrev pub placed : List Item → List Placed
placed is = placed_from start is

-- what becomes of a line: behind one that is lost, `done` is left out
abbrev pub line_lot : Bool → Course → Bytes → Lot
line_lot drops course l = if course.lost && is_done l then unfinished else lot_of drops course.behind l

-- what becomes of an item, by whether signatures are dropped
abbrev pub lot_in : Bool → Course → Item → Lot
lot_in drops course (Line l) = line_lot drops course l
lot_in drops course (Data x) = block_lot drops course.behind

abbrev pub lot_at : Bool → Placed → Lot
lot_at drops p = lot_in drops p.course p.item

-- the items that stand in its place
abbrev pub items_in : Bool → Course → Item → List Item
items_in drops course i = items_for i (lot_in drops course i)

abbrev pub items_at : Bool → Placed → List Item
items_at drops p = items_in drops p.course p.item

-- the items that stand in the place of these
abbrev pub adapted : Bool → List Item → List Item
adapted drops is = flat_map (items_at drops) (placed is)

-- ---- counts

abbrev pub is_spaced : Lot → Bool
is_spaced kept = false
is_spaced deletion = false
is_spaced marks = false
is_spaced feature = false
is_spaced signature = false
is_spaced unfinished = false
is_spaced (spaced new) = true
is_spaced (requoted new) = false

abbrev pub is_deletion : Lot → Bool
is_deletion kept = false
is_deletion deletion = true
is_deletion marks = false
is_deletion feature = false
is_deletion signature = false
is_deletion unfinished = false
is_deletion (spaced new) = false
is_deletion (requoted new) = false

abbrev pub is_marks : Lot → Bool
is_marks kept = false
is_marks deletion = false
is_marks marks = true
is_marks feature = false
is_marks signature = false
is_marks unfinished = false
is_marks (spaced new) = false
is_marks (requoted new) = false

abbrev pub is_asking : Lot → Bool
is_asking kept = false
is_asking deletion = false
is_asking marks = false
is_asking feature = true
is_asking signature = false
is_asking unfinished = false
is_asking (spaced new) = false
is_asking (requoted new) = false

abbrev pub is_requoted : Lot → Bool
is_requoted kept = false
is_requoted deletion = false
is_requoted marks = false
is_requoted feature = false
is_requoted signature = false
is_requoted unfinished = false
is_requoted (spaced new) = false
is_requoted (requoted new) = true

-- how many items of a stream are so
abbrev pub how_many : (Placed → Bool) → List Item → ℕ
how_many test is = length (filter test (placed is))

-- whether the last item is the line `done`
abbrev pub ends_with_done : List Item → Bool
ends_with_done [] = false
ends_with_done (i ∷ []) = on_line is_done i
ends_with_done (i ∷ j ∷ is) = ends_with_done (j ∷ is)

-- nothing was changed or seen yet
abbrev pub nothing_counted : Report
nothing_counted = record { identities = 0; deletions = 0; paths = 0; marks = 0; features = 0; signatures = 0; refused_names = 0; notes = 0; early_dates = 0; tags_of_blobs_or_tags = 0; ended_with_done = false }

-- what was changed in a stream, and what was seen
abbrev pub report_of : Bool → List Item → Report
report_of drops is = record {
  identities = how_many (λ p. is_spaced (lot_at drops p)) is;
  deletions = how_many (λ p. is_deletion (lot_at drops p)) is;
  paths = how_many (λ p. is_requoted (lot_at drops p)) is;
  marks = how_many (λ p. is_marks (lot_at drops p)) is;
  features = how_many (λ p. is_asking (lot_at drops p)) is;
  signatures = how_many (λ p. on_line is_signature_line p.item) is;
  refused_names = how_many (λ p. on_line is_refused p.item) is;
  notes = how_many (λ p. on_line is_note p.item) is;
  early_dates = how_many (λ p. on_line is_early p.item) is;
  tags_of_blobs_or_tags = tags_of_blobs_or_tags is;
  ended_with_done = ends_with_done is;
}
