-- What adapting a stream gives, sends and leaves.
use Rattle.std.specs.Prelude.{◌≡◌, ℕ, ◌+◌, ◌<◌, ◌^◌, Bool, true, false, ◌&&◌, codes, if◌then◌else◌, List, ◌++◌, map, Option, Some, None, Result, Ok, Err, OnOk, ⊤}
use Rattle.std.specs.Ordering.{nat_cmp}
use Rattle.std.specs.Option.{option_or, option_map_or}
use Rattle.std.specs.BTreeSet.{contains}
use Rattle.std.specs.declared.vec.Vec.{Vec}
use Rattle.gx_model.specs.declared.faults.Fault.TheVariants as model
use Rattle.gx_model.specs.Texts.{Bytes}
use Rattle.gx_model.specs.Streams.Items.{Item, Line, Data, End, Finished, Failed, Stream}
use Rattle.gx_model.specs.Texts.Sinks.{Taken, Took, FailedWithin}
use Rattle.gx_text.specs.Devices.{Coming}
use Rattle.gx_stream.specs.Reading.{AreOfText}
use Rattle.gx_stream.specs.declared.fault.StreamFault.{StreamFault}
use Rattle.gx_stream.specs.declared.fault.StreamFault.TheVariants as stream
use Rattle.gx_adapt.specs.Lines as lines
use Rattle.gx_adapt.specs.Marks.{command_begun, command_of, mark_behind, is_blob_or_tag, is_tag, sets_mark, is_of_blob_or_tag}
use Rattle.gx_adapt.specs.Lines.{is_reset_line}
use Rattle.gx_adapt.specs.Streams.{adapted, lost_at, lost_lines, is_spaced, is_deletion, is_requoted, is_marks, is_asking, is_done, on_line, report_of}
use Rattle.gx_model.specs.Export.{items_text}
use Rattle.gx_adapt.specs.Laws.{IsReadAdapted}
use Rattle.gx_adapt.specs.declared.adapting.Adapted.{Adapted}
use Rattle.gx_adapt.specs.declared.course.Course.{Course}
use Rattle.gx_adapt.specs.declared.fault.AdaptFault.{AdaptFault}
use Rattle.gx_adapt.specs.declared.fault.AdaptFault.TheVariants.{OutOfMemory, ReadFailed, WriteFailed, TruncatedData, BadNumber}
use Rattle.gx_adapt.specs.declared.losses.Losses.{Losses}
use Rattle.gx_adapt.specs.declared.lot.Lot.{Lot}
use Rattle.gx_adapt.specs.declared.lot.Lot.TheVariants.{Kept, Deletion, Marks, Feature, Signature, Unfinished, Ident, Modify, Remove, Move}
use Rattle.gx_adapt.specs.declared.marks.Command.{Command}
use Rattle.gx_adapt.specs.declared.marks.Marks as held
use Rattle.gx_adapt.specs.declared.report.Report.{Report}

-- a fault of the items, as it is answered
abbrev pub of_stream : StreamFault → AdaptFault
of_stream stream.OutOfMemory = OutOfMemory
of_stream stream.ReadFailed = ReadFailed
of_stream stream.TruncatedData = TruncatedData
of_stream stream.BadNumber = BadNumber

-- the text of what stands in the place of some items, by whether signatures are dropped
abbrev pub text_for : Bool → List Item → Bytes
text_for drops is = items_text (adapted drops is)

-- all that came went out adapted, and this is the end
abbrev pub EndsWith : Bool → Stream → End → Option Taken → Option Taken → Type 0
EndsWith drops s end was is = (s.end ≡ end) × Took was is (text_for drops s.items)

-- texts that are held
abbrev pub texts_of : {A : Type 0} → Vec (Vec ℕ A) A → List Bytes
texts_of texts = map (λ text. text.items) texts.items

-- All items went out adapted, the report counts them, and the lost lines are told. Or those went out that came before the stream's fault. For want
-- of memory some first items went out. Where the sink failed, a front of the adapted text did.
abbrev pub Adapts : {A : Type 0} → Bool → Stream → Option Taken → Option Taken → Result (Adapted A) AdaptFault → Type 0
Adapts drops s was is (Ok adapted) = ((adapted.report ≡ report_of drops s.items) × (texts_of adapted.lost ≡ lost_lines s.items)) × EndsWith drops s Finished was is
Adapts drops s was is (Err ReadFailed) = EndsWith drops s (Failed model.ReadFailed) was is
Adapts drops s was is (Err TruncatedData) = EndsWith drops s (Failed model.TruncatedData) was is
Adapts drops s was is (Err BadNumber) = EndsWith drops s (Failed model.BadNumber) was is
Adapts drops s was is (Err OutOfMemory) = (front : List Item) × (rest : List Item) × (s.items ≡ front ++ rest) × Took was is (text_for drops front)
Adapts drops s was is (Err WriteFailed) = FailedWithin was is (text_for drops s.items)

-- the same of a source's items; where it tells nothing, of those of some text
abbrev pub AdaptsFrom : {A : Type 0} → Bool → Option Stream → Option Taken → Option Taken → Result (Adapted A) AdaptFault → Type 0
AdaptsFrom drops None was is r = (s : Stream) × AreOfText s × Adapts drops s was is r
AdaptsFrom drops (Some s) was is r = Adapts drops s was is r

-- what went out is read as these items again
abbrev pub IsReadAgain : Bool → Option Coming → Type 0
IsReadAgain drops None = Unit {0}
IsReadAgain drops (Some c) = IsReadAdapted drops c

-- ---- marks

-- whether a mark is held as that of a blob or a tag
abbrev pub holds_mark : {A : Type 0} → held.Marks A → ℕ → Bool
holds_mark marks number = contains nat_cmp marks.numbers number

-- the command and the marks behind some items, which stand the latest first
pub record StandsBehind {A : Type 0} (earlier : List Item) (marks : held.Marks A) : Type 0 where
  pub command : marks.command ≡ command_of earlier
  pub numbers : (number : ℕ) → holds_mark marks number ≡ is_of_blob_or_tag earlier number

-- whether an item is the `from` of a tag of a blob or of a tag, by what is held
abbrev pub names_held : {A : Type 0} → held.Marks A → Item → Bool
names_held marks (Line l) = is_tag marks.command && option_map_or (holds_mark marks) (mark_behind (codes "from") l) false
names_held marks (Data x) = false

-- the command behind an item
abbrev pub command_behind : Item → Option Command → Option Command
command_behind (Line l) before = option_or (command_begun l) before
command_behind (Data x) before = before

-- whether a mark is that of a blob or a tag behind an item, by the command and by whether it was
abbrev pub marked_behind : Item → Option Command → ℕ → Bool → Bool
marked_behind (Line l) command number was = if sets_mark l number then is_blob_or_tag command else was
marked_behind (Data x) command number was = was

-- an item's mark is set
abbrev pub SetsMark : {A : Type 0} → Item → held.Marks A → held.Marks A → Type 0
SetsMark item was is = (number : ℕ) → holds_mark is number ≡ marked_behind item was.command number (holds_mark was number)

-- an item was passed
pub record Passes {A : Type 0} (item : Item) (was is : held.Marks A) : Type 0 where
  pub command : is.command ≡ command_behind item was.command
  pub numbers : SetsMark item was is

-- ---- lost lines

-- the line of a reset is kept
abbrev pub KeepsReset : Item → Bytes → Type 0
KeepsReset (Line l) reset = is_reset_line l ≡ true → reset ≡ l
KeepsReset (Data x) reset = ⊤

-- an item was passed, which is so far in its stream
pub record Loses {A : Type 0} (course : Course) (item : Item) (was is : Losses A) : Type 0 where
  pub lines : texts_of is.lines ≡ texts_of was.lines ++ lost_at was.reset.items course item
  pub reset : KeepsReset item is.reset.items

-- ---- one item

-- what becomes of an item, as the code tells it
abbrev pub shown_lot : Lot → lines.Lot
shown_lot Kept = lines.kept
shown_lot Deletion = lines.deletion
shown_lot Marks = lines.marks
shown_lot Feature = lines.feature
shown_lot Signature = lines.signature
shown_lot Unfinished = lines.unfinished
shown_lot (Ident word ident) = lines.spaced (lines.spaced_line word.now ident.now)
shown_lot (Modify mode dataref path) = lines.requoted (lines.modified_line mode.now dataref.now path.now)
shown_lot (Remove path) = lines.requoted (lines.quoted_line (codes "D") path.now)
shown_lot (Move word source destination) = lines.requoted (lines.moved_line word.now source.now destination.now)

-- one more, where it is so
abbrev pub one_if : Bool → ℕ → ℕ
one_if holds n = if holds then n + 1 else n

-- what becomes of an item counted
abbrev pub changed : lines.Lot → Report → Report
changed lot r = record r {
  identities = one_if (is_spaced lot) r.identities;
  deletions = one_if (is_deletion lot) r.deletions;
  paths = one_if (is_requoted lot) r.paths;
  marks = one_if (is_marks lot) r.marks;
  features = one_if (is_asking lot) r.features;
}

-- an item counted, of which this becomes, and which names a blob or a tag for a tag, or doesn't
abbrev pub counted : lines.Lot → Bool → Item → Report → Report
counted lot names item r = record {
  identities = one_if (is_spaced lot) r.identities;
  deletions = one_if (is_deletion lot) r.deletions;
  paths = one_if (is_requoted lot) r.paths;
  marks = one_if (is_marks lot) r.marks;
  features = one_if (is_asking lot) r.features;
  signatures = one_if (on_line lines.is_signature_line item) r.signatures;
  refused_names = one_if (on_line lines.is_refused item) r.refused_names;
  notes = one_if (on_line lines.is_note item) r.notes;
  early_dates = one_if (on_line lines.is_early item) r.early_dates;
  tags_of_blobs_or_tags = one_if names r.tags_of_blobs_or_tags;
  ended_with_done = on_line is_done item;
}

-- the same by the marks that are held
abbrev pub with_item : {A : Type 0} → lines.Lot → held.Marks A → Item → Report → Report
with_item lot marks item r = counted lot (names_held marks item) item r

-- an item of which this becomes is counted in a report, unless a fault is answered
abbrev pub Counts : {A T : Type 0} → Lot → Item → held.Marks A → Report → Report → Result T AdaptFault → Type 0
Counts lot item marks was is r = OnOk r (is ≡ with_item (shown_lot lot) marks item was)

-- each count has room for one more
pub record HasRoom (r : Report) : Type 0 where
  pub identities : r.identities < 2 ^ 63
  pub deletions : r.deletions < 2 ^ 63
  pub paths : r.paths < 2 ^ 63
  pub marks : r.marks < 2 ^ 63
  pub features : r.features < 2 ^ 63
  pub signatures : r.signatures < 2 ^ 63
  pub refused_names : r.refused_names < 2 ^ 63
  pub notes : r.notes < 2 ^ 63
  pub early_dates : r.early_dates < 2 ^ 63
  pub tags_of_blobs_or_tags : r.tags_of_blobs_or_tags < 2 ^ 63

-- A text went out, or the sink failed within it.
abbrev pub Puts : {A : Type 0} → Bytes → Option Taken → Option Taken → Result A AdaptFault → Type 0
Puts text was is (Ok done) = Took was is text
Puts text was is (Err WriteFailed) = FailedWithin was is text
Puts text was is (Err fault) = ⊥

-- The same, and for want of memory nothing went out.
abbrev pub PutsIf : {A : Type 0} → Bytes → Option Taken → Option Taken → Result A AdaptFault → Type 0
PutsIf text was is (Err OutOfMemory) = is ≡ was
PutsIf text was is r = Puts text was is r

-- the same of what stands in an item's place, of which this becomes
abbrev pub SendsFor : {A : Type 0} → Lot → Item → Option Taken → Option Taken → Result A AdaptFault → Type 0
SendsFor lot item was is r = PutsIf (items_text (lines.items_for item (shown_lot lot))) was is r

-- the same of a sink, by what it tells
abbrev pub SendsItem : {A W : Type 0} → (W → Option Taken) → Lot → Item → W → W → Result A AdaptFault → Type 0
SendsItem taken lot item was is r = SendsFor lot item (taken was) (taken is) r
