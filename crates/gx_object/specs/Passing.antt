-- What the files before an entry tell of the entries behind it, from one entry to the next.
use Rattle.std.specs.Prelude.{◌≡◌, Bool, not, ◌&&◌, ◌||◌, List, ◌∷◌}
use Rattle.gx_model.specs.Objects.{Entry as TreeEntry}
use Rattle.gx_model.specs.Texts.{Bytes}
use Rattle.gx_object.specs.declared.earlier_files.EarlierFiles.{EarlierFiles}
use Rattle.gx_object.specs.declared.entry.Entry.{Entry}
use Rattle.gx_object.specs.Entries.{shown}
use Rattle.gx_object.specs.Order.{is_short, leads, meets_any}
use Rattle.gx_object.specs.Trees.{AreEntries, entries_left}

-- one of these, which stand behind an entry, has the component of one of the files before it
abbrev pub is_met : EarlierFiles → Entry → List TreeEntry → Bool
is_met files first others = meets_any files.above files.is_file (shown first).component others

-- an entry behind the first has the component of a file before that, or its own where that is remembered: so it is where
-- the answer is true, or where it is so behind the next
abbrev pub MeetsPast : EarlierFiles → EarlierFiles → Entry → Entry → Bool → Type 0
MeetsPast old new first next answer =
    (others : List TreeEntry) → (is_short (shown first) (shown next ∷ others) || is_met old first (shown next ∷ others)) ≡ (answer || is_met new next others)

-- an entry may stand before the next one and the others, and none of those has the component of a file before it: so it is
-- where the answer is true and none behind the next has one
abbrev pub LeadsPast : EarlierFiles → EarlierFiles → Entry → Entry → List TreeEntry → Bool → Type 0
LeadsPast old new first next others answer =
    (leads (shown first) (shown next ∷ others) && not (is_met old first (shown next ∷ others))) ≡ (answer && not (is_met new next others))

-- the same of the entries that the bytes behind the next one are
abbrev pub LeadsPastFrom : EarlierFiles → EarlierFiles → Entry → Entry → Bytes → Bool → Type 0
LeadsPastFrom old new first next after answer = AreEntries after → LeadsPast old new first next (entries_left after) answer
