-- Trees that are held, beside which a new tree is looked at.
use Rattle.std.specs.Prelude.{◌≡◌, true, List, ◌∷◌, Option, Some, None}
use Rattle.std.specs.List.{AllByRecursion}
use Rattle.gx_model.specs.Texts.{Bytes}
use Rattle.gx_model.specs.Objects.{Entry as TreeEntry, IsTreeText}
use Rattle.gx_model.specs.Histories.{Record}
use Rattle.gx_model.specs.Records.RecordFaults.{is_entry_held}
use Rattle.gx_object.specs.declared.entry.Entry.{Entry}
use Rattle.gx_object.specs.Entries.{shown}
use Rattle.gx_object.specs.Trees.{IsEntryText}
use Rattle.gx_repo.specs.declared.earlier.Earlier.{Earlier}

-- what an entry names is held
abbrev pub IsThere : List Record → TreeEntry → Type 0
IsThere records entry = is_entry_held records entry.mode entry.name ≡ true

-- the body of a tree whose entries are held
abbrev pub IsHeldTree : List Record → Bytes → Type 0
IsHeldTree records body = (entries : List TreeEntry) × IsTreeText entries body × AllByRecursion (IsThere records) entries

-- the entries left, the next one first
abbrev pub left : Option Entry → List TreeEntry → List TreeEntry
left None rest = rest
left (Some next) rest = shown next ∷ rest

-- what is left of an earlier tree is held
abbrev pub AreLeftHeld : List Record → Earlier → Type 0
AreLeftHeld records earlier = AllByRecursion (IsThere records) (left earlier.next earlier.rest)

-- what is left stays held, wherever it was
abbrev pub KeepsLeftHeld : Earlier → Earlier → Type 0
KeepsLeftHeld old new = (records : List Record) → AreLeftHeld records old → AreLeftHeld records new

-- what an entry names is held wherever what is left is
abbrev pub IsThereWithLeft : Earlier → Entry → Type 0
IsThereWithLeft earlier entry = (records : List Record) → AreLeftHeld records earlier → IsThere records (shown entry)

-- the entry of a text is held wherever what is left is
abbrev pub IsTextThere : Earlier → Bytes → Type 0
IsTextThere earlier text = (entry : TreeEntry) → IsEntryText entry text → (records : List Record) → AreLeftHeld records earlier → IsThere records entry

-- a body is that of a tree whose entries are held, wherever both of these are
abbrev pub IsHeldWithBoth : Bytes → Bytes → Bytes → Type 0
IsHeldWithBoth first last body = (records : List Record) → IsHeldTree records first → IsHeldTree records last → IsHeldTree records body
