-- What a repository's additions do, and what they answer.
use Rattle.std.specs.Prelude.{◌≡◌, List, Some, None, Result, Ok, Err, ⊤}
use Rattle.gx_model.specs.declared.objects.Kind.{Kind}
use Rattle.gx_model.specs.declared.objects.Kind.TheVariants as kind
use Rattle.gx_model.specs.Texts.{Bytes}
use Rattle.gx_model.specs.Objects.{CommitParts, TagParts, commit_text, tag_text}
use Rattle.gx_model.specs.Histories.Values.{Value, commit_value, tag_value}
use Rattle.gx_model.specs.Histories.Files.{FileMap}
use Rattle.gx_model.specs.Histories.{Record, Records, record_for}
use Rattle.gx_model.specs.Records.HistoryOf.{commit_of_parts, contents_of, history_of, named_values, tag_of_parts, value_in}
use Rattle.gx_model.specs.Records.Growth.{put, put_all, record_named}
use Rattle.gx_object.specs.declared.name.Name.{Name}
use Rattle.gx_store.specs.declared.fault.StoreFault.{StoreFault}
use Rattle.gx_store.specs.declared.fault.StoreFault.TheVariants.{OutOfMemory, NameHeld}
use Rattle.gx_tree.specs.declared.fault.TreeFault.{TreeFault}
use Rattle.gx_tree.specs.declared.fault.TreeFault.TheVariants as tree

-- the record of a commit with these parts, and of a tag
abbrev pub commit_record : (Kind → Bytes → Bytes) → CommitParts → Record
commit_record name parts = record_for name kind.Commit (commit_text parts)

abbrev pub tag_record : (Kind → Bytes → Bytes) → TagParts → Record
tag_record name parts = record_for name kind.Tag (tag_text parts)

-- the commit of these parts, where its tree and its parents are among the records
abbrev pub commit_among : List Record → CommitParts → Value
commit_among records parts = commit_value (commit_of_parts (named_values records) parts)

-- the tag of these parts, where its commit is among the records
abbrev pub tag_among : List Record → TagParts → Value
tag_among records parts = tag_value (tag_of_parts (named_values records) parts)

-- the value of a body of this kind, where its links are among the records
abbrev pub value_among : List Record → Kind → Bytes → Value
value_among records of_kind body = value_in (named_values records) of_kind body

-- the files of a map of names, where these are among the records
abbrev pub files_among : List Record → FileMap Bytes → FileMap Bytes
files_among records names = contents_of (named_values records) names

-- the records with this one put, or unchanged, and its name
abbrev pub Adds : List Record → List Record → Record → Result Name StoreFault → Type 0
Adds old new added (Ok name) = (name.bytes ≡ added.name) × (put old added ≡ Some new)
Adds old new added (Err NameHeld) = (put old added ≡ None) × (new ≡ old)
Adds old new added (Err OutOfMemory) = new ≡ old

-- want of memory hides no record of this name
abbrev pub HidesNone : List Record → Bytes → Result Name StoreFault → Type 0
HidesNone records name (Err OutOfMemory) = record_named records name ≡ None
HidesNone records name answer = ⊤

-- the records with all of these put, or unchanged, and this name
abbrev pub AddsAll : List Record → List Record → List Record → Bytes → Result Name StoreFault → Type 0
AddsAll old new added called (Ok name) = (name.bytes ≡ called) × (put_all old added ≡ Some new)
AddsAll old new added called (Err NameHeld) = (put_all old added ≡ None) × (new ≡ old)
AddsAll old new added called (Err OutOfMemory) = new ≡ old

-- the history that the new repository stands for has these values, and the refs of the old one's
abbrev pub HasValues : Records → Records → List Value → Type 0
HasValues old new values = history_of new ≡ record { values = values; refs = (history_of old).refs }

-- the fault that a write answers: want of memory, or a name that is held
abbrev pub IsWriteFault : TreeFault → Type 0
IsWriteFault tree.OutOfMemory = ⊤
IsWriteFault tree.NameHeld = ⊤
IsWriteFault _ = ⊥
