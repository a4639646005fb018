-- Held objects by their names, and the values of the history that they are.
use Rattle.std.specs.Prelude.{IsTrue, is_some, ℕ, List, Option, Some, None, Ok, Err, if◌then◌else◌}
use Rattle.std.specs.List.{slice_get}
use Rattle.std.specs.Option.{option_map}
use Rattle.gx_model.specs.declared.objects.Kind.{Kind}
use Rattle.gx_model.specs.Texts.{Bytes}
use Rattle.gx_model.specs.Faults.{Given}
use Rattle.gx_model.specs.declared.faults.Fault.TheVariants.{WrongKind}
use Rattle.gx_model.specs.Histories.Files.{FileMap}
use Rattle.gx_model.specs.Histories.Values.{Commit, Commits, Value, blob_value, commit_value, parents_of, tag_value, tree_value}
use Rattle.gx_model.specs.Laws.RepositoryLaws.{values_of}
use Rattle.gx_model.specs.Objects.{Entry, TagParts}
use Rattle.gx_model.specs.Records.{body_of, kind_of, name_of}
use Rattle.gx_model.specs.Histories.{Records}
use Rattle.gx_model.specs.Records.HistoryOf.{commit_of_value, files_of_tree, value_of_name}
use Rattle.gx_model.specs.Records.Growth.{record_named, same_kind}
use Rattle.gx_model.specs.Records.RecordFaults.{is_held}
use Rattle.gx_model.specs.Records.Walks.{entries_named}
use Rattle.gx_object.specs.declared.name.Name.{Name}

-- an object of this name is held
abbrev pub IsHeld : Records → Name → Type 0
IsHeld repository called = IsTrue (is_some (record_named repository.records called.bytes))

-- an object of this kind and name is held
abbrev pub IsHeldAs : Kind → Records → Name → Type 0
IsHeldAs kind repository called = IsTrue (is_held repository.records kind called.bytes)

-- the value of this name, its commit, and its file map
abbrev pub value_at : Records → Name → Value
value_at repository called = value_of_name repository.records called.bytes

abbrev pub commit_at : Records → Name → Commit
commit_at repository called = commit_of_value (value_at repository called)

abbrev pub files_at : Records → Name → FileMap Bytes
files_at repository called = files_of_tree (value_at repository called)

-- the parents of the commit of this name
abbrev pub parents_at : Records → Name → Commits
parents_at repository called = parents_of (commit_at repository called)

-- the entries of the tree of this name
abbrev pub entries_at : Records → Name → List Entry
entries_at repository called = entries_named repository.records called.bytes

-- a value of this kind, and no other
abbrev pub only : (Kind → Bytes → Bytes) → Kind → Value → Given Value
only name kind value = if same_kind (kind_of name value) kind then Ok value else Err WrongKind

-- the body of the value at this place among the records
abbrev pub body_in_place : (Kind → Bytes → Bytes) → Records → ℕ → Option Bytes
body_in_place name repository place = option_map (body_of name) (slice_get (values_of repository) place)

-- the parts of a tag's body, where a value is a tag
abbrev pub parts_of_tag_value : (Kind → Bytes → Bytes) → Value → Option TagParts
parts_of_tag_value name (tag_value tag) = Some (record { object = name_of name (commit_value tag.target); name = tag.name; tagger = tag.tagger; message = tag.message })
parts_of_tag_value name (blob_value bytes) = None
parts_of_tag_value name (tree_value files) = None
parts_of_tag_value name (commit_value made) = None
