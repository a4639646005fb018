-- Objects and names, as the values that they stand for.
use Rattle.std.specs.Prelude.{◌≡◌, if◌then◌else◌, List, map, Option, None, Some, Result, Ok, Err}
use Rattle.std.specs.List.{AllByRecursion}
use Rattle.std.specs.Option.{option_map}
use Rattle.gx_model.specs.declared.objects.Kind.{Kind}
use Rattle.gx_model.specs.declared.objects.Kind.TheVariants as kind
use Rattle.gx_model.specs.Texts.{Bytes}
use Rattle.gx_model.specs.Histories.Files.{FileMap}
use Rattle.gx_model.specs.Histories.Values.{Commit, Tag, Value, blob_value, commit_value, tag_value, tree_value}
use Rattle.gx_model.specs.Records.{kind_of, name_of}
use Rattle.gx_model.specs.Histories.{IsIn, Records}
use Rattle.gx_model.specs.Objects.{CommitParts, TagParts}
use Rattle.gx_model.specs.Records.Sound.{Holds}
use Rattle.gx_model.specs.Replay.{text_made}
use Rattle.gx_model.specs.Records.Growth.{same_kind}
use Rattle.gx_object.specs.declared.name.Name.{Name}
use Rattle.gx_command.specs.Views.{commit_parts}
use Rattle.gx_command.specs.declared.commands.Commit.{Commit as CommitCommand}
use Rattle.gx_command.specs.declared.commands.Tag.{Tag as TagCommand}
use Rattle.gx_import.specs.declared.object.Object.{Object}
use Rattle.gx_model.specs.declared.faults.Fault.{Fault}
use Rattle.gx_model.specs.declared.faults.Fault.TheVariants.{EmptyBranch, WrongKind}

-- the name of an object of this kind, or WrongKind
abbrev pub name_of_kind : Object → Kind → Result Name Fault
name_of_kind object kind = if same_kind object.kind kind then Ok object.name else Err WrongKind

-- a branch's commit, or EmptyBranch
abbrev pub branch_object : Option Name → Result Object Fault
branch_object None = Err EmptyBranch
branch_object (Some called) = Ok (record { kind = kind.Commit; name = called })

-- each of these names is that of a held commit
abbrev pub AreHeldCommits : Records → List Name → Type 0
AreHeldCommits repository names = AllByRecursion (λ called. Holds repository.records kind.Commit called.bytes) names

-- the parts of the commit object that a command makes of this tree and these parents; no object's name bears on its text
abbrev pub commit_object : {A : Type 0} → Name → List Name → CommitCommand A → CommitParts
commit_object tree parents commit =
    record { tree = tree.bytes; parents = map (λ n. n.bytes) parents; text = text_made (commit_parts commit) }

-- the parts of the tag object that a command makes of this commit
abbrev pub tag_object : {A : Type 0} → Name → TagCommand A → TagParts
tag_object object tag = record { object = object.bytes; name = tag.name.bytes.items; tagger = option_map (λ i. i.bytes.items) tag.tagger; message = tag.message.items }

module _ (name : Kind → Bytes → Bytes) where
  -- an object is a value that stands among these
  pub record IsOf (values : List Value) (value : Value) (object : Object) : Type 0 where
    pub stands : IsIn values value
    pub kind : object.kind ≡ kind_of name value
    pub named : object.name.bytes ≡ name_of name value

  -- a name is that of a commit that stands among these
  pub record IsCommitOf (values : List Value) (revision : Commit) (called : Name) : Type 0 where
    pub stands : IsIn values (commit_value revision)
    pub named : called.bytes ≡ name_of name (commit_value revision)

  -- and of a file map
  pub record IsTreeOf (values : List Value) (files : FileMap Bytes) (called : Name) : Type 0 where
    pub stands : IsIn values (tree_value files)
    pub named : called.bytes ≡ name_of name (tree_value files)

  -- and of a tag
  pub record IsTagOf (values : List Value) (tag : Tag) (called : Name) : Type 0 where
    pub stands : IsIn values (tag_value tag)
    pub named : called.bytes ≡ name_of name (tag_value tag)

  -- this name is that of these bytes, which stand among these
  pub record IsBlobOf (values : List Value) (asked : Name) (bytes : Bytes) (called : Name) : Type 0 where
    pub same : called ≡ asked
    pub stands : IsIn values (blob_value bytes)
    pub named : asked.bytes ≡ name_of name (blob_value bytes)
