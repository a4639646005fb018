-- The commands of a stream. Source: git-fast-import(1), "Commands".
use Rattle.std.specs.Prelude.{ℕ, suc, false, List, length, Option}
use Rattle.gx_model.specs.declared.faults.Fault.{Fault}
use Rattle.gx_model.specs.declared.objects.Mode.{Mode}
use Rattle.gx_model.specs.Texts.{Bytes}
use Rattle.gx_model.specs.Texts.Paths.{Path}
use Rattle.gx_model.specs.declared.features.Feature.{Feature}
use Rattle.gx_model.specs.declared.features.Features.{Features}

-- no feature is asked for as if a stream began with it
abbrev pub no_features : Features
no_features = record { done = false; force = false }

-- what names a commit: a mark, or a text that is read when the command is applied
pub data CommitIsh : Type 0 where
  Marked : ℕ → CommitIsh
  Named : Bytes → CommitIsh

-- what a modify takes its content from
pub data DataRef : Type 0 where
  Mark : ℕ → DataRef
  Object : Bytes → DataRef
  Inline : Bytes → DataRef

-- a change of the files of a commit
pub data Change : Type 0 where
  Modify : Mode → DataRef → Path → Change
  Remove : Path → Change
  Copy : Path → Path → Change
  Rename : Path → Path → Change
  Clear : Change

-- the parts of a blob command
pub record BlobParts : Type 0 where
  pub mark : Option ℕ
  pub bytes : Bytes

-- the parts of a commit command; a stream tells no header but that of an encoding
pub record CommitParts : Type 0 where
  pub ref : Bytes
  pub mark : Option ℕ
  pub author : Option Bytes
  pub committer : Bytes
  pub headers : Bytes
  pub message : Bytes
  pub parent : Option CommitIsh
  pub merges : List CommitIsh
  pub changes : List Change

-- the parts of a tag command
pub record TagParts : Type 0 where
  pub name : Bytes
  pub mark : Option ℕ
  pub target : CommitIsh
  pub tagger : Option Bytes
  pub message : Bytes

-- the parts of a reset command
pub record ResetParts : Type 0 where
  pub ref : Bytes
  pub parent : Option CommitIsh

-- a command of a stream
pub data Command : Type 0 where
  Blob : BlobParts → Command
  Commit : CommitParts → Command
  Tag : TagParts → Command
  Reset : ResetParts → Command
  Checkpoint : Command
  Progress : Bytes → Command
  Asks : Feature → Command
  OptionLine : Bytes → Command
  Done : Command

-- the commands that are still to come, and the fault after them, if there is one
pub record Commands : Type 0 where
  pub list : List Command
  pub fault : Option Fault

-- the number of the command that the fault belongs to, from 1: the commands read before it, and one
abbrev pub faulty_command : Commands → ℕ
faulty_command cs = suc (length cs.list)
