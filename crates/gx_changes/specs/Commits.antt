-- What goes out of a commit, and of refs.
use Rattle.std.specs.Prelude.{◌≡◌, List, Result}
use Rattle.std.specs.List.{AllByRecursion}
use Rattle.gx_model.specs.declared.objects.Kind.{Kind}
use Rattle.gx_model.specs.declared.objects.Kind.TheVariants as kinds
use Rattle.gx_model.specs.Changes.{base_files, gone_paths, own_files}
use Rattle.gx_model.specs.Histories.{Records}
use Rattle.gx_model.specs.Histories.Values.{Commit, Value, files_of, list_of, parents_of}
use Rattle.gx_model.specs.Objects.{CommitParts}
use Rattle.gx_model.specs.Records.{parts_of_commit}
use Rattle.gx_model.specs.Records.Sound.{Holds}
use Rattle.gx_model.specs.Streams.Items.{Item}
use Rattle.gx_model.specs.Texts.{Bytes}
use Rattle.gx_object.specs.declared.name.Name.{Name}
use Rattle.gx_rev.specs.Objects.{IsHeldAs, commit_at}
use Rattle.gx_differences.specs.Differences.{HaveFiles}
use Rattle.gx_differences.specs.declared.differences.Differences.{Differences}
use Rattle.gx_sending.specs.Files.{contents_at}
use Rattle.gx_sending.specs.Marks.{Adds, HasWritten}
use Rattle.gx_sending.specs.declared.fault.SendFault.{SendFault}
use Rattle.gx_sending.specs.declared.written.Written.{Written}

-- the parents of a commit are held
abbrev pub HoldsParents : Records → CommitParts → Type 0
HoldsParents repository parts = AllByRecursion (Holds repository.records kinds.Commit) parts.parents

-- these are the parts of the held commit of a name
pub record IsCommitOf (name : Kind → Bytes → Bytes) (view : CommitParts) (repository : Records) (called : Name) : Type 0 where
  pub held : IsHeldAs kinds.Commit repository called
  pub parts : view ≡ parts_of_commit name (commit_at repository called)

-- these are the parts of a held commit
abbrev pub IsPartsOf : (Kind → Bytes → Bytes) → CommitParts → Records → Type 0
IsPartsOf name parts repository = (called : Name) × IsCommitOf name parts repository called

-- this is what differs between a commit's files and those of its first parent
pub record AreOwn {A : Type 0} (repository : Records) (c : Commit) (found : Differences A) : Type 0 where
  pub held : HaveFiles found.files.items repository
  pub files : contents_at repository found.files.items ≡ own_files c
  pub gone : found.gone.items ≡ gone_paths (base_files (list_of (parents_of c))) (files_of c)

-- the same of the commit that has these parts
abbrev pub OfItsParts : {A : Type 0} → (Kind → Bytes → Bytes) → CommitParts → Records → Differences A → Type 0
OfItsParts name parts repository found = (called : Name) → IsCommitOf name parts repository called → AreOwn repository (commit_at repository called) found

-- Items go out, and no more values are written.
abbrev pub AddsItems : {W A : Type 0} → (Records → List Value → List Item) → Written W A → Written W A → Result (Unit {0}) SendFault → Records → Type 0
AddsItems items old new result repository = (ws : List Value) → HasWritten repository ws old → Adds ws (items repository ws) old new result repository
