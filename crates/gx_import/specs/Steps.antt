-- Parts of the replay's steps. Source: git-fast-import(1), "Commands".
use Rattle.std.specs.Prelude.{Option, Some, None, Ok, Err}
use Rattle.std.specs.Map.{lookup}
use Rattle.gx_model.specs.declared.objects.Kind.{Kind}
use Rattle.gx_model.specs.declared.faults.Fault.TheVariants.{EmptyBranch, UnknownObject}
use Rattle.gx_model.specs.Histories.{Records}
use Rattle.gx_model.specs.Records.HistoryOf.{value_of_name}
use Rattle.gx_model.specs.Records.Growth.{record_named}
use Rattle.gx_model.specs.Faults.{Given, ◌>>=◌}
use Rattle.gx_model.specs.Texts.{Bytes, same_bytes}
use Rattle.gx_model.specs.Histories.Values.{Commit, Value, commit_value}
use Rattle.gx_model.specs.Streams.Commands.{CommitIsh, Marked, Named}
use Rattle.gx_model.specs.Replay.{State, at, blob_bytes, committed_for, revision_value}
use Rattle.std.specs.Option.{ok_or}

-- what a branch of this name gives, and otherwise a revision
abbrev pub or_revision : Option (Option Commit) → Given Value → Given Value
or_revision None given = given
or_revision (Some revision) given = ok_or revision EmptyBranch >>= λ c. Ok (commit_value c)

-- the bytes of the blob that is held under a name
abbrev pub bytes_held : Records → Bytes → Given Bytes
bytes_held repository called = elim (record_named repository.records called) [ None ↦ Err UnknownObject | Some held ↦ blob_bytes (value_of_name repository.records called) ]

module _ (name : Kind → Bytes → Bytes) where
  -- the value that a commit-ish names: a branch's commit, a mark's value, or what a revision gives
  abbrev pub value_named : State → CommitIsh → Given Value
  value_named s (Marked number) = at s number
  value_named s (Named text) = or_revision (lookup (same_bytes text) s.branches) (revision_value name s text)

  -- the commit that is named, where one is
  abbrev pub optional_commit : State → Bytes → Option CommitIsh → Given (Option Commit)
  optional_commit s branch None = Ok None
  optional_commit s branch (Some named) = (committed_for name branch s named >>= λ c. Ok (Some c))
