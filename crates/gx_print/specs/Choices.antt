-- Which of the commits that range words list are kept, by their parts. Source: git-rev-list(1), "Commit Limiting": `--merges`,
-- `--no-merges`, `--since-as-filter` and `--until`.
use Rattle.std.specs.Prelude.{ℕ, Bool, true, not, ◌&&◌, nat_le, nat_lt, if◌then◌else◌, length, unwrap_or, Option, Some, None}
use Rattle.gx_model.specs.declared.objects.Kind.{Kind}
use Rattle.gx_model.specs.Texts.{Bytes}
use Rattle.gx_model.specs.Texts.Numbers.{decimal_of}
use Rattle.gx_model.specs.Histories.Values.{Commit}
use Rattle.gx_model.specs.Objects.{CommitParts}
use Rattle.gx_model.specs.Records.{parts_of_commit}
use Rattle.gx_asks.specs.declared.question.CommitFilter.{CommitFilter}
use Rattle.gx_print.specs.Identities.{seconds_in}

-- when a commit was made: the seconds of its committer
abbrev pub made_at : Bytes → ℕ
made_at committer = unwrap_or (decimal_of (seconds_in committer)) 0

-- a merge has two parents or more
abbrev pub is_merge : CommitParts → Bool
is_merge parts = nat_lt 1 (length parts.parents)

-- merges are kept, or other commits
abbrev pub is_of_kind : CommitFilter → Bool → Bool
is_of_kind only merge = if merge then not only.no_merges else not only.merges

-- at these seconds or later
abbrev pub is_since : Option ℕ → ℕ → Bool
is_since None seconds = true
is_since (Some first) seconds = nat_le first seconds

-- at these seconds or earlier
abbrev pub is_until : Option ℕ → ℕ → Bool
is_until None seconds = true
is_until (Some last) seconds = nat_le seconds last

abbrev pub is_of_time : CommitFilter → ℕ → Bool
is_of_time only seconds = is_since only.since seconds && is_until only.until seconds

-- whether a commit of these parts is kept
abbrev pub passes : CommitFilter → CommitParts → Bool
passes only parts = is_of_kind only (is_merge parts) && is_of_time only (made_at parts.text.committer)

-- whether a commit is
abbrev pub keeps : (Kind → Bytes → Bytes) → CommitFilter → Commit → Bool
keeps name only made = passes only (parts_of_commit name made)
