-- Worked rows on features that are asked for as if a stream began with them.
use Rattle.std.specs.Prelude.{◌≡◌, ℕ, true, false, List, [], ◌∷◌, ◌++◌, codes, Option, Some, None, refl}
use Rattle.std.specs.Fmt.{digits}
use Rattle.gx_model.specs.declared.faults.Fault.{Fault}
use Rattle.gx_model.specs.declared.faults.Fault.TheVariants as fault
use Rattle.gx_model.specs.declared.features.Features.{Features}
use Rattle.gx_model.specs.Texts.{Bytes, cut_at}
use Rattle.gx_model.specs.Texts.Idents.{is_ident}
use Rattle.gx_model.specs.Texts.Paths.{char_at, unquote_within, quoted_of}
use Rattle.gx_model.specs.Streams.Items.{counted_block, lines_before, delimited, first_line, first_of, read_upto, items_of}
use Rattle.gx_model.specs.Streams.Grammar.{unsigned_in, item_after_in, modify_at, two_paths, change_at, changes_within, merges_within, blob_at, commit_at, links_at, tag_at, reset_at, command_at, commands_within}
use Rattle.gx_model.specs.Streams.Lines.{rest_line_in, block_in, mark_of, commit_ish_of, last_path, source_path}
use Rattle.gx_model.specs.Streams.Spelling.{text_of_lines}
use Rattle.gx_model.specs.Revisions.{revision_of}
use Rattle.gx_model.specs.Revisions.Denotation.{denoted}
use Rattle.gx_model.specs.Objects.Naming.{short_name}
use Rattle.gx_model.specs.Histories.{History, no_history}
use Rattle.gx_model.specs.Replay.{Outcome, imported_asked}
use Rattle.gx_model.specs.Rows.RowTexts.{acceptance, history_after, history_of_lines, imported_asking, imported_lines, imported_to, kept_after, refusal}

abbrev only_done : Features
only_done = record { done = true; force = false }

abbrev only_force : Features
only_force = record { done = false; force = true }

-- a commit on main, with a text that tells it from others
abbrev commit_of : Bytes → List Bytes
commit_of text = codes "commit refs/heads/main" ∷ codes "committer A <a@x> 1 +0000" ∷ codes "data 2" ∷ text ∷ []

abbrev two_commits : List Bytes
two_commits = commit_of (codes "v1") ++ commit_of (codes "v2")

abbrev with_done : List Bytes → List Bytes
with_done ls = ls ++ codes "done" ∷ []

-- what an import into nothing is refused for, where `done` is asked for
abbrev refused_asking_done : List Bytes → Option (ℕ × Fault)
refused_asking_done ls = refusal (imported_asking only_done no_history ls)

pub record DoneRows : Type 0 where
  -- a stream that ends without `done` is refused at the number behind its last command, and with it accepted
  pub missing : refused_asking_done two_commits ≡ Some (3, fault.MissingDone)
  pub there : imported_asking only_done no_history (with_done two_commits) ≡ imported_lines (with_done two_commits)
  pub none : refused_asking_done [] ≡ Some (1, fault.MissingDone)
  -- the stream may ask for it, too, once or twice
  pub twice : acceptance (imported_asking only_done no_history (with_done (codes "feature done" ∷ codes "feature done" ∷ []))) ≡ Some ([], record { commands = 3; objects = 0; refs = 0 })
  pub both_missing : refused_asking_done (codes "feature done" ∷ two_commits) ≡ Some (4, fault.MissingDone)
  -- options of the stream stand before every other command of it
  pub early : refused_asking_done (with_done (codes "option git quiet" ∷ codes "feature force" ∷ two_commits)) ≡ None
  pub late : refused_asking_done (with_done (commit_of (codes "v1") ++ codes "feature force" ∷ [])) ≡ Some (2, fault.LateOption)
  -- another fault comes first
  pub unknown : refused_asking_done (two_commits ++ codes "foo" ∷ []) ≡ Some (3, fault.UnknownCommand)
  pub failed_read : refusal (imported_asked only_done short_name no_history (text_of_lines two_commits) true) ≡ Some (2, fault.ReadFailed)
  -- what a checkpoint published is kept
  pub kept : kept_after (imported_asking only_done no_history (commit_of (codes "v1") ++ codes "checkpoint" ∷ [])) ≡ Some (record { history = history_of_lines (commit_of (codes "v1")); checkpoints = 1 })

pub done_rows : DoneRows
unfolding char_at unsigned_in item_after_in rest_line_in block_in cut_at is_ident unquote_within quoted_of mark_of commit_ish_of last_path source_path modify_at two_paths change_at changes_within merges_within blob_at commit_at links_at tag_at reset_at command_at commands_within counted_block lines_before delimited first_line first_of read_upto items_of digits revision_of imported_asked denoted short_name
done_rows = record { missing = refl; there = refl; none = refl; twice = refl; both_missing = refl; early = refl; late = refl; unknown = refl; failed_read = refl; kept = refl }

abbrev published : History
published = history_of_lines (commit_of (codes "v1"))

-- a commit without a parent, which is not the one that is published
abbrev other : List Bytes
other = commit_of (codes "v2")

-- the import of it by force
abbrev by_force : Outcome
by_force = imported_asking only_force published other

pub record ForceRows : Type 0 where
  -- a published branch loses its commit by force alone
  pub refused_without : refusal (imported_to published other) ≡ Some (2, fault.NotFastForward)
  pub as_if_asked : history_after by_force ≡ history_after (imported_to published (codes "feature force" ∷ other))
  pub report : acceptance by_force ≡ Some ([], record { commands = 1; objects = 1; refs = 1 })
  pub at_checkpoint : acceptance (imported_asking only_force no_history (commit_of (codes "v1") ++ codes "checkpoint" ∷ codes "reset refs/heads/main" ∷ other)) ≡ Some ([], record { commands = 4; objects = 3; refs = 1 })
  -- the next import has none
  pub refused_again : refusal (imported_to (history_after by_force) (commit_of (codes "v3"))) ≡ Some (2, fault.NotFastForward)
  -- one isn't the other
  pub done_is_no_force : refusal (imported_asking only_done published (with_done other)) ≡ Some (3, fault.NotFastForward)
  pub force_needs_no_done : refusal (imported_asking only_force no_history two_commits) ≡ None
  pub both : refusal (imported_asking (record { done = true; force = true }) published other) ≡ Some (2, fault.MissingDone)

pub force_rows : ForceRows
unfolding char_at unsigned_in item_after_in rest_line_in block_in cut_at is_ident unquote_within quoted_of mark_of commit_ish_of last_path source_path modify_at two_paths change_at changes_within merges_within blob_at commit_at links_at tag_at reset_at command_at commands_within counted_block lines_before delimited first_line first_of read_upto items_of digits revision_of imported_asked denoted short_name
force_rows = record { refused_without = refl; as_if_asked = refl; report = refl; at_checkpoint = refl; refused_again = refl; done_is_no_force = refl; force_needs_no_done = refl; both = refl }
