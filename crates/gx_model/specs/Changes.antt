-- The export text of changes: each commit is what differs from its first parent, and goes out on a ref that reaches it.
-- Source: git-fast-export(1) and git-fast-import(1); the exact text is this project's.
use Rattle.std.specs.Prelude.{Bool, true, false, not, ◌&&◌, ◌||◌, nat_eq, if◌then◌else◌, List, [], ◌∷◌, ◌++◌, map, reverse, Option, None, Some, is_some, codes}
use Rattle.std.specs.List.{filter, flat_map, fold, list_all, list_any, starts_with}
use Rattle.gx_model.specs.declared.objects.Kind.{Kind}
use Rattle.gx_model.specs.declared.features.Feature.TheVariants as features
use Rattle.gx_model.specs.Texts.{Bytes, same_bytes}
use Rattle.gx_model.specs.Texts.Paths.{Path}
use Rattle.gx_model.specs.Streams.Commands.{Asks, Change, Command, CommitIsh, Done, Named, Remove}
use Rattle.gx_model.specs.Histories.Files.{FileMap, Leaf, file_at}
use Rattle.gx_model.specs.Histories.Values.{Commit, Value, commit_value, files_of, list_of, parents_of, same_mode}
use Rattle.gx_model.specs.Histories.{History, Target, is_in}
use Rattle.gx_model.specs.Objects.{hex}
use Rattle.gx_model.specs.Records.{name_of}
use Rattle.gx_model.specs.Revisions.Ranges.{Word, listing, reaches, span}
use Rattle.gx_model.specs.Replay.{peeled_at}
use Rattle.gx_model.specs.Export.{blob_commands, carrier, command_items, commit_on, contents, file_change, is_reached, items_text, marked_in, reached_commits, ref_by, reset_before, to_nothing, with_blobs}

-- ---- the ref that a commit goes out on

-- the names of the refs that reach a commit, in byte order
abbrev pub reaching : List (Bytes × Target) → Commit → List Bytes
reaching refs c = map (λ r. r.0) (filter (λ r. reaches (peeled_at r.1) c) refs)

-- a ref below refs/heads/
abbrev pub is_branch : Bytes → Bool
is_branch r = starts_with nat_eq r (codes "refs/heads/")

-- the first of some names, or the carrier
abbrev pub first_or_carrier : List Bytes → Bytes
first_or_carrier [] = carrier
first_or_carrier (r ∷ rs) = r

-- the first branch that reaches a commit, or else the first ref that does, or else the carrier
abbrev pub commit_ref : List (Bytes × Target) → Commit → Bytes
commit_ref refs c = first_or_carrier (filter is_branch (reaching refs c) ++ reaching refs c)

-- ---- what differs

-- the files of a first parent: none without one
abbrev pub base_files : List Commit → FileMap Bytes
base_files [] = []
base_files (p ∷ ps) = files_of p

-- whether this is a mode and these bytes
abbrev pub is_this_leaf : Option (Leaf Bytes) → Leaf Bytes → Bool
is_this_leaf None leaf = false
is_this_leaf (Some old) leaf = same_mode old.0 leaf.0 && same_bytes old.1 leaf.1

-- the paths of files that are gone, in byte order
abbrev pub gone_paths : FileMap Bytes → FileMap Bytes → List Path
gone_paths old new = map (λ e. e.0) (filter (λ e. not (is_some (file_at new e.0))) old)

-- the files that are new, or of another mode, or of other bytes, in byte order
abbrev pub changed_files : FileMap Bytes → FileMap Bytes → FileMap Bytes
changed_files old new = filter (λ e. not (is_this_leaf (file_at old e.0) e.1)) new

-- the files of a commit that differ from its first parent's
abbrev pub own_files : Commit → FileMap Bytes
own_files c = changed_files (base_files (list_of (parents_of c))) (files_of c)

-- each file that is gone, and then each that differs
abbrev pub commit_changes : List Value → Commit → List Change
commit_changes ws c =
    map Remove (gone_paths (base_files (list_of (parents_of c))) (files_of c)) ++ map (file_change ws) (own_files c)

-- ---- what is written

-- what was written, with a commit and the blobs of its files that differ
abbrev pub with_changes : List Value → Commit → List Value
with_changes ws c = commit_value c ∷ with_blobs ws (contents (own_files c))

-- the values that all commits write, the newest first
abbrev pub all_changes : List Commit → List Value
all_changes cs = fold with_changes [] cs

-- the reset of the carrier behind the commits, where one went out on it
abbrev pub carrier_reset : List (Bytes × Target) → List Commit → List Command
carrier_reset refs cs = if list_all (is_reached refs) cs then [] else to_nothing carrier ∷ []

-- whether a range word includes or excludes a commit
abbrev pub is_in_range : List Word → Commit → Bool
is_in_range words c = list_any (λ w. (span w).included c || (span w).excluded c) words

-- the refs that a range sets: their commits are sent, or are excluded
abbrev pub set_refs : History → List Word → List (Bytes × Target)
set_refs h words = filter (λ r. is_in_range words (peeled_at r.1)) h.refs

-- commands behind `feature done` and before `done`, or without the two
abbrev pub closed_by : Bool → List Command → List Command
closed_by true cs = Asks features.Done ∷ (cs ++ Done ∷ [])
closed_by false cs = cs

-- the name of values
module _ (name : Kind → Bytes → Bytes) where
  -- The digits of a commit's name and `^0`, which is that commit. No ref name has a `^`, so that no ref is read in its place.
  abbrev pub commit_revision : Commit → Bytes
  commit_revision c = hex (name_of name (commit_value c)) ++ codes "^0"

  -- what names a commit: its mark if it was written, or else the revision of its name
  abbrev pub named_in : List Value → Commit → CommitIsh
  named_in ws c = if is_in ws (commit_value c) then marked_in ws (commit_value c) else Named (commit_revision c)

  -- the commands of a commit: the blobs of its files that differ, the reset before one without parents, and itself
  abbrev pub commit_with_changes : List (Bytes × Target) → List Value → Commit → List Command
  commit_with_changes refs ws c =
      let us = with_blobs ws (contents (own_files c)) in
      blob_commands ws (contents (own_files c))
      ++ (reset_before (commit_ref refs c) (list_of (parents_of c)) ++ (commit_on (commit_ref refs c) (named_in us) (commit_changes us c) us c ∷ []))

  -- the commands of all commits
  abbrev pub commits_with_changes : List (Bytes × Target) → List Value → List Commit → List Command
  commits_with_changes refs ws [] = []
  commits_with_changes refs ws (c ∷ cs) = commit_with_changes refs ws c ++ commits_with_changes refs (with_changes ws c) cs

  -- the commands of some commits, and then of the refs that are set
  abbrev pub sending_commands : List Commit → List (Bytes × Target) → List Command
  sending_commands cs refs =
      commits_with_changes refs [] cs ++ (carrier_reset refs cs ++ map (ref_by (named_in (all_changes cs))) refs)

  -- the commands of a history's export of changes
  abbrev pub changes_commands : Bool → History → List Command
  changes_commands closed h = closed_by closed (sending_commands (reached_commits h) h.refs)

  -- the commands of an export of the changes that range words list
  abbrev pub range_commands : Bool → History → List Word → List Command
  range_commands closed h words = closed_by closed (sending_commands (reverse (listing h words)) (set_refs h words))

  -- the text of a history's export of changes
  abbrev pub changes_text : Bool → History → Bytes
  changes_text closed h = items_text (flat_map command_items (changes_commands closed h))

  -- the text of an export of the changes that range words list
  abbrev pub range_text : Bool → History → List Word → Bytes
  range_text closed h words = items_text (flat_map command_items (range_commands closed h words))
