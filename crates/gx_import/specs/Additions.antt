-- The values that commands add to a history, each after its parts, up to the fault of one that is refused.
-- Source: git-fast-import(1), "Commands", and gitglossary(7), "object database".
use Rattle.std.specs.Prelude.{◌≡◌, ◌⊎◌, ℕ, ◌+◌, List, [], ◌∷◌, ◌++◌, map, Option, None, Result, Ok, Err}
use Rattle.gx_model.specs.declared.objects.Kind.{Kind}
use Rattle.gx_model.specs.declared.faults.Fault.{Fault}
use Rattle.gx_model.specs.Texts.{Bytes}
use Rattle.gx_model.specs.Histories.Files.{FileMap}
use Rattle.gx_model.specs.Histories.Values.{Commit, Tag, Value, blob_value, commit, commit_value, commits_of, tag_value, tree_value}
use Rattle.gx_model.specs.Histories.{with_one}
use Rattle.gx_model.specs.Records.Growth.{all_trees, with_values}
use Rattle.gx_model.specs.Streams.Commands as command
use Rattle.gx_model.specs.Streams.Commands.{Asks, Blob, Change, Checkpoint, Command, CommitParts, DataRef, Done, Inline, Modify, OptionLine, Progress, Reset, TagParts}
use Rattle.gx_model.specs.Replay.{State, all_changed, all_committed, changed, commit_alone, committed, first_parent, starting_files, step, text_made, with_first_parent}

-- the blob that a file's content adds
abbrev pub content_added : DataRef → List Value
content_added (Inline bytes) = blob_value bytes ∷ []
content_added _ = []

-- the blob that a change adds
abbrev pub blob_added : Change → List Value
blob_added (Modify mode content path) = content_added content
blob_added _ = []

-- a file map and its sub-maps, those first, and then a commit with these files
abbrev pub commit_added : FileMap Bytes → Commit → List Value
commit_added files made = map tree_value (all_trees files) ++ commit_value made ∷ []

-- a value last in the history, unless it stands there
abbrev pub added_alone : Value → State → State
added_alone v s = record s { history = record { values = with_one s.history.values v; refs = s.history.refs } }

-- the commit that a command makes of these parents and files
abbrev pub commit_made : CommitParts → Option Commit → List Commit → FileMap Bytes → Commit
commit_made c first others files = commit files (commits_of (with_first_parent first others)) (text_made c)

-- the tag that a command makes of this commit
abbrev pub tag_made : Commit → TagParts → Tag
tag_made target t = record { target = target; name = t.name; tagger = t.tagger; message = t.message }

-- what comes of a step that isn't refused
abbrev pub unless_refused : {X : Type 0} → (X → List Value) → Result X Fault → List Value
unless_refused next (Ok x) = next x
unless_refused next (Err e) = []

module _ (name : Kind → Bytes → Bytes) where
  -- the blobs that changes add, up to the first that is refused
  abbrev pub blobs_added : State → FileMap Bytes → List Change → List Value
  blobs_added s files [] = []
  blobs_added s files (c ∷ cs) = blob_added c ++ unless_refused (λ r. blobs_added r.0 r.1 cs) (changed name s files c)

  -- its blobs, its trees and itself
  abbrev pub values_made : State → CommitParts → Option Commit → List Commit → List Value
  values_made s c first others =
      blobs_added s (starting_files first) c.changes
      ++ unless_refused (λ r. commit_added r.1 (commit_made c first others r.1)) (all_changed name s (starting_files first) c.changes)

  -- what a commit command adds
  abbrev pub added_by_commit : State → CommitParts → List Value
  added_by_commit s c = unless_refused (λ first. unless_refused (values_made s c first) (all_committed name c.ref s c.merges)) (first_parent name s c)

  -- what a tag command adds
  abbrev pub added_by_tag : State → TagParts → List Value
  added_by_tag s t = unless_refused (λ c. tag_value (tag_made c t) ∷ []) (committed name commit_alone s t.target)

  -- what a command adds
  abbrev pub values_added : State → Command → List Value
  values_added s (Blob b) = blob_value b.bytes ∷ []
  values_added s (command.Commit c) = added_by_commit s c
  values_added s (command.Tag t) = added_by_tag s t
  values_added s (Reset r) = []
  values_added s (Progress x) = []
  values_added s (Asks f) = []
  values_added s Checkpoint = []
  values_added s (OptionLine t) = []
  values_added s Done = []

  -- one of these values is new when it is added, and has the name of another one
  abbrev pub Clash : List Value → List Value → Type 0
  Clash held values = with_values name held values ≡ None

  -- n commands were replayed; of these that follow, the one with this number adds a value with the name of another one
  abbrev pub ClashesAt : ℕ → State → List Command → ℕ → Type 0
  ClashesAt n s [] number = ⊥
  ClashesAt n s (c ∷ cs) number =
      ((number ≡ n + 1) × Clash s.history.values (values_added s c))
      ⊎ elim (step name s c) [ Ok t ↦ ClashesAt (n + 1) t cs number | Err e ↦ ⊥ ]
