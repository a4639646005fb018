-- The replay of a stream's commands on values. Source: git-fast-import(1), "Commands".
pub mod ProperReplays
use Rattle.std.specs.Prelude.{ℕ, ◌+◌, ◌-◌, Bool, true, false, ◌||◌, nat_eq, if◌then◌else◌, List, [], ◌∷◌, ◌++◌, length, map, Option, None, Some, codes}
use Rattle.std.specs.declared.result.Result.{Result}
use Rattle.std.specs.declared.result.Result.TheVariants.{Ok, Err}
use Rattle.std.specs.List.{list_all, fold}
use Rattle.std.specs.Map.{lookup}
use Rattle.std.specs.Option.{ok_or, unwrap_or}
use Rattle.std.specs.FinMap.Entries.{put}
use Rattle.gx_model.specs.declared.objects.Kind.{Kind}
use Rattle.gx_model.specs.declared.objects.Mode.{Mode}
use Rattle.gx_model.specs.declared.objects.Mode.TheVariants.{Gitlink}
use Rattle.gx_model.specs.declared.faults.Fault.{Fault}
use Rattle.gx_model.specs.declared.faults.Fault.TheVariants as fault
use Rattle.gx_model.specs.declared.features.Feature.TheVariants as features
use Rattle.gx_model.specs.declared.features.Features.{Features}
use Rattle.gx_model.specs.Streams.Commands as command
use Rattle.gx_model.specs.Texts.{Bytes, byte_cmp, same_bytes}
use Rattle.gx_model.specs.Texts.RefNames.{tag_ref}
use Rattle.gx_model.specs.Faults.{◌>>=◌}
use Rattle.gx_model.specs.Revisions.{revision_of}
use Rattle.gx_model.specs.Streams.Items.{items_of}
use Rattle.gx_model.specs.Streams.Commands.{Asks, Blob, Change, Checkpoint, Clear, Command, Commands, CommitIsh, CommitParts, Copy, DataRef, Done, Inline, Mark, Marked, Modify, Named, Object, OptionLine, Progress, Remove, Rename, Reset, TagParts, no_features}
use Rattle.gx_model.specs.Streams.Grammar.{commands_asked}
use Rattle.gx_model.specs.Histories.Files.{FileMap}
use Rattle.gx_model.specs.Histories.Edits.{copied, modified, removed, renamed}
use Rattle.gx_model.specs.Histories.Values.{Commit, CommitText, Tag, Value, blob_value, commit, commit_of, commit_value, commits_of, files_of, tag_value}
use Rattle.gx_model.specs.Histories.{History, Target, at_commit, at_tag, with_value}
use Rattle.gx_model.specs.Revisions.Denotation.{base_value, commit_in, ref_at, value_denoted}
use Rattle.gx_model.specs.Texts.Digits.{lower}
use Rattle.gx_model.specs.Revisions.Ranges.{reaches}

-- ---- the state of a replay

-- what a refusal leaves: the history at the last checkpoint, or at the start, and how many checkpoints were applied
pub record Kept : Type 0 where
  pub history : History
  pub checkpoints : ℕ

-- what a replay has made so far
pub record State : Type 0 where
  -- the values so far, with the refs as last published
  pub history : History
  pub kept : Kept
  -- what the checkpoints published so far
  pub published : List (Bytes × Target)
  -- the newest first
  pub marks : List (ℕ × Value)
  -- a branch's commit, or none
  pub branches : List (Bytes × Option Commit)
  -- the tags made, by their refs
  pub tags : List (Bytes × Tag)
  pub is_forced : Bool
  pub progress : Bytes
  -- how many values there were at the start
  pub held : ℕ

-- a replay that begins with this history
abbrev pub start : History → State
start h = record {
  history = h;
  kept = record { history = h; checkpoints = 0 };
  published = [];
  marks = [];
  branches = [];
  tags = [];
  is_forced = false;
  progress = [];
  held = length h.values;
}

-- a replay that begins with this history, where these features are asked for
abbrev pub begun : Features → History → State
begun f h = record (start h) { is_forced = f.force }

-- a value added to the history
abbrev pub added : Value → State → State
added v s = record s { history = record { values = with_value s.history.values v; refs = s.history.refs } }

-- a mark set, where one is asked for
abbrev pub marked : Option ℕ → Value → State → State
marked None v s = s
marked (Some n) v s = record s { marks = (n, v) ∷ s.marks }

-- a branch at a commit, or at none
abbrev pub on_branch : Bytes → Option Commit → State → State
on_branch n c s = record s { branches = put byte_cmp n c s.branches }

-- ---- what a commit-ish gives

-- the value of a mark, or UnknownMark
abbrev pub at : State → ℕ → Result Value Fault
at s n = ok_or (lookup (nat_eq n) s.marks) fault.UnknownMark

-- a commit or a reset peels a tag (`commit_in`); the target of a tag is a commit itself
abbrev pub commit_alone : Value → Result Commit Fault
commit_alone v = ok_or (commit_of v) fault.WrongKind

-- the commit that a ref holds, or that its tag names
abbrev pub peeled_at : Target → Commit
peeled_at (at_commit c) = c
peeled_at (at_tag t) = t.target

-- the commit of a branch of this name, where there is one, and otherwise what comes next
abbrev pub or_branch : Option (Option Commit) → Result Commit Fault → Result Commit Fault
or_branch None r = r
or_branch (Some c) r = ok_or c fault.EmptyBranch

-- for the commits and resets of a branch: itself is refused first
abbrev pub names_itself : Bytes → CommitIsh → Bool
names_itself b (Marked n) = false
names_itself b (Named x) = same_bytes b x

-- ---- what a file's content and a commit are made of

-- the bytes of a blob
abbrev pub blob_bytes : Value → Result Bytes Fault
blob_bytes (blob_value x) = Ok x
blob_bytes _ = Err fault.WrongKind

-- the first parent: that of `from`, or else the branch's own
abbrev pub own_commit : Option (Option Commit) → Option Commit
own_commit (Some c) = c
own_commit None = None

-- a missing author is the committer
abbrev pub text_made : CommitParts → CommitText
text_made c = record { author = unwrap_or c.author c.committer; committer = c.committer; headers = c.headers; message = c.message }

-- the files that a commit starts from
abbrev pub starting_files : Option Commit → FileMap Bytes
starting_files None = []
starting_files (Some c) = files_of c

-- the first parent, where there is one, and the others
abbrev pub with_first_parent : Option Commit → List Commit → List Commit
with_first_parent None cs = cs
with_first_parent (Some c) cs = c ∷ cs

-- a commit added, marked and put on its branch
abbrev pub committed_to : CommitParts → Commit → State → State
committed_to c v s = on_branch c.ref (Some v) (marked c.mark (commit_value v) (added (commit_value v) s))

-- ---- checkpoints, and the end

-- the new commit of a branch has the old one of its ref as an ancestor, or is that
abbrev pub is_forward : Option Target → Option Commit → Bool
is_forward (Some old) (Some new) = reaches new (peeled_at old)
is_forward _ _ = true

-- each branch is forward, or `force` was asked for
abbrev pub is_fast_forward : State → Bool
is_fast_forward s = s.is_forced || list_all (λ b. is_forward (ref_at s.history b.0) b.1) s.branches

-- refs overwritten by a branch with a commit
abbrev pub with_branch : List (Bytes × Target) → Bytes × Option Commit → List (Bytes × Target)
with_branch rs b = elim b.1 [ None ↦ rs | Some c ↦ put byte_cmp b.0 (at_commit c) rs ]

-- these refs, overwritten by the branches with a commit, and then by the tags
abbrev pub overwritten : State → List (Bytes × Target) → List (Bytes × Target)
overwritten s refs = fold (λ rs t. put byte_cmp t.0 (at_tag t.1) rs) (fold with_branch refs s.branches) s.tags

-- the refs after a checkpoint or the end: those last published, then the branches, then the tags
abbrev pub final_refs : State → List (Bytes × Target)
final_refs s = overwritten s s.history.refs

-- the history after a checkpoint or the end
abbrev pub final : State → History
final s = record { values = s.history.values; refs = final_refs s }

-- the state after a checkpoint: what it published is kept
abbrev pub checkpointed : State → State
checkpointed s = record s {
  history = final s;
  kept = record { history = final s; checkpoints = s.kept.checkpoints + 1 };
  published = overwritten s s.published;
}

-- what a checkpoint does
abbrev pub step_checkpoint : State → Result State Fault
step_checkpoint s = if is_fast_forward s then Ok (checkpointed s) else Err fault.NotFastForward

-- how many commands were read, values added, and refs published at a checkpoint or at the end, each name once
pub record Report : Type 0 where
  pub commands : ℕ
  pub objects : ℕ
  pub refs : ℕ

-- after n commands
abbrev pub report : ℕ → State → Report
report n s = record { commands = n; objects = length s.history.values - s.held; refs = length (overwritten s s.published) }

-- the new history, the progress text and the report; or a fault with its command's number, the progress text so far, and what is
-- kept
pub data Outcome : Type 0 where
  finished : History → Bytes → Report → Outcome
  refused : ℕ → Fault → Bytes → Kept → Outcome

-- n commands were read before; the end is the reader's: none, or a fault
abbrev pub ended : ℕ → State → Option Fault → Outcome
ended n s (Some e) = refused (n + 1) e s.progress s.kept
ended n s None = if is_fast_forward s then finished (final s) s.progress (report n s) else refused (n + 1) fault.NotFastForward s.progress s.kept

-- the name of values
module _ (name : Kind → Bytes → Bytes) where
  -- over the refs as last published and the values so far
  abbrev pub revision_value : State → Bytes → Result Value Fault
  revision_value s x = revision_of x >>= λ r. value_denoted name s.history r

  -- the commit that is named: a branch, a mark or a revision
  abbrev pub committed : (Value → Result Commit Fault) → State → CommitIsh → Result Commit Fault
  committed kind s (Marked n) = at s n >>= kind
  committed kind s (Named x) = or_branch (lookup (same_bytes x) s.branches) (revision_value s x >>= kind)

  -- the same for a command of a branch, which may not name itself
  abbrev pub committed_for : Bytes → State → CommitIsh → Result Commit Fault
  committed_for b s x = if names_itself b x then Err fault.FromItself else committed commit_in s x

  -- the commits that are named, or the first fault
  abbrev pub all_committed : Bytes → State → List CommitIsh → Result (List Commit) Fault
  all_committed b s [] = Ok []
  all_committed b s (x ∷ xs) = committed_for b s x >>= λ c. all_committed b s xs >>= λ cs. Ok (c ∷ cs)

  -- ---- changes: the state, where inline bytes are added, and the files

  -- a gitlink's digits are kept in lower case
  abbrev pub content : State → Mode → DataRef → Result (State × Bytes) Fault
  content s Gitlink (Object x) = Ok (s, map lower x)
  content s m (Mark n) = at s n >>= λ v. blob_bytes v >>= λ x. Ok (s, x)
  content s m (Object x) = base_value name s.history x >>= λ v. blob_bytes v >>= λ y. Ok (s, y)
  content s m (Inline x) = Ok (added (blob_value x) s, x)

  -- what one change makes of the files
  abbrev pub changed : State → FileMap Bytes → Change → Result (State × FileMap Bytes) Fault
  changed s f (Modify m d p) = content s m d >>= λ r. modified f p (m, r.1) >>= λ g. Ok (r.0, g)
  changed s f (Remove p) = Ok (s, removed f p)
  changed s f (Copy p q) = copied f p q >>= λ g. Ok (s, g)
  changed s f (Rename p q) = renamed f p q >>= λ g. Ok (s, g)
  changed s f Clear = Ok (s, [])

  -- what changes make of the files, in order
  abbrev pub all_changed : State → FileMap Bytes → List Change → Result (State × FileMap Bytes) Fault
  all_changed s f [] = Ok (s, f)
  all_changed s f (c ∷ cs) = changed s f c >>= λ r. all_changed r.0 r.1 cs

  -- ---- one command

  -- the first parent of a commit
  abbrev pub first_parent : State → CommitParts → Result (Option Commit) Fault
  first_parent s c = elim c.parent [
    | None ↦ Ok (own_commit (lookup (same_bytes c.ref) s.branches))
    | Some x ↦ committed_for c.ref s x >>= λ p. Ok (Some p)
  ]

  -- what a commit command does
  abbrev pub step_commit : State → CommitParts → Result State Fault
  step_commit s c = do
    first ← first_parent s c
    others ← all_committed c.ref s c.merges
    r ← all_changed s (starting_files first) c.changes
    Ok (committed_to c (commit r.1 (commits_of (with_first_parent first others)) (text_made c)) r.0)

  -- what a tag command does
  abbrev pub step_tag : State → TagParts → Result State Fault
  step_tag s t =
      (committed commit_alone s t.target >>= λ c.
      let v : Tag = record { target = c; name = t.name; tagger = t.tagger; message = t.message } in
      let s' : State = marked t.mark (tag_value v) (added (tag_value v) s) in
      Ok (record s' { tags = put byte_cmp (tag_ref t.name) v s'.tags }))

  -- what a reset command does
  abbrev pub step_reset : State → Bytes → Option CommitIsh → Result State Fault
  step_reset s b None = Ok (on_branch b None s)
  step_reset s b (Some x) = committed_for b s x >>= λ c. Ok (on_branch b (Some c) s)

  -- what one command does
  abbrev pub step : State → Command → Result State Fault
  step s (Blob b) = Ok (marked b.mark (blob_value b.bytes) (added (blob_value b.bytes) s))
  step s (command.Commit c) = step_commit s c
  step s (command.Tag t) = step_tag s t
  step s (Reset r) = step_reset s r.ref r.parent
  step s (Progress x) = Ok (record s { progress = s.progress ++ codes "progress " ++ x ++ 10 ∷ [] })
  step s (Asks features.Force) = Ok (record s { is_forced = true })
  -- the reader asks for the command `done` where the feature does
  step s (Asks features.Done) = Ok s
  step s Checkpoint = step_checkpoint s
  step s (Asks features.RawDates) = Ok s
  step s (OptionLine t) = Ok s
  step s Done = Ok s

  -- ---- all commands, of which n were read before

  -- what all commands give
  abbrev pub replayed : ℕ → State → List Command → Option Fault → Outcome
  replayed n s [] end = ended n s end
  replayed n s (c ∷ cs) end = elim (step s c) [ Ok t ↦ replayed (n + 1) t cs end | Err e ↦ refused (n + 1) e s.progress s.kept ]

  -- commands, from a history on, where these features are asked for
  abbrev pub replayed_asked : Features → History → Commands → Outcome
  replayed_asked f h cs = replayed 0 (begun f h) cs.list cs.fault

  -- the commands of a text that an end follows, or a failure, where these features are asked for
  abbrev pub replayed_text_asked : Features → History → Bytes → Bool → Outcome
  replayed_text_asked f h text fails = replayed_asked f h (commands_asked f (items_of text fails))

  -- the same with no features: commands
  abbrev pub replayed_commands : History → Commands → Outcome
  replayed_commands = replayed_asked no_features

  -- and the commands of a text
  abbrev pub replayed_text : History → Bytes → Bool → Outcome
  replayed_text = replayed_text_asked no_features

-- what the import of a text gives, where these features are asked for as if it began with them
unfoldable pub imported_asked : Features → (Kind → Bytes → Bytes) → History → Bytes → Bool → Outcome
imported_asked f name h text fails = replayed_text_asked name f h text fails

-- what the import of a text gives
abbrev pub imported : (Kind → Bytes → Bytes) → History → Bytes → Bool → Outcome
imported = imported_asked no_features
