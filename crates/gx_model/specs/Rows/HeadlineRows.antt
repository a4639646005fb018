-- Worked rows on what records list for range words, and on the commands before the last checkpoint.
use Rattle.std.specs.Prelude.{◌≡◌, ℕ, List, [], ◌∷◌, ◌++◌, map, replicate, codes, None, Some, Ok, Err, refl}
use Rattle.std.specs.declared.result.Result.{Result}
use Rattle.std.specs.Map.{lookup}
use Rattle.std.specs.Option.{ok_or}
use Rattle.gx_model.specs.declared.faults.Fault.TheVariants as fault
use Rattle.gx_model.specs.declared.objects.Kind.{Kind}
use Rattle.gx_model.specs.declared.objects.Kind.TheVariants as kind
use Rattle.gx_model.specs.Texts.{Bytes, same_bytes}
use Rattle.gx_model.specs.Faults.{Given, ◌>>=◌}
use Rattle.gx_model.specs.Histories.Values.{CommitText}
use Rattle.gx_model.specs.Histories.{Record, no_history}
use Rattle.gx_model.specs.Objects.{commit_text, tag_text}
use Rattle.gx_model.specs.Objects.Naming.{short_name}
use Rattle.gx_model.specs.Revisions.{AllParents, Alone, Apart, Between, RangeWord, Revision, WithAncestors, WithoutAncestors, WithoutOne}
use Rattle.gx_model.specs.Revisions.Ranges.{WordFault}
use Rattle.gx_model.specs.Streams.Commands.{Checkpoint, Command, Commit, Done, Marked, Progress, Reset, Tag}
use Rattle.gx_model.specs.Replay.{Outcome, replayed_commands}
use Rattle.gx_model.specs.Laws.RefusedReplays.{before_checkpoint}
use Rattle.gx_model.specs.Laws.ShownRecords.{commit_held, listed_held}
use Rattle.gx_model.specs.Rows.RowTexts.{history_after, kept_after, refusal}

-- ---- what range words list

-- the name of 20 bytes that ends in this one
abbrev called : ℕ → Bytes
called n = replicate 19 17 ++ n ∷ []

abbrev held : ℕ → Kind → Bytes → Record
held n of_kind body = record { name = called n; kind = of_kind; body = body }

abbrev text : CommitText
text = record { author = codes "A <a@x> 1 +0000"; committer = codes "A <a@x> 1 +0000"; headers = []; message = codes "m" }

abbrev commit_of : List ℕ → Bytes
commit_of parents = commit_text (record { tree = called 1; parents = map called parents; text = text })

-- an empty tree; roots p and q; y with the parents p and q; z above y; r, a root of its own; and a tag on z
abbrev records : List Record
records =
    held 1 kind.Tree []
    ∷ held 2 kind.Commit (commit_of [])
    ∷ held 3 kind.Commit (commit_of [])
    ∷ held 4 kind.Commit (commit_of (2 ∷ 3 ∷ []))
    ∷ held 5 kind.Commit (commit_of (4 ∷ []))
    ∷ held 6 kind.Commit (commit_of [])
    ∷ held 7 kind.Tag (tag_text (record { object = called 5; name = codes "v"; tagger = None; message = [] }))
    ∷ []

abbrev named : List (Bytes × Bytes)
named =
    (codes "t", called 1) ∷ (codes "p", called 2) ∷ (codes "q", called 3) ∷ (codes "y", called 4) ∷ (codes "z", called 5)
    ∷ (codes "r", called 6) ∷ (codes "v", called 7) ∷ []

abbrev rev : Bytes → Revision
rev x = record { base = x; suffixes = []; path = None }

-- the commit that a revision of one of these words gives
abbrev given : Revision → Given Bytes
given r = ok_or (lookup (same_bytes r.base) named) fault.UnknownRef >>= commit_held records

abbrev lists : List RangeWord → Result (List Bytes) WordFault
lists words = listed_held records given words

abbrev are : List ℕ → Result (List Bytes) WordFault
are ns = Ok (map called ns)

pub record RangeRows : Type 0 where
  -- the newest first; a tag's commit
  pub ancestors : lists (WithAncestors (rev (codes "v")) ∷ []) ≡ are (5 ∷ 4 ∷ 3 ∷ 2 ∷ [])
  pub without : lists (WithAncestors (rev (codes "z")) ∷ WithoutAncestors (rev (codes "q")) ∷ []) ≡ are (5 ∷ 4 ∷ 2 ∷ [])
  pub between : lists (Between (rev (codes "p")) (rev (codes "y")) ∷ []) ≡ are (4 ∷ 3 ∷ [])
  pub backward : lists (Between (rev (codes "y")) (rev (codes "p")) ∷ []) ≡ are []
  pub apart : lists (Apart (rev (codes "r")) (rev (codes "q")) ∷ []) ≡ are (6 ∷ 3 ∷ [])
  pub apart_above : lists (Apart (rev (codes "p")) (rev (codes "y")) ∷ []) ≡ are (4 ∷ 3 ∷ [])
  pub parents : lists (AllParents (rev (codes "y")) ∷ []) ≡ are (3 ∷ 2 ∷ [])
  pub alone : lists (Alone (rev (codes "y")) ∷ []) ≡ are (4 ∷ [])
  pub first_parent : lists (WithoutOne (rev (codes "y")) 1 ∷ []) ≡ are (4 ∷ 3 ∷ [])
  pub second_parent : lists (WithoutOne (rev (codes "y")) 2 ∷ []) ≡ are (4 ∷ 2 ∷ [])
  pub both : lists (WithAncestors (rev (codes "r")) ∷ WithAncestors (rev (codes "q")) ∷ []) ≡ are (6 ∷ 3 ∷ [])
  pub nothing : lists [] ≡ are []
  pub no_parent : lists (WithoutOne (rev (codes "y")) 3 ∷ []) ≡ Err (record { word = 1; fault = fault.NoParent })
  pub tree : lists (WithAncestors (rev (codes "y")) ∷ Alone (rev (codes "t")) ∷ []) ≡ Err (record { word = 2; fault = fault.WrongKind })
  pub unknown : lists (Between (rev (codes "y")) (rev (codes "x")) ∷ []) ≡ Err (record { word = 1; fault = fault.UnknownRef })

pub range_rows : RangeRows
range_rows = record {
  ancestors = refl;
  without = refl;
  between = refl;
  backward = refl;
  apart = refl;
  apart_above = refl;
  parents = refl;
  alone = refl;
  first_parent = refl;
  second_parent = refl;
  both = refl;
  nothing = refl;
  no_parent = refl;
  tree = refl;
  unknown = refl;
}

-- ---- the commands before the last checkpoint

abbrev says : Bytes → Command
says x = Progress x

abbrev root : Bytes → ℕ → Command
root ref mark =
    Commit (record {
      ref = ref;
      mark = Some mark;
      author = None;
      committer = codes "A <a@x> 1 +0000";
      headers = [];
      message = ref;
      parent = None;
      merges = [];
      changes = [];
    })

-- two roots, a tag on the first, and the second on a branch of the tag's ref
abbrev tag_over_branch : List Command
tag_over_branch =
    root (codes "refs/heads/a") 1
    ∷ root (codes "refs/heads/b") 2
    ∷ Tag (record { name = codes "v"; mark = None; target = Marked 1; tagger = None; message = [] })
    ∷ Reset (record { ref = codes "refs/tags/v"; parent = Some (Marked 2) })
    ∷ []

abbrev replay : List Command → Outcome
replay commands = replayed_commands short_name no_history (record { list = commands; fault = None })

pub record CheckpointRows : Type 0 where
  pub none : before_checkpoint (says (codes "a") ∷ Done ∷ []) ≡ None
  pub first : before_checkpoint (Checkpoint ∷ says (codes "a") ∷ []) ≡ Some []
  pub last : before_checkpoint (says (codes "a") ∷ Checkpoint ∷ says (codes "b") ∷ Checkpoint ∷ says (codes "c") ∷ [])
      ≡ Some (says (codes "a") ∷ Checkpoint ∷ says (codes "b") ∷ [])
  -- the tag is set last, so that the branch isn't forward behind the checkpoint: the commands before it alone are accepted
  pub accepted : refusal (replay tag_over_branch) ≡ None
  pub behind : refusal (replay (tag_over_branch ++ Checkpoint ∷ [])) ≡ Some (6, fault.NotFastForward)
  pub kept : kept_after (replay (tag_over_branch ++ Checkpoint ∷ [])) ≡ Some (record { history = history_after (replay tag_over_branch); checkpoints = 1 })

pub checkpoint_rows : CheckpointRows
unfolding short_name
checkpoint_rows = record { none = refl; first = refl; last = refl; accepted = refl; behind = refl; kept = refl }
