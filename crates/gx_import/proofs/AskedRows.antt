-- Worked rows on what is asked for in vain: the second of two merges is a mark that nothing has, and so is the content of the
-- second of three changes.
use Rattle.std.proofs.Common.{List, [], ◌∷◌, None, inr, refl}
use Rattle.std.specs.Prelude.{codes}
use Rattle.gx_model.specs.declared.objects.Kind.{Kind}
use Rattle.gx_model.specs.declared.objects.Mode.TheVariants.{File}
use Rattle.gx_model.specs.declared.faults.Fault.TheVariants.{UnknownMark}
use Rattle.gx_model.specs.Texts.{Bytes}
use Rattle.gx_model.specs.Histories.Values.{Commit, commit, commit_value, commits_of}
use Rattle.gx_model.specs.Streams.Commands.{Change, CommitIsh, Inline, Mark, Marked, Modify, Remove}
use Rattle.gx_model.specs.Replay.{State, start}
use Rattle.gx_model.specs.Histories.{no_history}
use Rattle.gx_import.specs.Asking.{AsksByChange, AsksByMerge, mark}

abbrev one : Commit
one = commit [] (commits_of []) (record { author = []; committer = []; headers = []; message = [] })

-- a state in which the mark 1 is a commit, and nothing has the mark 2
abbrev marked_one : State
marked_one = record (start no_history) { marks = (1, commit_value one) ∷ [] }

abbrev two : List CommitIsh
two = Marked 1 ∷ Marked 2 ∷ []

pub second_merge_is_asked_for : (name : Kind → Bytes → Bytes) → AsksByMerge name (codes "b") marked_one two UnknownMark (mark 2)
second_merge_is_asked_for name = record {
  before = Marked 1 ∷ [];
  merged = Marked 2;
  after = [];
  all = refl;
  commits = one ∷ [];
  given = refl;
  asks = refl;
  refused = inr refl;
}

abbrev three : List Change
three = Modify File (Inline (codes "x")) (codes "f" ∷ []) ∷ Modify File (Mark 9) (codes "g" ∷ []) ∷ Remove (codes "f" ∷ []) ∷ []

pub second_change_asks : (name : Kind → Bytes → Bytes) → AsksByChange name (start no_history) [] three UnknownMark (mark 9)
second_change_asks name = record {
  before = Modify File (Inline (codes "x")) (codes "f" ∷ []) ∷ [];
  change = Modify File (Mark 9) (codes "g" ∷ []);
  after = Remove (codes "f" ∷ []) ∷ [];
  all = refl;
  made = _;
  steps = refl;
  asks = (refl, inr refl);
}
