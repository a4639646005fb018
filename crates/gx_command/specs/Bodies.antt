-- The parts of a commit that follow its message, one by one.
use Rattle.std.specs.Prelude.{◌≡◌, Option, Some, None, Result, Ok, Err, [], ◌∷◌, List, map, if◌then◌else◌, codes}
use Rattle.std.specs.Option.{option_map}
use Rattle.gx_model.specs.Texts.{Bytes}
use Rattle.gx_model.specs.Faults.{Given, ◌>>=◌}
use Rattle.gx_model.specs.Streams.Items as model
use Rattle.gx_model.specs.Streams.Items.{Stream, Line, Data}
use Rattle.gx_model.specs.Streams.Commands as command
use Rattle.gx_model.specs.declared.faults.Fault.TheVariants as faults
use Rattle.gx_model.specs.Streams.Grammar.{change_at, unsigned}
use Rattle.gx_model.specs.Streams.Lines.{Read, at_end, after, words_of, is_word, optional, needed, block, ident_of, encoding_of}
use Rattle.gx_command.specs.Ahead.{Fails}
use Rattle.gx_command.specs.ChangeLines.{BeginsChange, completed}
use Rattle.gx_command.specs.Views.{shown_ident, shown_encoding, shown_commit_ish, shown_change}
use Rattle.gx_command.specs.declared.fault.CommandFault.{CommandFault}
use Rattle.gx_command.specs.declared.change_lines.ChangeLine.{ChangeLine}
use Rattle.gx_command.specs.declared.bodies.Links.{Links}
use Rattle.gx_command.specs.declared.bodies.Written.{Written}

-- who wrote a commit, and what, as the model has them
abbrev pub shown_written : {A : Type 0} → Written A → Option Bytes × (Bytes × (Option Bytes × Bytes))
shown_written w = (option_map shown_ident w.author, (w.committer.bytes.items, (option_map shown_encoding w.encoding, w.message.items)))

-- who wrote a commit, and what: the lines and the block before its parents
unfoldable pub written_at : Stream → Read (Option Bytes × (Bytes × (Option Bytes × Bytes)))
written_at s = do
  author ← optional (codes "author") ident_of s
  committer ← needed (codes "committer") ident_of author.1
  plain ← unsigned committer.1
  encoding ← optional (codes "encoding") encoding_of plain.1
  message ← block encoding.1
  Ok ((author.0, (committer.0, (encoding.0, message.0))), message.1)

-- the parents and the changes of a commit, as the model has them
abbrev pub shown_links : {A : Type 0} → Links A → Option command.CommitIsh × (List command.CommitIsh × List command.Change)
shown_links l = (option_map shown_commit_ish l.from, (map shown_commit_ish l.merges.items, map shown_change l.changes.items))

abbrev pub first_change : Option (Read command.Change) → Stream → Read (Option command.Change)
first_change None s = Ok (None, s)
first_change (Some read) s = read >>= λ x. Ok (Some x.0, x.1)

-- the change that comes next
unfoldable pub next_change_in : List model.Item → Stream → Read (Option command.Change)
next_change_in [] s = at_end s.end (Ok (None, s))
next_change_in (Data b ∷ more) s = Ok (None, s)
next_change_in (Line l ∷ more) s = first_change (change_at (words_of l) (after more s)) s

abbrev pub next_change : Stream → Read (Option command.Change)
next_change s = next_change_in s.items s

-- the change that a line is, or begins, completed by what is behind it
abbrev pub begun_change : {A : Type 0} → ChangeLine A → Stream → Read (Option command.Change)
begun_change line s = completed line s >>= λ x. Ok (Some x.0, x.1)

-- the change that an item is, or begins
abbrev pub ChangeIn : {A : Type 0} → model.Item → Stream → Result (Option (ChangeLine A)) CommandFault → Type 0
ChangeIn (Data b) s answer = answer ≡ Ok None
ChangeIn (Line l) s answer = BeginsChange s answer (change_at (words_of l) s)

-- the line of a change is taken, and the change still has to be completed
abbrev pub TakesChangeFrom : {A : Type 0} → Stream → Option Stream → Result (Option (ChangeLine A)) CommandFault → Type 0
TakesChangeFrom s new (Ok None) = (new ≡ Some s) × (next_change s ≡ Ok (None, s))
TakesChangeFrom s new (Ok (Some line)) = (left : Stream) × (new ≡ Some left) × (next_change s ≡ (completed line left >>= λ x. Ok (Some x.0, x.1)))
TakesChangeFrom s new (Err f) = Fails f (next_change s)

abbrev pub TakesChange : {A : Type 0} → Option Stream → Option Stream → Result (Option (ChangeLine A)) CommandFault → Type 0
TakesChange None new answer = Unit {0}
TakesChange (Some s) new answer = TakesChangeFrom s new answer

-- no signature: nothing is answered
abbrev pub signature_in : model.Item → Given (Option (Unit {0}))
signature_in (Data b) = Ok None
signature_in (Line l) = if is_word (words_of l) (codes "gpgsig") then Err faults.Unsupported else Ok None

abbrev pub empty_line : model.Item → Option (Unit {0})
empty_line (Line []) = Some tt
empty_line (Line (b ∷ bs)) = None
empty_line (Data b) = None
