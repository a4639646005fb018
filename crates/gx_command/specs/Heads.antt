-- The lines that begin commands, and the command that comes next.
use Rattle.std.specs.Prelude.{◌≡◌, ◌||◌, codes, Bool, false, Option, Some, None, Result, Ok, Err, IsOk, [], ◌∷◌, List}
use Rattle.gx_model.specs.Faults.{Given, ◌>>=◌}
use Rattle.gx_model.specs.Streams.Items.{Item, Line, Data, Stream}
use Rattle.gx_model.specs.Streams.Commands as model
use Rattle.gx_model.specs.Texts.{Bytes}
use Rattle.gx_model.specs.declared.faults.Fault.TheVariants as faults
use Rattle.gx_model.specs.declared.features.Feature.{Feature}
use Rattle.gx_model.specs.Streams.Grammar.{if_early, blob_at, commit_at, tag_at, reset_at, command_at}
use Rattle.gx_model.specs.Streams.Lines.{Read, Words, at_end, after, words_of, is_word, rest_of, feature_of, ref_of, tag_of}
use Rattle.gx_command.specs.Ahead.{Fails}
use Rattle.gx_command.specs.Views.{shown_command}
use Rattle.gx_command.specs.declared.fault.CommandFault.{CommandFault}
use Rattle.gx_command.specs.declared.fault.CommandFault.TheVariants as own
use Rattle.gx_command.specs.declared.commands.Command.{Command}
use Rattle.gx_command.specs.declared.heads.Head.{Head}
use Rattle.gx_command.specs.declared.heads.Head.TheVariants.{Blob, Commit, Tag, Reset, Whole}
use Rattle.gx_command.specs.declared.heads.Start.{Start}
use Rattle.gx_command.specs.declared.heads.Start.TheVariants as start

-- the command that begins so, with the items after its first line
abbrev pub begun : {A : Type 0} → Head A → Stream → Read model.Command
begun Blob s = blob_at s
begun (Commit branch) s = commit_at branch.bytes.items s
begun (Tag name) s = tag_at name.bytes.items s
begun (Reset branch) s = reset_at branch.bytes.items s
begun (Whole c) s = Ok (shown_command c, s)

abbrev pub Begins : {A : Type 0} → Stream → Result (Head A) CommandFault → Read model.Command → Type 0
Begins s (Ok head) read = read ≡ begun head s
Begins s (Err f) read = Fails f read

-- with some items behind it, a line of these words begins a command
abbrev pub BeginsCommand : Bool → Words → Type 0
BeginsCommand early w = (s : Stream) × IsOk (command_at early w s)

-- the item is such a line
abbrev pub ItemBegins : Bool → Item → Type 0
ItemBegins early (Data b) = ⊥
ItemBegins early (Line l) = BeginsCommand early (words_of l)

-- the ref of a commit or a reset
abbrev pub ref_named : Words → Given Bytes
ref_named w = rest_of w >>= ref_of

-- the name of a tag
abbrev pub name_at : Words → Given Bytes
name_at w = rest_of w >>= tag_of

-- the words begin none of the commands that go on after their first line
pub record MayBeWhole (w : Words) : Type 0 where
  pub no_blob : is_word w (codes "blob") ≡ false
  pub no_commit : is_word w (codes "commit") ≡ false
  pub no_tag : is_word w (codes "tag") ≡ false
  pub no_reset : is_word w (codes "reset") ≡ false

-- the line is all of the command
abbrev pub BeginsWhole : {A : Type 0} → Stream → Result (Command A) CommandFault → Read model.Command → Type 0
BeginsWhole s (Ok command) read = read ≡ Ok (shown_command command, s)
BeginsWhole s (Err f) read = Fails f read

-- the rest of an option's line, which stands before every other command
abbrev pub early_rest : Bool → Words → Given Bytes
early_rest early w = rest_of w >>= λ r. if_early early (Ok r)

-- progress, with the text after it
abbrev pub progress_of : Words → Given model.Command
progress_of w = rest_of w >>= λ r. Ok (model.Progress r)

-- an option, with the text after it
abbrev pub option_of : Bool → Words → Given model.Command
option_of early w = early_rest early w >>= λ r. Ok (model.OptionLine r)

-- the feature of a line, which stands before every other command
abbrev pub early_feature : Bool → Words → Given Feature
early_feature early w = early_rest early w >>= feature_of

-- the word of a command that git-fast-import(1) has, and this reader has not
abbrev pub is_left_out : Words → Bool
is_left_out w = is_word w (codes "ls") || is_word w (codes "cat-blob") || is_word w (codes "get-mark") || is_word w (codes "alias")

abbrev pub there : Read model.Command → Read (Option model.Command)
there read = read >>= λ c. Ok (Some c.0, c.1)

-- the command that begins so, where one comes next
abbrev pub begun_there : {A : Type 0} → Head A → Stream → Read (Option model.Command)
begun_there head s = there (begun head s)

-- the command that comes next, past empty lines; none at the end
unfoldable pub first_in : Bool → List Item → Stream → Read (Option model.Command)
first_in early [] s = at_end s.end (Ok (None, s))
first_in early (Data b ∷ more) s = Err faults.UnknownCommand
first_in early (Line [] ∷ more) s = first_in early more (after more s)
first_in early (Line (b ∷ bs) ∷ more) s = there (command_at early (words_of (b ∷ bs)) (after more s))

abbrev pub first : Bool → Stream → Read (Option model.Command)
first early s = first_in early s.items s

-- what an item begins
abbrev pub BeginsAt : {A : Type 0} → Stream → Result (Option (Start A)) CommandFault → Read model.Command → Type 0
BeginsAt s (Ok None) read = ⊥
BeginsAt s (Ok (Some start.Empty)) read = ⊥
BeginsAt s (Ok (Some (start.Head head))) read = read ≡ begun head s
BeginsAt s (Err f) read = Fails f read

abbrev pub BeginsIn : {A : Type 0} → Bool → Item → Stream → Result (Option (Start A)) CommandFault → Type 0
BeginsIn early (Data b) s answer = answer ≡ Err own.UnknownCommand
BeginsIn early (Line []) s answer = answer ≡ Ok (Some start.Empty)
BeginsIn early (Line (b ∷ bs)) s answer = BeginsAt s answer (command_at early (words_of (b ∷ bs)) s)

-- what the first command is, after a line was taken
abbrev pub started : {A : Type 0} → Bool → Start A → Stream → Read (Option model.Command)
started early start.Empty s = first early s
started early (start.Head head) s = there (begun head s)

-- a line where a command may begin is taken
abbrev pub TakesStartFrom : {A : Type 0} → Bool → Stream → Option Stream → Result (Option (Start A)) CommandFault → Type 0
TakesStartFrom early s new (Ok None) = (new ≡ Some s) × (first early s ≡ Ok (None, s))
TakesStartFrom early s new (Ok (Some line)) = (left : Stream) × (new ≡ Some left) × (first early s ≡ started early line left)
TakesStartFrom early s new (Err f) = Fails f (first early s)

abbrev pub TakesStart : {A : Type 0} → Bool → Option Stream → Option Stream → Result (Option (Start A)) CommandFault → Type 0
TakesStart early None new answer = Unit {0}
TakesStart early (Some s) new answer = TakesStartFrom early s new answer

-- the line that begins the first command is taken, and the empty lines before it
abbrev pub TakesHeadFrom : {A : Type 0} → Bool → Stream → Option Stream → Result (Option (Head A)) CommandFault → Type 0
TakesHeadFrom early s new (Ok None) = (left : Stream) × (new ≡ Some left) × (first early s ≡ Ok (None, left))
TakesHeadFrom early s new (Ok (Some head)) = (left : Stream) × (new ≡ Some left) × (first early s ≡ there (begun head left))
TakesHeadFrom early s new (Err f) = Fails f (first early s)

abbrev pub TakesHead : {A : Type 0} → Bool → Option Stream → Option Stream → Result (Option (Head A)) CommandFault → Type 0
TakesHead early None new answer = Unit {0}
TakesHead early (Some s) new answer = TakesHeadFrom early s new answer
