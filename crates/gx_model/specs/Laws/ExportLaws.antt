-- What the laws of the export text suppose and say.
-- Source: git-fast-export(1) and git-fast-import(1).
use Rattle.std.specs.Prelude.{map, ◌⊎◌, suc, if◌then◌else◌, Result, Ok, ◌≡◌, ℕ, ◌^◌, ◌<◌, true, false, IsTrue, List, [], ◌∷◌, ◌++◌, length, codes, nat_eq, Option, None, Some, is_some}
use Rattle.std.specs.List.{AllByRecursion, filter_map, flat_map, starts_with}
use Rattle.gx_model.specs.declared.objects.Mode.{Mode}
use Rattle.gx_model.specs.declared.objects.Mode.TheVariants.{File, Exec, Link, Gitlink}
use Rattle.gx_model.specs.declared.objects.Kind.{Kind}
use Rattle.gx_model.specs.declared.faults.Fault.{Fault}
use Rattle.gx_model.specs.declared.features.Feature.TheVariants as features
use Rattle.gx_model.specs.Streams.Commands as command
use Rattle.gx_model.specs.Texts.{Bytes, is_line}
use Rattle.gx_model.specs.Texts.RefNames.{is_ref_name, is_tag_name}
use Rattle.gx_model.specs.Texts.Idents.{is_ident}
use Rattle.gx_model.specs.Faults.{◌>>=◌}
use Rattle.gx_model.specs.Texts.Paths.{Path, is_file_path}
use Rattle.gx_model.specs.Streams.Items.{Data, Finished, Item, Line, items_of}
use Rattle.gx_model.specs.Streams.Commands.{Change, Clear, Command, CommitIsh, CommitParts, Copy, DataRef, Mark, Marked, Modify, Named, Object, Remove, Rename, TagParts}
use Rattle.gx_model.specs.Streams.Grammar.{commands_of}
use Rattle.gx_model.specs.Streams.Lines.{is_null}
use Rattle.gx_model.specs.Histories.Files.{Leaf}
use Rattle.gx_model.specs.Histories.Values.{Commit, Value, blob_value, commit_of, commit_value, files_of, IsEncodingAlone, is_content, is_optional_ident, is_proper, list_of, parents_of, text_of}
use Rattle.gx_model.specs.Texts.Digits.{is_name_text}
use Rattle.gx_model.specs.Histories.{History, IsHistory, IsIn, IsWhole, Reaches, Target, at_commit, at_tag, is_in, no_history, value_at, with_one, with_value}
use Rattle.gx_model.specs.Replay.{Report, State, finished, replayed, replayed_text, start, step}
use Rattle.std.specs.Option.{unwrap_or}
use Rattle.gx_model.specs.Export.{all_written, carrier, command_items, contents, export_commands, export_items, export_text, inner_commands, item_text, one_commit, reached_commits, with_commit}

-- a line with no LF that is no comment and announces no block
pub record IsItemLine (l : Bytes) : Type 0 where
  pub line : IsTrue (is_line l)
  pub no_comment : starts_with nat_eq l (codes "#") ≡ false
  pub no_data : starts_with nat_eq l (codes "data ") ≡ false

-- what a text can spell
abbrev pub IsItem : Item → Type 0
IsItem (Line l) = IsItemLine l
IsItem (Data x) = length x < 2 ^ 64

-- items are read again
abbrev pub ItemsAreRead : Type 0
ItemsAreRead = (is : List Item) → AllByRecursion IsItem is → items_of (flat_map item_text is) false ≡ record { items = is; end = Finished }

-- the headers of these commits are those of encodings alone
abbrev pub HaveEncodingsAlone : List Commit → Type 0
HaveEncodingsAlone commits = AllByRecursion (λ made. IsEncodingAlone (text_of made).headers) commits

-- the text of a history's export is read as its items, whatever gitlinks it has
abbrev pub ExportsAreItems : Type 0
ExportsAreItems =
    (h : History) → IsHistory h → HaveEncodingsAlone (reached_commits h) → length (export_text h) < 2 ^ 64
    → items_of (export_text h) false ≡ record { items = export_items h; end = Finished }

-- ---- commands

-- the number of a mark
abbrev pub IsMark : ℕ → Type 0
IsMark n = (0 < n) × (n < 2 ^ 64)

-- forty digits, which aren't all zeros
abbrev pub IsLink : Bytes → Type 0
IsLink x = IsTrue (is_name_text x) × (is_null x ≡ false)

-- forty digits and `^0`
abbrev pub IsCommitRevision : Bytes → Type 0
IsCommitRevision x = (digits : Bytes) × IsTrue (is_name_text digits) × (x ≡ digits ++ codes "^0")

-- a commit that is named by its mark, or by the revision of its name
abbrev pub IsNamedCommit : CommitIsh → Type 0
IsNamedCommit (Marked n) = IsMark n
IsNamedCommit (Named x) = IsCommitRevision x

-- the same, or none
abbrev pub IsNamedCommitIf : Option CommitIsh → Type 0
IsNamedCommitIf None = Unit {0}
IsNamedCommitIf (Some c) = IsNamedCommit c

-- a mark, or a gitlink's digits
abbrev pub IsDataRef : Mode → DataRef → Type 0
IsDataRef Gitlink (Object x) = IsLink x
IsDataRef File (Mark n) = IsMark n
IsDataRef Exec (Mark n) = IsMark n
IsDataRef Link (Mark n) = IsMark n
IsDataRef m s = ⊥

-- a file's path
abbrev pub IsPath : Path → Type 0
IsPath p = IsTrue (is_file_path p)

-- a change that an export has
abbrev pub IsSpelledChange : Change → Type 0
IsSpelledChange (Modify m s p) = IsDataRef m s × IsPath p
IsSpelledChange (Remove p) = IsPath p
IsSpelledChange Clear = Unit {0}
IsSpelledChange (Copy p q) = ⊥
IsSpelledChange (Rename p q) = ⊥

-- a mark is set
abbrev pub HasMark : Option ℕ → Type 0
HasMark None = ⊥
HasMark (Some n) = IsMark n

-- a commit command whose parts have their forms
pub record IsSpelledCommit (c : CommitParts) : Type 0 where
  pub ref : is_ref_name c.ref ≡ true
  pub mark : HasMark c.mark
  pub author : is_ident (unwrap_or c.author []) ≡ true
  pub has_author : is_some c.author ≡ true
  pub committer : is_ident c.committer ≡ true
  pub headers : IsEncodingAlone c.headers
  pub message : length c.message < 2 ^ 64
  pub parent : IsNamedCommitIf c.parent
  pub merges : AllByRecursion IsNamedCommit c.merges
  pub changes : AllByRecursion IsSpelledChange c.changes

-- a tag command whose parts have their forms
pub record IsSpelledTag (t : TagParts) : Type 0 where
  pub name : is_tag_name t.name ≡ true
  pub mark : t.mark ≡ None
  pub target : IsNamedCommit t.target
  pub tagger : is_optional_ident t.tagger ≡ true
  pub message : length t.message < 2 ^ 64

-- a command that an export has between `feature done` and `done`
abbrev pub IsSpelled : Command → Type 0
IsSpelled (command.Blob b) = HasMark b.mark × (length b.bytes < 2 ^ 64)
IsSpelled (command.Commit c) = IsSpelledCommit c
IsSpelled (command.Tag t) = IsSpelledTag t
IsSpelled (command.Reset r) = (is_ref_name r.ref ≡ true) × IsNamedCommitIf r.parent
IsSpelled _ = ⊥

-- commands between `feature done` and `done`
abbrev pub between : List Command → List Command
between cs = command.Asks features.Done ∷ (cs ++ command.Done ∷ [])

-- their items can be spelled
abbrev pub CommandsAreItems : Type 0
CommandsAreItems = (cs : List Command) → AllByRecursion IsSpelled cs → AllByRecursion IsItem (flat_map command_items (between cs))

-- and are read as these commands
abbrev pub CommandsAreRead : Type 0
CommandsAreRead =
    (cs : List Command) → AllByRecursion IsSpelled cs → commands_of (record { items = flat_map command_items (between cs); end = Finished }) ≡ record { list = between cs; fault = None }

-- ---- the replay

-- the values written, with their numbers, the newest first
abbrev pub numbered : List Value → List (ℕ × Value)
numbered [] = []
numbered (w ∷ ws) = (suc (length ws), w) ∷ numbered ws

-- the carrier's place among the branches: not there yet, or with a commit or none
abbrev pub carried : Option (Option Commit) → List (Bytes × Option Commit)
carried None = []
carried (Some c) = (carrier, c) ∷ []

-- The state of a replay while an export's commits are read: these were written, and the history holds these values.
abbrev pub state_at : List Value → List Value → Option (Option Commit) → State
state_at ws vs b = record {
  history = record { values = vs; refs = [] };
  kept = record { history = no_history; checkpoints = 0 };
  published = [];
  marks = numbered ws;
  branches = carried b;
  tags = [];
  is_forced = false;
  progress = [];
  held = 0;
}

-- what the blobs of a commit that weren't written yet make of the values
abbrev pub values_with_blobs : List Value → List Value → List Bytes → List Value
values_with_blobs ws vs [] = vs
values_with_blobs ws vs (x ∷ xs) =
    if is_in ws (blob_value x) then values_with_blobs ws vs xs else values_with_blobs (blob_value x ∷ ws) (with_one vs (blob_value x)) xs

-- the values that a commit's block adds
abbrev pub values_with_commit : List Value → List Value → Commit → List Value
values_with_commit ws vs c = with_value (values_with_blobs ws vs (contents (files_of c))) (commit_value c)

module _ (name : Kind → Bytes → Bytes) where
  -- the state after some commands, without the end
  abbrev pub steps : State → List Command → Result State Fault
  steps s [] = Ok s
  steps s (c ∷ cs) = step name s c >>= λ t. steps t cs

  -- One commit's commands, where its parents were written: they meet no fault, mark n still stands for the nth blob or commit written, and the values are these.
  abbrev pub CommitIsReplayed : Type 0
  CommitIsReplayed =
      (ws vs : List Value) (b : Option (Option Commit)) (c : Commit) → IsTrue (is_content (files_of c)) → AllByRecursion (λ p. IsIn ws (commit_value p)) (list_of (parents_of c))
      → steps (state_at ws vs b) (one_commit ws c) ≡ Ok (state_at (with_commit ws c) (values_with_commit ws vs c) (Some (Some c)))

-- ---- what a history reaches

-- one of these values is made of another
abbrev pub AnyReaches : List Value → Value → Type 0
AnyReaches [] u = ⊥
AnyReaches (v ∷ vs) u = Reaches v u ⊎ AnyReaches vs u

-- reached from a ref
abbrev pub IsReached : History → Value → Type 0
IsReached h u = AnyReaches (map (λ r. value_at r.1) h.refs) u

-- a commit is one of these
abbrev pub IsOne : List Commit → Commit → Type 0
IsOne [] c = ⊥
IsOne (d ∷ ds) c = (d ≡ c) ⊎ IsOne ds c

-- After these commits were read: what was written is held, and the history holds exactly what these commits reach, the commits in their order.
pub record HoldsWhat (ws vs : List Value) (cs : List Commit) : Type 0 where
  pub whole : IsWhole vs
  pub written : (v : Value) → IsIn ws v → IsIn vs v
  pub order : filter_map commit_of vs ≡ cs
  pub commits : AllByRecursion (λ c. IsIn ws (commit_value c)) cs
  pub only : (u : Value) → IsIn vs u → AnyReaches (map commit_value cs) u

-- after a commit's block the history holds what the commits so far reach, and no more
abbrev pub CommitKeeps : Type 0
CommitKeeps =
    (ws vs : List Value) (cs : List Commit) (c : Commit) → HoldsWhat ws vs cs → IsTrue (is_proper (commit_value c)) → AllByRecursion (IsOne cs) (list_of (parents_of c)) → (IsOne cs c → ⊥)
    → HoldsWhat (with_commit ws c) (values_with_commit ws vs c) (cs ++ c ∷ [])

-- ---- all commits

-- An export's commands are replayed without a fault: the refs are equal, the values are exactly those that were reached, and the commits stand in their order.
pub record IsAgain (h k : History) : Type 0 where
  pub refs : k.refs ≡ h.refs
  pub order : filter_map commit_of k.values ≡ reached_commits h
  pub only : (u : Value) → IsIn k.values u → IsReached h u
  pub all : (u : Value) → IsReached h u → IsIn k.values u
  pub held : (u : Value) → IsIn k.values u → IsIn h.values u
  pub whole : IsWhole k.values

-- each command was read, and each value and each ref is new
abbrev pub exported_report : History → History → Report
exported_report h k = record { commands = length (export_commands h); objects = length k.values; refs = length h.refs }

-- the commands of an export, replayed from nothing, give its refs and what they reach
abbrev pub ExportIsReplayed : Type 0
ExportIsReplayed =
    (name : Kind → Bytes → Bytes) (h : History) → IsHistory h
    → (k : History) × IsAgain h k × (replayed name 0 (start no_history) (export_commands h) None ≡ finished k [] (exported_report h k))

-- ---- what an export can be read of

-- no gitlink of forty zeros
abbrev pub IsNotNull : Mode → Bytes → Type 0
IsNotNull Gitlink x = is_null x ≡ false
IsNotNull _ x = Unit {0}

-- no file map of these commits has a gitlink of forty zeros
abbrev pub HaveNoNullGitlink : List Commit → Type 0
HaveNoNullGitlink commits = AllByRecursion (λ made. AllByRecursion (λ file. IsNotNull file.1.0 file.1.1) (files_of made)) commits

-- no file map that refs reach has one
abbrev pub HasNoNullGitlink : History → Type 0
HasNoNullGitlink h = HaveNoNullGitlink (reached_commits h)

-- a commit that a stream can say: it has no gitlink of forty zeros, and no header but that of an encoding
pub record IsSayable (made : Commit) : Type 0 where
  pub files : AllByRecursion (λ file. IsNotNull file.1.0 file.1.1) (files_of made)
  pub headers : IsEncodingAlone (text_of made).headers

-- a stream can say these commits
abbrev pub AreSayable : List Commit → Type 0
AreSayable commits = AllByRecursion IsSayable commits

-- a stream can say the commits that refs reach
abbrev pub HasSayable : History → Type 0
HasSayable h = AreSayable (reached_commits h)

-- a file that is no such gitlink, with a length below 2 ^ 64
abbrev pub IsReadableFile : Path × Leaf Bytes → Type 0
IsReadableFile e = IsNotNull e.1.0 e.1.1 × (length e.1.1 < 2 ^ 64)

-- a commit that can be read again
pub record IsReadableCommit (c : Commit) : Type 0 where
  pub headers : IsEncodingAlone (text_of c).headers
  pub message : length (text_of c).message < 2 ^ 64
  pub files : AllByRecursion IsReadableFile (files_of c)

-- what a ref holds can be read again
abbrev pub IsReadableTarget : Target → Type 0
IsReadableTarget (at_commit c) = Unit {0}
IsReadableTarget (at_tag t) = length t.message < 2 ^ 64

-- It has no gitlink of forty zeros and no headers but those of encodings, and lengths and marks are below 2 ^ 64.
pub record IsReadable (h : History) : Type 0 where
  pub commits : AllByRecursion IsReadableCommit (reached_commits h)
  pub refs : AllByRecursion (λ r. IsReadableTarget r.1) h.refs
  pub marks : length (all_written (reached_commits h)) < 2 ^ 64

-- the commands of a history that can be read
abbrev pub ExportIsSpelled : Type 0
ExportIsSpelled = (h : History) → IsHistory h → IsReadable h → AllByRecursion IsSpelled (inner_commands (reached_commits h) h.refs)

-- importing the export of a history gives the same refs and exactly what they reach
abbrev pub ExportIsImported : Type 0
ExportIsImported =
    (name : Kind → Bytes → Bytes) (h : History) → IsHistory h → IsReadable h
    → (k : History) × IsAgain h k × (replayed_text name no_history (export_text h) false ≡ finished k [] (exported_report h k))

-- lengths and marks fit where the text does
abbrev pub FormedIsReadable : Type 0
FormedIsReadable = (h : History) → IsHistory h → HasSayable h → length (export_text h) < 2 ^ 64 → IsReadable h
