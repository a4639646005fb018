-- The export text of a history.
-- Source: git-fast-export(1), `--full-tree`; the exact text is this project's.
use Rattle.std.specs.Prelude.{ℕ, suc, Bool, if◌then◌else◌, List, [], ◌∷◌, ◌++◌, map, length, Option, None, Some, codes}
use Rattle.std.specs.List.{filter, filter_map, flat_map, fold, list_any}
use Rattle.std.specs.Fmt.{decimal}
use Rattle.gx_model.specs.declared.objects.Mode.{Mode}
use Rattle.gx_model.specs.declared.objects.Mode.TheVariants.{File, Exec, Link, Gitlink, Dir}
use Rattle.gx_model.specs.declared.features.Feature.TheVariants as features
use Rattle.gx_model.specs.Streams.Commands as command
use Rattle.gx_model.specs.Texts.{Bytes}
use Rattle.gx_model.specs.Texts.Headers.{encoding_in}
use Rattle.gx_model.specs.Texts.Paths.{Path, path_text, printed}
use Rattle.gx_model.specs.Streams.Items.{Data, Item, Line}
use Rattle.gx_model.specs.Streams.Commands.{Asks, Blob, Change, Checkpoint, Clear, Command, CommitIsh, Copy, DataRef, Done, Inline, Mark, Marked, Modify, Named, Object, OptionLine, Progress, Remove, Rename, Reset}
use Rattle.gx_model.specs.Histories.Files.{FileMap, Leaf}
use Rattle.gx_model.specs.Histories.Values.{Commit, Value, blob_value, commit_of, commit_value, files_of, list_of, parents_of, same_value, text_of, unless_gitlink}
use Rattle.gx_model.specs.Histories.{History, Target, at_commit, at_tag, is_in}
use Rattle.gx_model.specs.Revisions.Ranges.{reaches}
use Rattle.gx_model.specs.Replay.{peeled_at}

-- ---- the commits, in the order in which they were first made

-- whether a ref reaches a commit
abbrev pub is_reached : List (Bytes × Target) → Commit → Bool
is_reached refs c = list_any (λ r. reaches (peeled_at r.1) c) refs

-- the commits that refs reach, in the order in which they were made
abbrev pub reached_commits : History → List Commit
reached_commits h = filter (is_reached h.refs) (filter_map commit_of h.values)

-- ---- marks

-- The number of a value among those written, the newest first: they are numbered from 1 in the order of writing.
abbrev pub number_in : List Value → Value → ℕ
number_in [] v = 0
number_in (w ∷ ws) v = if same_value w v then suc (length ws) else number_in ws v

-- the mark of a value
abbrev pub marked_in : List Value → Value → CommitIsh
marked_in ws v = Marked (number_in ws v)

-- ---- one commit

-- the bytes of the files that are no gitlinks
abbrev pub contents : FileMap Bytes → List Bytes
contents f = filter_map (λ e. unless_gitlink e.1.0 e.1.1) f

-- each blob that wasn't written yet
abbrev pub blob_commands : List Value → List Bytes → List Command
blob_commands ws [] = []
blob_commands ws (x ∷ xs) =
    if is_in ws (blob_value x) then blob_commands ws xs
    else command.Blob (record { mark = Some (suc (length ws)); bytes = x }) ∷ blob_commands (blob_value x ∷ ws) xs

-- what was written, with the blobs of a commit
abbrev pub with_blobs : List Value → List Bytes → List Value
with_blobs ws [] = ws
with_blobs ws (x ∷ xs) = with_blobs (if is_in ws (blob_value x) then ws else blob_value x ∷ ws) xs

-- the branch that carries the commits
abbrev pub carrier : Bytes
carrier = codes "refs/gx/export"

-- a reset to no commit
abbrev pub to_nothing : Bytes → Command
to_nothing r = command.Reset (record { ref = r; parent = None })

-- the reset of its ref before a commit without parents
abbrev pub reset_before : Bytes → List Commit → List Command
reset_before r [] = to_nothing r ∷ []
reset_before r (p ∷ ps) = []

-- the reset of the carrier before such a commit
abbrev pub root_reset : List Commit → List Command
root_reset ps = reset_before carrier ps

-- what names the first parent
abbrev pub first_by : (Commit → CommitIsh) → List Commit → Option CommitIsh
first_by names [] = None
first_by names (p ∷ ps) = Some (names p)

-- what names the other parents
abbrev pub others_by : (Commit → CommitIsh) → List Commit → List CommitIsh
others_by names [] = []
others_by names (p ∷ ps) = map names ps

-- the mark of the first parent
abbrev pub first_parent_mark : List Value → List Commit → Option CommitIsh
first_parent_mark ws ps = first_by (λ p. marked_in ws (commit_value p)) ps

-- the marks of the other parents
abbrev pub other_parent_marks : List Value → List Commit → List CommitIsh
other_parent_marks ws ps = others_by (λ q. marked_in ws (commit_value q)) ps

-- what a file's line names: a mark, or a gitlink's digits
abbrev pub dataref_in : List Value → Mode → Bytes → DataRef
dataref_in ws Gitlink x = Object x
dataref_in ws _ x = Mark (number_in ws (blob_value x))

-- the line of a file
abbrev pub file_change : List Value → Path × Leaf Bytes → Change
file_change ws e = Modify e.1.0 (dataref_in ws e.1.0 e.1.1) e.0

-- a commit on a ref, by what names its parents, with these changes
abbrev pub commit_on : Bytes → (Commit → CommitIsh) → List Change → List Value → Commit → Command
commit_on r names changes ws c = command.Commit (record {
  ref = r;
  mark = Some (suc (length ws));
  author = Some (text_of c).author;
  committer = (text_of c).committer;
  headers = (text_of c).headers;
  message = (text_of c).message;
  parent = first_by names (list_of (parents_of c));
  merges = others_by names (list_of (parents_of c));
  changes = changes;
})

-- the command of a commit
abbrev pub commit_command : List Value → Commit → Command
commit_command ws c =
    commit_on carrier (λ p. marked_in ws (commit_value p)) (Clear ∷ map (file_change ws) (files_of c)) ws c

-- its blobs, then itself
abbrev pub with_commit : List Value → Commit → List Value
with_commit ws c = commit_value c ∷ with_blobs ws (contents (files_of c))

-- the commands of a commit, its blobs first
abbrev pub one_commit : List Value → Commit → List Command
one_commit ws c =
    blob_commands ws (contents (files_of c)) ++ (root_reset (list_of (parents_of c)) ++ (commit_command (with_blobs ws (contents (files_of c))) c ∷ []))

-- ---- all of them, and the refs

-- the commands of all commits
abbrev pub commit_commands : List Value → List Commit → List Command
commit_commands ws [] = []
commit_commands ws (c ∷ cs) = one_commit ws c ++ commit_commands (with_commit ws c) cs

-- the values that all commits write, the newest first
abbrev pub all_written : List Commit → List Value
all_written cs = fold with_commit [] cs

-- the reset of the carrier at the end
abbrev pub last_reset : List Commit → List Command
last_reset [] = []
last_reset (c ∷ cs) = to_nothing carrier ∷ []

-- the command of a ref, by what names its commit
abbrev pub ref_by : (Commit → CommitIsh) → Bytes × Target → Command
ref_by names (r, at_commit c) = command.Reset (record { ref = r; parent = Some (names c) })
ref_by names (r, at_tag t) = command.Tag (record { name = t.name; mark = None; target = names t.target; tagger = t.tagger; message = t.message })

-- the command of a ref
abbrev pub ref_command : List Value → Bytes × Target → Command
ref_command ws r = ref_by (λ c. marked_in ws (commit_value c)) r

-- the commands between `feature done` and `done`
abbrev pub inner_commands : List Commit → List (Bytes × Target) → List Command
inner_commands cs refs = commit_commands [] cs ++ (last_reset cs ++ map (ref_command (all_written cs)) refs)

-- all commands of an export
abbrev pub export_commands : History → List Command
export_commands h = command.Asks features.Done ∷ (inner_commands (reached_commits h) h.refs ++ command.Done ∷ [])

-- ---- the items of a command

-- a line with a word and a rest
abbrev pub word_line : Bytes → Bytes → Item
word_line word rest = Line (word ++ 32 ∷ rest)

-- a line that may be left out
abbrev pub word_line_if : Bytes → Option Bytes → List Item
word_line_if word None = []
word_line_if word (Some x) = word_line word x ∷ []

-- a mark as a text
abbrev pub mark_text : ℕ → Bytes
mark_text n = 58 ∷ decimal n

-- the line of a mark
abbrev pub mark_line : Option ℕ → List Item
mark_line None = []
mark_line (Some n) = word_line (codes "mark") (mark_text n) ∷ []

-- what names a commit, as a text
abbrev pub commit_ish_text : CommitIsh → Bytes
commit_ish_text (Marked n) = mark_text n
commit_ish_text (Named x) = x

-- the line of a first parent
abbrev pub from_line : Option CommitIsh → List Item
from_line None = []
from_line (Some c) = word_line (codes "from") (commit_ish_text c) ∷ []

-- six digits
abbrev pub mode_digits : Mode → Bytes
mode_digits File = codes "100644"
mode_digits Exec = codes "100755"
mode_digits Link = codes "120000"
mode_digits Gitlink = codes "160000"
mode_digits Dir = codes "040000"

-- what a file's line names, as a text
abbrev pub dataref_text : DataRef → Bytes
dataref_text (Mark n) = mark_text n
dataref_text (Object x) = x
dataref_text (Inline x) = codes "inline"

-- the block behind an inline file
abbrev pub dataref_block : DataRef → List Item
dataref_block (Mark n) = []
dataref_block (Object x) = []
dataref_block (Inline x) = Data x ∷ []

-- an export has no other changes
abbrev pub change_items : Change → List Item
change_items (Modify m s p) = word_line (codes "M") (mode_digits m ++ 32 ∷ dataref_text s ++ 32 ∷ printed (path_text p)) ∷ dataref_block s
change_items (Remove p) = word_line (codes "D") (printed (path_text p)) ∷ []
change_items Clear = Line (codes "deleteall") ∷ []
change_items (Copy p q) = []
change_items (Rename p q) = []

-- an LF after a reset that has a commit
abbrev pub reset_items : Option CommitIsh → List Item
reset_items None = []
reset_items (Some c) = word_line (codes "from") (commit_ish_text c) ∷ Line [] ∷ []

-- an export has no other commands; of the headers of a commit it has the encoding alone
abbrev pub command_items : Command → List Item
command_items (command.Blob b) = Line (codes "blob") ∷ mark_line b.mark ++ Data b.bytes ∷ []
command_items (command.Commit c) =
    word_line (codes "commit") c.ref ∷ (mark_line c.mark ++ (word_line_if (codes "author") c.author ++ (word_line (codes "committer") c.committer
    ∷ (word_line_if (codes "encoding") (encoding_in c.headers) ++ (Data c.message ∷ (from_line c.parent ++ (map (λ p. word_line (codes "merge") (commit_ish_text p)) c.merges
    ++ (flat_map change_items c.changes ++ Line [] ∷ []))))))))
command_items (command.Tag t) =
    word_line (codes "tag") t.name ∷ mark_line t.mark ++ word_line (codes "from") (commit_ish_text t.target) ∷ word_line_if (codes "tagger") t.tagger ++ Data t.message ∷ []
command_items (command.Reset r) = word_line (codes "reset") r.ref ∷ reset_items r.parent
command_items (command.Asks f) = Line (codes "feature done") ∷ []
command_items command.Done = Line (codes "done") ∷ []
command_items command.Checkpoint = []
command_items (command.Progress x) = []
command_items (command.OptionLine x) = []

-- all items of an export
abbrev pub export_items : History → List Item
export_items h = flat_map command_items (export_commands h)

-- ---- the text of items

-- an item as a text
abbrev pub item_text : Item → Bytes
item_text (Line l) = l ++ 10 ∷ []
item_text (Data x) = codes "data " ++ decimal (length x) ++ 10 ∷ x ++ 10 ∷ []

-- items as a text
abbrev pub items_text : List Item → Bytes
items_text items = flat_map item_text items

-- the export text of a history
abbrev pub export_text : History → Bytes
export_text h = items_text (export_items h)
