-- The commands of items, from left to right.
-- Source: git-fast-import(1), "Commands".
use Rattle.std.specs.Prelude.{ℕ, zero, suc, Bool, true, false, ◌||◌, codes, List, [], ◌∷◌, ◌++◌, length, Option, Some, None, Ok, Err, if◌then◌else◌}
use Rattle.std.specs.List.{list_any, list_all}
use Rattle.std.specs.Str.{bytes_eq}
use Rattle.gx_model.specs.Texts.{Bytes}
use Rattle.gx_model.specs.Texts.Digits.{is_any_name_text}
use Rattle.gx_model.specs.Texts.Headers.{encoding_header}
use Rattle.gx_model.specs.Texts.Paths.{Path}
use Rattle.gx_model.specs.Faults.{Given, ◌>>=◌}
use Rattle.gx_model.specs.Streams.Items.{Item, Line, Data, End, Finished, Failed, Stream}
use Rattle.gx_model.specs.declared.faults.Fault.{Fault}
use Rattle.gx_model.specs.declared.faults.Fault.TheVariants as faults
use Rattle.gx_model.specs.declared.objects.Mode.{Mode}
use Rattle.gx_model.specs.declared.objects.Mode.TheVariants as modes
use Rattle.gx_model.specs.declared.features.Feature.TheVariants as features
use Rattle.gx_model.specs.declared.features.Features.{Features}
use Rattle.gx_model.specs.Streams.Commands.{CommitIsh, DataRef, Mark, Object, Inline, Change, Modify, Remove, Copy, Rename, Clear, Command, Blob, Commit, Tag, Reset, Checkpoint, Progress, Asks, OptionLine, Done, Commands, no_features}
use Rattle.gx_model.specs.Streams.Lines.{Read, Words, words_of, is_word, rest_of, bare, at_end, after, optional, needed, block, colon_number, mark_of, any_text, encoding_of, ident_of, ref_of, tag_of, is_null, commit_ish_of, feature_of, mode_of, last_path, source_path}

-- ---- changes

-- a part up to the next space: the part, and what follows the space, if there is one
abbrev pub part_of : Bytes → Words
part_of bs = words_of bs

-- where a modify's bytes are: behind a mark, a name, or in the block that follows
pub data Where : Type 0 where
  AtMark : ℕ → Where
  AtName : Bytes → Where
  AtBlock : Where

-- a mark, `inline`, or forty digits that are no zeros
abbrev pub where_by : Bytes → Option (Given ℕ) → Given Where
where_by bs (Some g) = g >>= λ n. Ok (AtMark n)
where_by bs None =
    if bytes_eq bs (codes "inline") then Ok AtBlock
    else (if is_null bs then Err faults.Unsupported
    else (if is_any_name_text bs then Ok (AtName bs) else Err faults.BadLine))

-- where the bytes of a modify are
abbrev pub where_of : Bytes → Given Where
where_of bs = where_by bs (colon_number bs)

-- a gitlink is given by its digits alone
abbrev pub suits : Mode → Where → Given (Unit {0})
suits modes.Gitlink (AtMark n) = Err faults.Unsupported
suits modes.Gitlink AtBlock = Err faults.Unsupported
suits modes.Gitlink (AtName ds) = Ok tt
suits modes.File at = Ok tt
suits modes.Exec at = Ok tt
suits modes.Link at = Ok tt
suits modes.Dir at = Ok tt

-- the content of a modify: what its line names, or the block that follows
abbrev pub bytes_from : Where → Stream → Read DataRef
bytes_from (AtMark n) s = Ok (Mark n, s)
bytes_from (AtName ds) s = Ok (Object ds, s)
bytes_from AtBlock s = block s >>= λ b. Ok (Inline b.0, b.1)

-- a modify, with its parts from left to right
unfoldable pub modify_at : Bytes → Stream → Read Change
modify_at bs s = do
  first ← Ok (part_of bs)
  mode ← mode_of first.word
  second ← rest_of first >>= λ r. Ok (part_of r)
  at ← where_of second.word
  fits ← suits mode at
  path ← rest_of second >>= last_path
  bytes ← bytes_from at s
  Ok (Modify mode bytes.0 path, bytes.1)

-- a source and a destination
unfoldable pub two_paths : Bytes → Given (Path × Path)
two_paths bs = do
  source ← source_path bs
  destination ← last_path source.1
  Ok (source.0, destination)

-- the change at a line, where it is one
unfoldable pub change_at : Words → Stream → Option (Read Change)
change_at w s =
    if is_word w (codes "M") then Some (rest_of w >>= λ r. modify_at r s)
    else (if is_word w (codes "D") then Some (rest_of w >>= λ r. last_path r >>= λ p. Ok (Remove p, s))
    else (if is_word w (codes "C") then Some (rest_of w >>= λ r. two_paths r >>= λ p. Ok (Copy p.0 p.1, s))
    else (if is_word w (codes "R") then Some (rest_of w >>= λ r. two_paths r >>= λ p. Ok (Rename p.0 p.1, s))
    else (if is_word w (codes "deleteall") then Some (bare w >>= λ u. Ok (Clear, s))
    else (if is_word w (codes "N") then Some (Err faults.Unsupported) else None)))))

-- the changes of at most n items

unfoldable pub changes_within : ℕ → List Item → Stream → Read (List Change)
changes_within n [] s = at_end s.end (Ok ([], s))
changes_within zero (i ∷ more) s = Ok ([], s)
changes_within (suc n) (Data b ∷ more) s = Ok ([], s)
changes_within (suc n) (Line l ∷ more) s = by (change_at (words_of l) (after more s)) (λ t. changes_within n t.items t) s where
  by : Option (Read Change) → (Stream → Read (List Change)) → Stream → Read (List Change)
  by None again s = Ok ([], s)
  by (Some read) again s = read >>= λ x. again x.1 >>= λ xs. Ok (x.0 ∷ xs.0, xs.1)

-- the changes that come next
abbrev pub changes : Stream → Read (List Change)
changes s = changes_within (length s.items) s.items s

-- the merge lines that come next, at most n
unfoldable pub merges_within : ℕ → Stream → Read (List CommitIsh)
merges_within zero s = Ok ([], s)
merges_within (suc n) s = optional (codes "merge") commit_ish_of s >>= λ x. by x.0 x.1 (merges_within n x.1) where
  by : Option CommitIsh → Stream → Read (List CommitIsh) → Read (List CommitIsh)
  by None t again = Ok ([], t)
  by (Some c) t again = again >>= λ xs. Ok (c ∷ xs.0, xs.1)

-- the merge lines that come next
abbrev pub merges : Stream → Read (List CommitIsh)
merges s = merges_within (suc (length s.items)) s

-- what stands after a commit or a reset: an empty line is taken, and another item stays
unfoldable pub item_after_in : List Item → Stream → Read (Unit {0})
item_after_in [] s = at_end s.end (Ok (tt, s))
item_after_in (Data b ∷ more) s = Ok (tt, s)
item_after_in (Line [] ∷ more) s = Ok (tt, after more s)
item_after_in (Line (b ∷ bs) ∷ more) s = Ok (tt, s)

-- what stands after a commit or a reset: an empty line is taken
abbrev pub item_after : Stream → Read (Unit {0})
item_after s = item_after_in s.items s

-- ---- commands

-- no signature follows a committer
unfoldable pub unsigned_in : List Item → Stream → Read (Unit {0})
unsigned_in [] s = at_end s.end (Ok (tt, s))
unsigned_in (Data b ∷ more) s = Ok (tt, s)
unsigned_in (Line l ∷ more) s = if is_word (words_of l) (codes "gpgsig") then Err faults.Unsupported else Ok (tt, s)

-- no signature comes next
abbrev pub unsigned : Stream → Read (Unit {0})
unsigned s = unsigned_in s.items s

-- a blob command, behind its first line
unfoldable pub blob_at : Stream → Read Command
blob_at s = do
  mark ← optional (codes "mark") mark_of s
  oid ← optional (codes "original-oid") any_text mark.1
  bytes ← block oid.1
  Ok (Blob (record { mark = mark.0; bytes = bytes.0 }), bytes.1)

-- the parents and the changes of a commit
unfoldable pub links_at : Stream → Read (Option CommitIsh × (List CommitIsh × List Change))
links_at s = do
  parent ← optional (codes "from") commit_ish_of s
  merged ← merges parent.1
  changed ← changes merged.1
  ended ← item_after changed.1
  Ok ((parent.0, (merged.0, changed.0)), ended.1)

-- a commit command, behind its first line
unfoldable pub commit_at : Bytes → Stream → Read Command
commit_at ref s = do
  mark ← optional (codes "mark") mark_of s
  oid ← optional (codes "original-oid") any_text mark.1
  author ← optional (codes "author") ident_of oid.1
  committer ← needed (codes "committer") ident_of author.1
  plain ← unsigned committer.1
  encoding ← optional (codes "encoding") encoding_of plain.1
  message ← block encoding.1
  links ← links_at message.1
  Ok (Commit (record { ref = ref; mark = mark.0; author = author.0; committer = committer.0; headers = encoding_header encoding.0; message = message.0; parent = links.0.0; merges = links.0.1.0; changes = links.0.1.1 }), links.1)

-- a tag command, behind its first line
unfoldable pub tag_at : Bytes → Stream → Read Command
tag_at name s = do
  mark ← optional (codes "mark") mark_of s
  target ← needed (codes "from") commit_ish_of mark.1
  oid ← optional (codes "original-oid") any_text target.1
  tagger ← optional (codes "tagger") ident_of oid.1
  message ← block tagger.1
  Ok (Tag (record { name = name; mark = mark.0; target = target.0; tagger = tagger.0; message = message.0 }), message.1)

-- a reset command, behind its first line
unfoldable pub reset_at : Bytes → Stream → Read Command
reset_at ref s = do
  parent ← optional (codes "from") commit_ish_of s
  ended ← item_after parent.1
  Ok (Reset (record { ref = ref; parent = parent.0 }), ended.1)

-- options stand before every other command
abbrev pub if_early : {A : Type 0} → Bool → Given A → Given A
if_early true x = x
if_early false x = Err faults.LateOption

-- the command that begins with a line; early says that only options stood before it
unfoldable pub command_at : Bool → Words → Stream → Read Command
command_at early w s =
    if is_word w (codes "blob") then (bare w >>= λ u. blob_at s)
    else (if is_word w (codes "commit") then (rest_of w >>= λ r. ref_of r >>= λ ref. commit_at ref s)
    else (if is_word w (codes "tag") then (rest_of w >>= λ r. tag_of r >>= λ name. tag_at name s)
    else (if is_word w (codes "reset") then (rest_of w >>= λ r. ref_of r >>= λ ref. reset_at ref s)
    else (if is_word w (codes "checkpoint") then (bare w >>= λ u. Ok (Checkpoint, s))
    else (if is_word w (codes "progress") then (rest_of w >>= λ r. Ok (Progress r, s))
    else (if is_word w (codes "feature") then (rest_of w >>= λ r. if_early early (feature_of r >>= λ f. Ok (Asks f, s)))
    else (if is_word w (codes "option") then (rest_of w >>= λ r. if_early early (Ok (OptionLine r, s)))
    else (if is_word w (codes "done") then (bare w >>= λ u. Ok (Done, s))
    else (if is_word w (codes "ls") || is_word w (codes "cat-blob") || is_word w (codes "get-mark") || is_word w (codes "alias") then Err faults.Unsupported
    else Err faults.UnknownCommand)))))))))

-- a feature or an option
abbrev pub is_option : Command → Bool
is_option (Asks f) = true
is_option (OptionLine t) = true
is_option (Blob p) = false
is_option (Commit p) = false
is_option (Tag p) = false
is_option (Reset p) = false
is_option Checkpoint = false
is_option (Progress t) = false
is_option Done = false

-- a feature that asks for `done`
abbrev pub asks_done : Command → Bool
asks_done (Asks features.Done) = true
asks_done (Asks features.RawDates) = false
asks_done (Asks features.Force) = false
asks_done (OptionLine t) = false
asks_done (Blob p) = false
asks_done (Commit p) = false
asks_done (Tag p) = false
asks_done (Reset p) = false
asks_done Checkpoint = false
asks_done (Progress t) = false
asks_done Done = false

-- the command `done`
abbrev pub is_done : Command → Bool
is_done Done = true
is_done (Asks f) = false
is_done (OptionLine t) = false
is_done (Blob p) = false
is_done (Commit p) = false
is_done (Tag p) = false
is_done (Reset p) = false
is_done Checkpoint = false
is_done (Progress t) = false

-- the end of the items where a command is expected: before has the commands that came
abbrev pub fault_at_end : List Command → End → Option Fault
fault_at_end before Finished = if list_any asks_done before then Some faults.MissingDone else None
fault_at_end before (Failed f) = Some f

-- no command, and this fault, if there is one
abbrev pub stops : Option Fault → Commands
stops f = record { list = []; fault = f }

-- a command, and then these
abbrev pub with_command : Command → Commands → Commands
with_command c cs = record { list = c ∷ cs.list; fault = cs.fault }

-- the commands of at most n items, after the commands before
unfoldable pub commands_within : ℕ → List Command → List Item → End → Commands
commands_within n before [] end = stops (fault_at_end before end)
commands_within zero before (i ∷ more) end = stops None
commands_within (suc n) before (Data b ∷ more) end = stops (Some faults.UnknownCommand)
commands_within (suc n) before (Line [] ∷ more) end = commands_within n before more end
commands_within (suc n) before (Line (b ∷ bs) ∷ more) end =
    by (command_at (list_all is_option before) (words_of (b ∷ bs)) (record { items = more; end = end })) (λ c t. commands_within n (before ++ c ∷ []) t.items t.end) where
      by : Read Command → (Command → Stream → Commands) → Commands
      by (Err f) again = stops (Some f)
      by (Ok x) again = if is_done x.0 then with_command x.0 (stops None) else with_command x.0 (again x.0 x.1)

-- the commands that ask for these features
abbrev pub asked : Features → List Command
asked f = (if f.done then Asks features.Done ∷ [] else []) ++ (if f.force then Asks features.Force ∷ [] else [])

-- the commands of items with their end, where these features are asked for as if commands before them had asked
abbrev pub commands_asked : Features → Stream → Commands
commands_asked f s = commands_within (length s.items) (asked f) s.items s.end

-- the commands of items with their end
abbrev pub commands_of : Stream → Commands
commands_of = commands_asked no_features
