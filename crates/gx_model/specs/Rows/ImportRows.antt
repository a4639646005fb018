-- Worked rows on imports: what streams give, and why they are refused.
use Rattle.std.specs.Prelude.{◌≡◌, ℕ, true, false, List, [], ◌∷◌, ◌++◌, map, replicate, codes, Option, Some, None, Ok, Err, refl}
use Rattle.std.specs.Fmt.{digits}
use Rattle.std.specs.Option.{option_map}
use Rattle.gx_model.specs.declared.objects.Kind.TheVariants.{Blob}
use Rattle.gx_model.specs.declared.objects.Mode.TheVariants.{File, Dir}
use Rattle.gx_model.specs.declared.faults.Fault.{Fault}
use Rattle.gx_model.specs.declared.faults.Fault.TheVariants as fault
use Rattle.gx_model.specs.Texts.{Bytes, cut_at}
use Rattle.gx_model.specs.Texts.Idents.{is_ident}
use Rattle.gx_model.specs.Texts.Paths.{path_of, path_text, char_at, unquote_within, quoted_of}
use Rattle.gx_model.specs.Streams.Items.{counted_block, lines_before, delimited, first_line, first_of, read_upto, items_of}
use Rattle.gx_model.specs.Streams.Grammar.{unsigned_in, item_after_in, modify_at, two_paths, change_at, changes_within, merges_within, blob_at, commit_at, links_at, tag_at, reset_at, command_at, commands_within}
use Rattle.gx_model.specs.Streams.Lines.{rest_line_in, block_in, mark_of, commit_ish_of, last_path, source_path}
use Rattle.gx_model.specs.Faults.{Given, ◌>>=◌}
use Rattle.gx_model.specs.Revisions.{revision_of}
use Rattle.gx_model.specs.Histories.Files.{FileMap}
use Rattle.gx_model.specs.Histories.Edits.{renamed}
use Rattle.gx_model.specs.Histories.Values.{Commit, blob_value, commit, none, commit_value, tree_value}
use Rattle.gx_model.specs.Objects.{Entry, is_canonical}
use Rattle.gx_model.specs.Records.{body_of, entries, named_map}
use Rattle.gx_model.specs.Histories.{History, no_history}
use Rattle.gx_model.specs.Revisions.Denotation.{Shown, denoted, object}
use Rattle.gx_model.specs.Objects.Naming.{short_name}
use Rattle.gx_model.specs.Replay.{Kept, Outcome, finished, imported_asked, refused}
use Rattle.gx_model.specs.Rows.RowTexts.{acceptance, history_after, history_of_lines, imported_lines, imported_to, kept_after, refusal, shown}

-- one commit on main with these changes
abbrev on_main : List Bytes → List Bytes
on_main changes = codes "commit refs/heads/main" ∷ codes "committer A <a@x> 1 +0000" ∷ codes "data 0" ∷ changes

abbrev first_commit : List Bytes
first_commit =
    codes "commit refs/heads/main" ∷
    codes "mark :1" ∷
    codes "committer A <a@x> 1 +0000" ∷
    codes "data 2" ∷
    codes "v1" ∷
    codes "M 100644 inline test.txt" ∷
    codes "data 10" ∷
    codes "version 1" ∷ []

-- the next commit on a published main, after these lines
abbrev next_commit : List Bytes → List Bytes
next_commit ls = codes "commit refs/heads/main" ∷ codes "committer A <a@x> 2 +0000" ∷ codes "data 2" ∷ codes "v2" ∷ ls

-- ---- trees

abbrev hello : Bytes
hello = codes "hello" ++ 10 ∷ []

abbrev version_1 : Bytes
version_1 = codes "version 1" ++ 10 ∷ []

abbrev file_a_b : List Bytes
file_a_b = codes "M 100644 inline a.b" ∷ codes "data 6" ∷ codes "hello" ∷ []

abbrev file_a0 : List Bytes
file_a0 = codes "M 100644 inline a0" ∷ codes "data 6" ∷ codes "hello" ∷ []

abbrev file_below_a : List Bytes
file_below_a = codes "M 100644 inline a/test.txt" ∷ codes "data 10" ∷ codes "version 1" ∷ []

-- the three in each order
abbrev six_orders : List (List Bytes)
six_orders =
    (file_a_b ++ file_a0 ++ file_below_a) ∷ (file_a_b ++ file_below_a ++ file_a0) ∷ (file_a0 ++ file_a_b ++ file_below_a)
    ∷ (file_a0 ++ file_below_a ++ file_a_b) ∷ (file_below_a ++ file_a_b ++ file_a0) ∷ (file_below_a ++ file_a0 ++ file_a_b) ∷ []

abbrev three_files : FileMap Bytes
three_files = (codes "a.b" ∷ [], (File, hello)) ∷ (codes "a" ∷ codes "test.txt" ∷ [], (File, version_1)) ∷ (codes "a0" ∷ [], (File, hello)) ∷ []

abbrev three_entries : List Entry
three_entries =
    record { mode = File; component = codes "a.b"; name = short_name Blob hello }
    ∷ record { mode = Dir; component = codes "a"; name = replicate 18 17 ++ 1 ∷ 36 ∷ [] }
    ∷ record { mode = File; component = codes "a0"; name = short_name Blob hello } ∷ []

-- the second entry before the first: the order of plain components
abbrev in_component_order : List Entry → List Entry
in_component_order (e ∷ f ∷ es) = f ∷ e ∷ es
in_component_order es = es

abbrev test_files : FileMap Bytes
test_files = (codes "test.txt" ∷ [], (File, version_1)) ∷ []

abbrev two_files : FileMap Bytes
two_files = (codes "a" ∷ codes "test.txt" ∷ [], (File, version_1)) ∷ (codes "a0" ∷ [], (File, hello)) ∷ []

abbrev two_files_made : Commit
two_files_made = commit two_files none (record { author = codes "A <a@x> 1 +0000"; committer = codes "A <a@x> 1 +0000"; headers = []; message = [] })

-- the tree of main after a commit with these changes
abbrev main_tree : List Bytes → Given Shown
main_tree changes = shown (history_of_lines (on_main changes)) (codes "main^{tree}")

abbrev of_tree : FileMap Bytes → Given Shown
of_tree f = Ok (object (tree_value f))

pub record TreeRows : Type 0 where
  -- the files are the same in whichever order they come
  pub any_order : map main_tree six_orders ≡ replicate 6 (of_tree three_files)
  -- a directory stands among the entries as if its name ended in a slash
  pub slash_order : entries short_name (named_map short_name three_files) ≡ three_entries
  pub canonical : map is_canonical (three_entries ∷ in_component_order three_entries ∷ []) ≡ true ∷ false ∷ []
  -- what a commit lacks is added first: blobs as they come, then each tree after those below it
  pub below_first : (history_of_lines (on_main (file_below_a ++ file_a0))).values ≡ blob_value version_1 ∷ blob_value hello ∷ tree_value test_files ∷ tree_value two_files ∷ commit_value two_files_made ∷ []
  -- a directory goes with its last file: the tree is the empty one
  pub no_empty_directory : main_tree (codes "M 100644 inline d/e/f" ∷ codes "data 0" ∷ codes "D d/e/f" ∷ []) ≡ of_tree []
  pub empty_tree : body_of short_name (tree_value []) ≡ []

pub tree_rows : TreeRows
unfolding char_at unsigned_in item_after_in rest_line_in block_in cut_at is_ident unquote_within quoted_of mark_of commit_ish_of last_path source_path modify_at two_paths change_at changes_within merges_within blob_at commit_at links_at tag_at reset_at command_at commands_within counted_block lines_before delimited first_line first_of read_upto items_of digits revision_of imported_asked denoted short_name
tree_rows = record { any_order = refl; slash_order = refl; canonical = refl; below_first = refl; no_empty_directory = refl; empty_tree = refl }

-- ---- copies and renames

-- the paths of a shown tree, or the fault
abbrev paths_in : Shown → List Bytes
paths_in (object (tree_value f)) = map (λ e. path_text e.0) f
paths_in _ = []

abbrev paths_after : Outcome → Given (List Bytes)
paths_after (finished h x r) = shown h (codes "main^{tree}") >>= λ v. Ok (paths_in v)
paths_after (refused n f x k) = Err f

-- the files `a` and `d/x`, and then this change
abbrev after_change : Bytes → Given (List Bytes)
after_change change = paths_after (imported_lines (on_main (codes "M 100644 inline a" ∷ codes "data 0" ∷ codes "M 100644 inline d/x" ∷ codes "data 0" ∷ change ∷ [])))

abbrev copies : List (Bytes × Given (List Bytes))
copies =
    (codes "C \"\" d", Ok (codes "a" ∷ codes "d/a" ∷ codes "d/d/x" ∷ []))
    ∷ (codes "R \"\" d", Ok (codes "d/a" ∷ codes "d/d/x" ∷ []))
    ∷ (codes "R d \"\"", Ok (codes "x" ∷ []))
    ∷ (codes "C a \"\"", Err fault.RootNotTree)
    ∷ (codes "C a a/b", Ok (codes "a/b" ∷ codes "d/x" ∷ []))
    ∷ (codes "C d d/e", Ok (codes "a" ∷ codes "d/e/x" ∷ codes "d/x" ∷ []))
    ∷ (codes "C q \"\"", Err fault.NoSuchPath)
    ∷ []

abbrev below_a : List Bytes
below_a = on_main (codes "M 644 inline a" ∷ codes "data 6" ∷ codes "hello" ∷ codes "M 644 inline a/b" ∷ codes "data 10" ∷ codes "version 1" ∷ [])

abbrev moved_below_itself : History
moved_below_itself = history_of_lines (below_a ++ next_commit (codes "R a a/c" ∷ []))

-- a file below `e` whose path has 4,095 bytes
abbrev long_below_e : FileMap Bytes
long_below_e = (codes "e" ∷ replicate 4093 97 ∷ [], (File, [])) ∷ []

abbrev long_below_d : FileMap Bytes
long_below_d = (codes "d" ∷ replicate 4093 97 ∷ [], (File, [])) ∷ []

pub record CopyRows : Type 0 where
  -- what each change makes of the files `a` and `d/x`
  pub table : map (λ r. after_change r.0) copies ≡ map (λ r. r.1) copies
  -- an empty root is no source
  pub no_root : refusal (imported_lines (on_main (codes "C \"\" d" ∷ []))) ≡ Some (1, fault.NoSuchPath)
  -- a file gives way to a directory of its name
  pub file_gives_way : shown (history_of_lines below_a) (codes "main^{tree}") ≡ of_tree ((codes "a" ∷ codes "b" ∷ [], (File, version_1)) ∷ [])
  -- a directory is moved below itself, and the commit before is as it was
  pub moved : shown moved_below_itself (codes "main^{tree}") ≡ of_tree ((codes "a" ∷ codes "c" ∷ codes "b" ∷ [], (File, version_1)) ∷ [])
  pub before : shown moved_below_itself (codes "main~1:a/b") ≡ Ok (object (blob_value version_1))
  -- a rename to the same path changes nothing
  pub renamed_to_itself : shown (history_of_lines (below_a ++ next_commit (codes "R a a" ∷ []))) (codes "main^{tree}") ≡ of_tree ((codes "a" ∷ codes "b" ∷ [], (File, version_1)) ∷ [])
  -- a path may have 4,095 bytes and no more, as it is read and after a move
  pub long_path : map path_of (replicate 4095 97 ∷ replicate 4096 97 ∷ []) ≡ Ok (replicate 4095 97 ∷ []) ∷ Err fault.PathTooLong ∷ []
  pub long_move : map (λ c. renamed long_below_e (codes "e" ∷ []) (c ∷ [])) (codes "d" ∷ codes "dd" ∷ []) ≡ Ok long_below_d ∷ Err fault.PathTooLong ∷ []

pub copy_rows : CopyRows
unfolding char_at unsigned_in item_after_in rest_line_in block_in cut_at is_ident unquote_within quoted_of mark_of commit_ish_of last_path source_path modify_at two_paths change_at changes_within merges_within blob_at commit_at links_at tag_at reset_at command_at commands_within counted_block lines_before delimited first_line first_of read_upto items_of digits revision_of imported_asked denoted short_name
copy_rows = record { table = refl; no_root = refl; file_gives_way = refl; moved = refl; before = refl; renamed_to_itself = refl; long_path = refl; long_move = refl }

-- ---- the end of an import

abbrev published : History
published = history_of_lines first_commit

abbrev continued : History
continued = history_after (imported_to published (next_commit (codes "from refs/heads/main^0" ∷ [])))

abbrev two_commits_without_done : List Bytes
two_commits_without_done = codes "feature done" ∷ (first_commit ++ next_commit [])

-- what is kept of this many checkpoints
abbrev at_checkpoint : History → ℕ → Kept
at_checkpoint h n = record { history = h; checkpoints = n }

pub record EndRows : Type 0 where
  -- a published branch goes on from its own commit, or else by force
  pub not_forward : refusal (imported_to published (next_commit [])) ≡ Some (2, fault.NotFastForward)
  pub forward : shown continued (codes "main~1") ≡ shown published (codes "main")
  pub from_itself : refusal (imported_to published (next_commit (codes "from refs/heads/main" ∷ []))) ≡ Some (1, fault.FromItself)
  pub merge_of_itself : refusal (imported_to published (next_commit (codes "merge refs/heads/main" ∷ []))) ≡ Some (1, fault.FromItself)
  pub forced : refusal (imported_to published (codes "feature force" ∷ next_commit [])) ≡ None
  -- the stream that asks for it ends with `done`
  pub missing_done : refusal (imported_lines two_commits_without_done) ≡ Some (4, fault.MissingDone)
  -- an option stands before every other command
  pub late_option : refusal (imported_lines (codes "blob" ∷ codes "data 0" ∷ [] ∷ codes "option git quiet" ∷ [])) ≡ Some (2, fault.LateOption)
  -- the report counts commands, values and refs
  pub progress : acceptance (imported_lines (codes "progress half" ∷ [])) ≡ Some (codes "progress half" ++ 10 ∷ [], record { commands = 1; objects = 0; refs = 0 })
  pub one_commit : acceptance (imported_lines first_commit) ≡ Some ([], record { commands = 1; objects = 3; refs = 1 })
  -- progress that went out before a refusal stays out
  pub progress_so_far : imported_lines (codes "progress half" ∷ codes "foo" ∷ []) ≡ refused 2 fault.UnknownCommand (codes "progress half" ++ 10 ∷ []) (at_checkpoint no_history 0)

pub end_rows : EndRows
unfolding char_at unsigned_in item_after_in rest_line_in block_in cut_at is_ident unquote_within quoted_of mark_of commit_ish_of last_path source_path modify_at two_paths change_at changes_within merges_within blob_at commit_at links_at tag_at reset_at command_at commands_within counted_block lines_before delimited first_line first_of read_upto items_of digits revision_of imported_asked denoted short_name
end_rows = record { not_forward = refl; forward = refl; from_itself = refl; merge_of_itself = refl; forced = refl; missing_done = refl; late_option = refl; progress = refl; one_commit = refl; progress_so_far = refl }

-- ---- checkpoints

-- the first commit, a checkpoint, and then these lines
abbrev checkpoint_then : List Bytes → List Bytes
checkpoint_then ls = first_commit ++ codes "checkpoint" ∷ ls

-- main is reset, and a commit without a parent is made there
abbrev from_anew : List Bytes → List Bytes
from_anew ls = codes "reset refs/heads/main" ∷ next_commit ls

-- the number, the fault and what is kept
abbrev refusal_kept : List Bytes → Option (ℕ × Fault) × Option Kept
refusal_kept ls = let o = imported_lines ls in (refusal o, kept_after o)

-- refused with this number and fault, the history as after the first commit, and so many checkpoints
abbrev keeps_first : ℕ → Fault → ℕ → Option (ℕ × Fault) × Option Kept
keeps_first n f count = (Some (n, f), Some (at_checkpoint published count))

-- a second branch that begins at a ref
abbrev branch_of_main : List Bytes
branch_of_main = codes "commit refs/heads/b" ∷ codes "committer A <a@x> 2 +0000" ∷ codes "data 2" ∷ codes "v2" ∷ codes "from main" ∷ []

abbrev both_branches : History
both_branches = history_of_lines (checkpoint_then branch_of_main)

-- main is reset after a checkpoint
abbrev reset_after : Outcome
reset_after = imported_lines (checkpoint_then (codes "reset refs/heads/main" ∷ []))

-- how many checkpoints were applied, and where main stands
abbrev count_and_main : Kept → ℕ × Given Shown
count_and_main k = (k.checkpoints, shown k.history (codes "main"))

-- a checkpoint, a commit without a parent, and a second checkpoint
abbrev two_checkpoints : List Bytes
two_checkpoints = checkpoint_then (from_anew (codes "checkpoint" ∷ codes "foo" ∷ []))

pub record CheckpointRows : Type 0 where
  -- a refusal leaves what the last checkpoint published
  pub unknown_command : refusal_kept (checkpoint_then (codes "foo" ∷ [])) ≡ keeps_first 3 fault.UnknownCommand 1
  pub missing_done : refusal_kept (codes "feature done" ∷ checkpoint_then []) ≡ keeps_first 4 fault.MissingDone 1
  -- the end goes on from what a checkpoint published
  pub not_forward : refusal_kept (checkpoint_then (from_anew [])) ≡ keeps_first 5 fault.NotFastForward 1
  pub unpublished : shown (history_of_lines (first_commit ++ from_anew [])) (codes "main^") ≡ Err fault.NoParent
  -- revisions are read over the refs that it published
  pub branch_of_ref : shown both_branches (codes "b^") ≡ shown both_branches (codes "main")
  pub no_ref_yet : refusal_kept (first_commit ++ branch_of_main) ≡ (Some (2, fault.UnknownRef), Some (at_checkpoint no_history 0))
  -- a ref that it published stays, and is counted
  pub reset_history : history_after reset_after ≡ published
  pub reset_report : acceptance reset_after ≡ Some ([], record { commands = 3; objects = 3; refs = 1 })
  pub reset_alone : acceptance (imported_lines (first_commit ++ codes "reset refs/heads/main" ∷ [])) ≡ Some ([], record { commands = 2; objects = 3; refs = 0 })
  -- a checkpoint has the condition of the end, and its own number
  pub at_second : refusal_kept two_checkpoints ≡ keeps_first 5 fault.NotFastForward 1
  pub at_second_forced : refusal (imported_lines (codes "feature force" ∷ two_checkpoints)) ≡ Some (7, fault.UnknownCommand)
  pub both_hold : option_map count_and_main (kept_after (imported_lines (codes "feature force" ∷ two_checkpoints))) ≡ Some (2, shown (history_of_lines (from_anew [])) (codes "main"))

pub checkpoint_rows : CheckpointRows
unfolding char_at unsigned_in item_after_in rest_line_in block_in cut_at is_ident unquote_within quoted_of mark_of commit_ish_of last_path source_path modify_at two_paths change_at changes_within merges_within blob_at commit_at links_at tag_at reset_at command_at commands_within counted_block lines_before delimited first_line first_of read_upto items_of digits revision_of imported_asked denoted short_name
checkpoint_rows = record {
  unknown_command = refl;
  missing_done = refl;
  not_forward = refl;
  unpublished = refl;
  branch_of_ref = refl;
  no_ref_yet = refl;
  reset_history = refl;
  reset_report = refl;
  reset_alone = refl;
  at_second = refl;
  at_second_forced = refl;
  both_hold = refl;
}

-- ---- refusals

abbrev refusals : List (List Bytes × (ℕ × Fault))
refusals =
    (on_main (codes "M 100644 :9 f" ∷ []), (1, fault.UnknownMark))
    ∷ (on_main (codes "M 100644 inline " ∷ codes "data 0" ∷ []), (1, fault.RootNotTree))
    ∷ (on_main (codes "M 777 inline f" ∷ []), (1, fault.BadMode))
    ∷ (on_main (codes "M 040000 inline d" ∷ []), (1, fault.Unsupported))
    ∷ (on_main (codes "D /a" ∷ []), (1, fault.BadPath))
    ∷ (on_main (codes "C a b" ∷ []), (1, fault.NoSuchPath))
    ∷ (on_main (codes "from main" ∷ []), (1, fault.UnknownRef))
    ∷ (on_main (codes "merge ffffffffffffffffffffffffffffffffffffffff" ∷ []), (1, fault.UnknownObject))
    ∷ (on_main (codes "N inline :1" ∷ []), (1, fault.Unsupported))
    ∷ (codes "blob" ∷ codes "mark :0" ∷ [], (1, fault.BadNumber))
    ∷ (codes "blob x" ∷ [], (1, fault.BadLine))
    ∷ (codes "foo" ∷ [], (1, fault.UnknownCommand))
    ∷ (codes "commit refs/heads/a..b" ∷ [], (1, fault.BadRefName))
    ∷ (codes "commit refs/heads/main" ∷ codes "committer A a@x 1 +0000" ∷ codes "data 0" ∷ [], (1, fault.BadIdent))
    ∷ (codes "reset refs/heads/x" ∷ codes "reset refs/heads/y" ∷ codes "from refs/heads/x" ∷ [], (2, fault.EmptyBranch))
    ∷ (codes "blob" ∷ codes "mark :1" ∷ codes "data 0" ∷ codes "commit refs/heads/main" ∷ codes "committer A <a@x> 1 +0000" ∷ codes "data 0" ∷ codes "from :1" ∷ [], (2, fault.WrongKind))
    ∷ []

pub refused_so : map (λ r. refusal (imported_lines r.0)) refusals ≡ map (λ r. Some r.1) refusals
unfolding char_at unsigned_in item_after_in rest_line_in block_in cut_at is_ident unquote_within quoted_of mark_of commit_ish_of last_path source_path modify_at two_paths change_at changes_within merges_within blob_at commit_at links_at tag_at reset_at command_at commands_within counted_block lines_before delimited first_line first_of read_upto items_of digits revision_of imported_asked denoted short_name
refused_so = refl
