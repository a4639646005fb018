-- Worked streams that are refused: at which command, and why. Each row holds by computing.
use Rattle.std.specs.Prelude.{◌≡◌, ℕ, true, List, [], ◌∷◌, ◌++◌, map, replicate, Option, Some, codes, refl}
use Rattle.gx_model.specs.declared.faults.Fault.{Fault}
use Rattle.gx_model.specs.declared.faults.Fault.TheVariants as faults
use Rattle.gx_model.specs.Texts.{Bytes, cut_at}
use Rattle.gx_model.specs.Texts.Idents.{is_ident}
use Rattle.gx_model.specs.Texts.Paths.{char_at, unquote_within, quoted_of}
use Rattle.gx_model.specs.Streams.Spelling.{text_of_lines}
use Rattle.gx_model.specs.Streams.Items.{counted_block, lines_before, delimited, first_line, first_of, read_upto, items_of}
use Rattle.gx_model.specs.Streams.Commands.{Progress, Commands, faulty_command}
use Rattle.gx_model.specs.Streams.Grammar.{unsigned_in, item_after_in, modify_at, two_paths, change_at, changes_within, merges_within, blob_at, links_at, commit_at, tag_at, reset_at, command_at, commands_within, commands_of}
use Rattle.gx_model.specs.Streams.Lines.{rest_line_in, block_in, mark_of, commit_ish_of, last_path, source_path}
use Rattle.gx_model.specs.Rows.StreamRows.{read_lines, committer, commit_head}

-- ---- refusals

-- which command is refused, and why
pub record RefusalRow : Type 0 where
  pub lines : List Bytes
  pub command : ℕ
  pub fault : Fault

abbrev pub zeros : Bytes
zeros = replicate 40 48

-- refused at the first command
abbrev pub first_refusals : List (List Bytes × Fault)
first_refusals =
    (codes "foo" ∷ [], faults.UnknownCommand)
    ∷ (codes "data 0" ∷ [], faults.UnknownCommand)
    ∷ (codes "M 100644 :1 f" ∷ [], faults.UnknownCommand)
    ∷ (codes "gpgsig sha1 openpgp" ∷ [], faults.UnknownCommand)
    ∷ (codes "ls \"\"" ∷ [], faults.Unsupported)
    ∷ (codes "cat-blob :1" ∷ [], faults.Unsupported)
    ∷ (codes "get-mark :1" ∷ [], faults.Unsupported)
    ∷ (codes "alias" ∷ [], faults.Unsupported)
    -- a rest that is missing, or that stands where none may
    ∷ (codes "blob x" ∷ [], faults.BadLine)
    ∷ (codes "blob " ∷ [], faults.BadLine)
    ∷ (codes "checkpoint x" ∷ [], faults.BadLine)
    ∷ (codes "done x" ∷ [], faults.BadLine)
    ∷ (codes "commit" ∷ [], faults.BadLine)
    ∷ (codes "tag" ∷ [], faults.BadLine)
    ∷ (codes "reset" ∷ [], faults.BadLine)
    ∷ (codes "progress" ∷ [], faults.BadLine)
    ∷ (codes "feature" ∷ [], faults.BadLine)
    ∷ (codes "option" ∷ [], faults.BadLine)
    ∷ (codes "feature notes" ∷ [], faults.Unsupported)
    -- ref names
    ∷ (codes "commit " ∷ [], faults.BadRefName)
    ∷ (codes "commit refs/heads/a..b" ∷ [], faults.BadRefName)
    ∷ (codes "tag a..b" ∷ [], faults.BadRefName)
    ∷ (codes "reset @" ∷ [], faults.BadRefName)
    -- marks
    ∷ (codes "blob" ∷ codes "mark 1" ∷ [], faults.BadLine)
    ∷ (codes "blob" ∷ codes "mark" ∷ [], faults.BadLine)
    ∷ (codes "blob" ∷ codes "mark :" ∷ [], faults.BadNumber)
    ∷ (codes "blob" ∷ codes "mark :0" ∷ [], faults.BadNumber)
    ∷ (codes "blob" ∷ codes "mark :1x" ∷ [], faults.BadNumber)
    ∷ (codes "blob" ∷ codes "mark :18446744073709551616" ∷ [], faults.BadNumber)
    -- lines and data that are missing
    ∷ (codes "blob" ∷ [], faults.BadLine)
    ∷ (codes "blob" ∷ codes "original-oid" ∷ [], faults.BadLine)
    ∷ (codes "blob" ∷ codes "original-oid x" ∷ codes "mark :1" ∷ codes "data 0" ∷ [], faults.BadLine)
    ∷ (codes "blob" ∷ codes "data 5" ∷ codes "abc" ∷ [], faults.TruncatedData)
    ∷ (codes "blob" ∷ codes "data 18446744073709551615" ∷ codes "x" ∷ [], faults.TruncatedData)
    ∷ (codes "blob" ∷ codes "data x" ∷ [], faults.BadNumber)
    ∷ (codes "commit refs/heads/a" ∷ [], faults.BadLine)
    ∷ (codes "commit refs/heads/a" ∷ codes "data 0" ∷ [], faults.BadLine)
    ∷ (codes "commit refs/heads/a" ∷ (codes "committer " ++ committer) ∷ (codes "author " ++ committer) ∷ codes "data 0" ∷ [], faults.BadLine)
    ∷ (codes "commit refs/heads/a" ∷ (codes "committer " ++ committer) ∷ [], faults.BadLine)
    ∷ (codes "tag v1" ∷ codes "data 0" ∷ [], faults.BadLine)
    -- identities
    ∷ (codes "commit refs/heads/a" ∷ codes "committer A a@x 1 +0000" ∷ [], faults.BadIdent)
    ∷ (codes "commit refs/heads/a" ∷ codes "committer A <a@x> 1 0000" ∷ [], faults.BadIdent)
    ∷ (codes "commit refs/heads/a" ∷ codes "committer A <a@x> 1 +1401" ∷ [], faults.BadIdent)
    ∷ (codes "commit refs/heads/a" ∷ codes "committer A <a@x> -1 +0000" ∷ [], faults.BadIdent)
    ∷ (codes "commit refs/heads/a" ∷ codes "committer A<a@x> 1 +0000" ∷ [], faults.BadIdent)
    ∷ (codes "commit refs/heads/a" ∷ codes "committer" ∷ [], faults.BadLine)
    ∷ (codes "commit refs/heads/a" ∷ codes "author " ∷ [], faults.BadIdent)
    ∷ (codes "tag v1" ∷ codes "from :1" ∷ codes "tagger x" ∷ [], faults.BadIdent)
    -- what follows a committer
    ∷ (codes "commit refs/heads/a" ∷ (codes "committer " ++ committer) ∷ codes "gpgsig sha1 openpgp" ∷ codes "data 0" ∷ [], faults.Unsupported)
    ∷ (codes "commit refs/heads/a" ∷ (codes "committer " ++ committer) ∷ codes "encoding " ∷ codes "data 0" ∷ [], faults.BadLine)
    ∷ (codes "commit refs/heads/a" ∷ (codes "committer " ++ committer) ∷ codes "encoding x" ∷ codes "gpgsig sha1 openpgp" ∷ codes "data 0" ∷ [], faults.BadLine)
    -- a commit-ish
    ∷ (codes "reset refs/heads/a" ∷ codes "from" ∷ [], faults.BadLine)
    ∷ (codes "reset refs/heads/a" ∷ codes "from :0" ∷ [], faults.BadNumber)
    ∷ (codes "reset refs/heads/a" ∷ (codes "from " ++ zeros) ∷ [], faults.Unsupported)
    ∷ (codes "tag v1" ∷ (codes "from " ++ zeros) ∷ [], faults.Unsupported)
    -- the fault after a commit or a reset is its own
    ∷ (codes "reset refs/heads/a" ∷ codes "data x" ∷ [], faults.BadNumber)
    ∷ (codes "reset refs/heads/a" ∷ codes "from :1" ∷ codes "data x" ∷ [], faults.BadNumber)
    ∷ (commit_head ++ (codes "data 5" ∷ codes "abc" ∷ []), faults.TruncatedData)
    ∷ []

first_refused : map (λ row. read_lines row.0) first_refusals ≡ map (λ row. record { list = []; fault = Some row.1 }) first_refusals
unfolding cut_at is_ident char_at unquote_within quoted_of counted_block lines_before delimited first_line first_of read_upto items_of rest_line_in block_in unsigned_in item_after_in mark_of commit_ish_of last_path source_path modify_at two_paths change_at changes_within merges_within blob_at links_at commit_at tag_at reset_at command_at commands_within
first_refused = refl

-- a commit is refused for this line after its message
abbrev pub line_refusals : List (Bytes × Fault)
line_refusals =
    (codes "from :x", faults.BadNumber)
    ∷ (codes "from " ++ zeros, faults.Unsupported)
    ∷ (codes "merge " ++ zeros, faults.Unsupported)
    ∷ (codes "merge", faults.BadLine)
    ∷ (codes "N inline :1", faults.Unsupported)
    ∷ (codes "N", faults.Unsupported)
    ∷ (codes "deleteall x", faults.BadLine)
    -- a modify is checked from left to right: the mode
    ∷ (codes "M", faults.BadLine)
    ∷ (codes "M ", faults.BadMode)
    ∷ (codes "M 777", faults.BadMode)
    ∷ (codes "M 777 inline f", faults.BadMode)
    ∷ (codes "M 0100644 x", faults.BadMode)
    ∷ (codes "M 040000 inline d", faults.Unsupported)
    ∷ (codes "M 40000", faults.Unsupported)
    -- the dataref
    ∷ (codes "M 100644", faults.BadLine)
    ∷ (codes "M 100644 ", faults.BadLine)
    ∷ (codes "M 100644  f", faults.BadLine)
    ∷ (codes "M 100644 x /a", faults.BadLine)
    ∷ (codes "M 100644 d670460b4b4aece5915caf5c68d12f560a9fe3e /a", faults.BadLine)
    ∷ (codes "M 100644 :x /a", faults.BadNumber)
    ∷ (codes "M 160000 :0 /a", faults.BadNumber)
    ∷ (codes "M 100644 " ++ zeros, faults.Unsupported)
    ∷ (codes "M 160000 " ++ zeros ++ codes " /a", faults.Unsupported)
    -- the two together
    ∷ (codes "M 160000 inline", faults.Unsupported)
    ∷ (codes "M 160000 :1 /a", faults.Unsupported)
    -- the path, before the data that follows
    ∷ (codes "M 100644 inline", faults.BadLine)
    ∷ (codes "M 100644 :1", faults.BadLine)
    ∷ (codes "M 100644 inline /a", faults.BadPath)
    ∷ (codes "M 100644 inline \"a\" ", faults.BadLine)
    ∷ (codes "M 100644 inline f", faults.BadLine)
    -- paths
    ∷ (codes "D", faults.BadLine)
    ∷ (codes "D /a", faults.BadPath)
    ∷ (codes "D a/", faults.BadPath)
    ∷ (codes "D a//b", faults.BadPath)
    ∷ (codes "D a/./b", faults.BadPath)
    ∷ (codes "D ..", faults.BadPath)
    ∷ (codes "D a" ++ 0 ∷ [], faults.BadPath)
    ∷ (codes "D \"a\\000b\"", faults.BadPath)
    ∷ (codes "D \"a", faults.BadPath)
    ∷ (codes "D \"a\\", faults.BadPath)
    ∷ (codes "D \"a\\q\"", faults.BadPath)
    ∷ (codes "D \"\\400\"", faults.BadPath)
    ∷ (codes "D \"\\18\"", faults.BadPath)
    ∷ (codes "D \"a\" b", faults.BadLine)
    ∷ (codes "D \"/a\" b", faults.BadPath)
    -- a source ends at a space, which is looked for before an unquoted source is read, and after a quoted one
    ∷ (codes "C", faults.BadLine)
    ∷ (codes "C a", faults.BadLine)
    ∷ (codes "C /a", faults.BadLine)
    ∷ (codes "C /a b", faults.BadPath)
    ∷ (codes "C a /b", faults.BadPath)
    ∷ (codes "R a", faults.BadLine)
    ∷ (codes "R \"a\"", faults.BadLine)
    ∷ (codes "R \"a\"b c", faults.BadLine)
    ∷ (codes "R \"/a\"b c", faults.BadPath)
    ∷ (codes "R \"a\" \"b\"c", faults.BadLine)
    ∷ (codes "R a b/", faults.BadPath)
    ∷ []

lines_refused : map (λ row. read_lines (commit_head ++ row.0 ∷ [])) line_refusals ≡ map (λ row. record { list = []; fault = Some row.1 }) line_refusals
unfolding cut_at is_ident char_at unquote_within quoted_of counted_block lines_before delimited first_line first_of read_upto items_of rest_line_in block_in unsigned_in item_after_in mark_of commit_ish_of last_path source_path modify_at two_paths change_at changes_within merges_within blob_at links_at commit_at tag_at reset_at command_at commands_within
lines_refused = refl

-- refused at a later command, or after the last one
abbrev pub later_refusals : List RefusalRow
later_refusals =
    record { lines = codes "blob" ∷ codes "data 0" ∷ [] ∷ codes "option git quiet" ∷ []; command = 2; fault = faults.LateOption }
    ∷ record { lines = codes "checkpoint" ∷ codes "feature force" ∷ []; command = 2; fault = faults.LateOption }
    ∷ record { lines = codes "progress x" ∷ codes "feature notes" ∷ []; command = 2; fault = faults.LateOption }
    ∷ record { lines = codes "progress x" ∷ codes "feature" ∷ []; command = 2; fault = faults.BadLine }
    ∷ record { lines = codes "feature done" ∷ commit_head ++ commit_head; command = 4; fault = faults.MissingDone }
    ∷ record { lines = codes "feature done" ∷ codes "blob" ∷ []; command = 2; fault = faults.BadLine }
    -- a line that is none of the commit's begins the next command
    ∷ record { lines = commit_head ++ (codes "foo" ∷ []); command = 2; fault = faults.UnknownCommand }
    ∷ record { lines = commit_head ++ (codes "merge :1" ∷ codes "from :2" ∷ []); command = 2; fault = faults.UnknownCommand }
    ∷ record { lines = commit_head ++ (codes "D a" ∷ codes "merge :1" ∷ []); command = 2; fault = faults.UnknownCommand }
    ∷ record { lines = commit_head ++ (codes "data 0" ∷ []); command = 2; fault = faults.UnknownCommand }
    ∷ record { lines = commit_head ++ (codes "ls a" ∷ []); command = 2; fault = faults.Unsupported }
    -- after its empty line nothing more is read before a commit is whole
    ∷ record { lines = commit_head ++ ([] ∷ [] ∷ codes "data x" ∷ []); command = 2; fault = faults.BadNumber }
    ∷ record { lines = codes "reset refs/heads/a" ∷ [] ∷ codes "data x" ∷ []; command = 2; fault = faults.BadNumber }
    ∷ record { lines = codes "blob" ∷ codes "data 0" ∷ codes "data x" ∷ []; command = 2; fault = faults.BadNumber }
    ∷ []

abbrev pub refusal_of : Commands → ℕ × Option Fault
refusal_of commands = (faulty_command commands, commands.fault)

later_refused : map (λ row. refusal_of (read_lines row.lines)) later_refusals ≡ map (λ row. (row.command, Some row.fault)) later_refusals
unfolding cut_at is_ident char_at unquote_within quoted_of counted_block lines_before delimited first_line first_of read_upto items_of rest_line_in block_in unsigned_in item_after_in mark_of commit_ish_of last_path source_path modify_at two_paths change_at changes_within merges_within blob_at links_at commit_at tag_at reset_at command_at commands_within
later_refused = refl

-- both lines came before the failure
failed_read : commands_of (items_of (text_of_lines (codes "progress a" ∷ codes "progress b" ∷ [])) true) ≡ record { list = Progress (codes "a") ∷ Progress (codes "b") ∷ []; fault = Some faults.ReadFailed }
unfolding cut_at counted_block lines_before delimited first_line first_of read_upto items_of command_at commands_within
failed_read = refl
