-- The texts of items and of commands, in their parts.
use Rattle.std.specs.Prelude.{ℕ, zero, suc, length, List, [], ◌∷◌, ◌++◌, map, None, Some, codes}
use Rattle.std.specs.Borrow.{Bor}
use Rattle.std.specs.List.{flat_map}
use Rattle.gx_model.specs.declared.objects.Mode.{Mode}
use Rattle.gx_model.specs.Texts.{Bytes}
use Rattle.gx_model.specs.Texts.Headers.{encoding_in}
use Rattle.gx_model.specs.Streams.Items.{Data, Item, Line}
use Rattle.gx_model.specs.Histories.Files.{FileMap}
use Rattle.gx_model.specs.Streams.Commands.{Blob, Command, CommitIsh, Reset, Tag}
use Rattle.gx_model.specs.Objects.{TagParts}
use Rattle.gx_model.specs.Texts.Paths.{Path, path_text, printed}
use Rattle.gx_model.specs.Histories.Values.{Commit, CommitText, Value, commit_value}
use Rattle.gx_model.specs.Export.{carrier, change_items, command_items, commit_ish_text, file_change, first_by, from_line, items_text, mark_line, marked_in, mode_digits, others_by, to_nothing, word_line, word_line_if}

-- the bytes of parts, one after the other
abbrev pub parts_text : List (Bor Bytes) → Bytes
parts_text parts = flat_map (λ part. part.now) parts

-- the text of a command
abbrev pub command_text : Command → Bytes
command_text command = items_text (command_items command)

-- the items of a commit on a ref up to its committer, under a mark
abbrev pub author_items : Bytes → ℕ → CommitText → List Item
author_items ref mark text =
    word_line (codes "commit") ref ∷ mark_line (Some mark) ++ (word_line_if (codes "author") (Some text.author) ++ word_line (codes "committer") text.committer ∷ [])

-- the items of a commit on a ref up to its message
abbrev pub head_items : Bytes → ℕ → CommitText → List Item
head_items ref mark text = author_items ref mark text ++ (word_line_if (codes "encoding") (encoding_in text.headers) ++ Data text.message ∷ [])

-- a blob under a mark
abbrev pub blob_under : ℕ → Bytes → Command
blob_under mark bytes = Blob (record { mark = Some mark; bytes = bytes })

-- a reset to a commit
abbrev pub to_commit : Bytes → CommitIsh → Command
to_commit name commit = Reset (record { ref = name; parent = Some commit })

-- a tag's items up to its commit
abbrev pub target_items : CommitIsh → Bytes → List Item
target_items commit name = word_line (codes "tag") name ∷ word_line (codes "from") (commit_ish_text commit) ∷ []

-- the tag of a commit
abbrev pub tag_command : CommitIsh → TagParts → Command
tag_command commit parts = Tag (record { name = parts.name; mark = None; target = commit; tagger = parts.tagger; message = parts.message })

-- the line of a file, with what it names and its path as texts
abbrev pub file_line : Mode → Bytes → Bytes → Item
file_line mode dataref path = word_line (codes "M") (mode_digits mode ++ 32 ∷ dataref ++ 32 ∷ path)

-- a path as it ends the line of a file
abbrev pub line_end : Path → Bytes
line_end path = printed (path_text path) ++ 10 ∷ []

-- the items of commands
abbrev pub items_of : List Command → List Item
items_of commands = flat_map command_items commands

-- the lines of a commit's parents, by what names them
abbrev pub parents_by : (Commit → CommitIsh) → List Commit → List Item
parents_by names parents = from_line (first_by names parents) ++ map (λ p. word_line (codes "merge") (commit_ish_text p)) (others_by names parents)

-- by their marks
abbrev pub parent_items : List Value → List Commit → List Item
parent_items ws parents = parents_by (λ p. marked_in ws (commit_value p)) parents

-- the lines of a commit's files
abbrev pub file_items : List Value → FileMap Bytes → List Item
file_items ws files = flat_map change_items (map (file_change ws) files)

-- all that is behind a commit's parents
abbrev pub change_lines : List Value → FileMap Bytes → List Item
change_lines ws files = Line (codes "deleteall") ∷ (file_items ws files ++ Line [] ∷ [])

-- the reset of its ref before a commit with so many parents
abbrev pub root_items : Bytes → ℕ → List Item
root_items ref zero = command_items (to_nothing ref)
root_items ref (suc parents) = []

-- the reset behind the commits, where so many marks were given
abbrev pub last_items : ℕ → List Item
last_items zero = []
last_items (suc marks) = command_items (to_nothing carrier)

-- the lines of a commit with these parents and files, which has the next mark
abbrev pub commit_lines : List Value → CommitText → List Commit → FileMap Bytes → List Item
commit_lines ws text parents files = head_items carrier (suc (length ws)) text ++ (parent_items ws parents ++ change_lines ws files)
