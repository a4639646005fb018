-- Worked rows: an import's export of changes, and what that text imports to.
use Rattle.std.specs.Prelude.{◌≡◌, false, true, List, [], ◌∷◌, ◌++◌, Ok, Result, codes, refl}
use Rattle.std.specs.Fmt.{digits}
use Rattle.gx_model.specs.Texts.{Bytes, cut_at}
use Rattle.gx_model.specs.Texts.Idents.{is_ident}
use Rattle.gx_model.specs.Texts.Paths.{char_at, unquote_within, quoted_of}
use Rattle.gx_model.specs.Streams.Items.{counted_block, lines_before, delimited, first_line, first_of, read_upto, items_of}
use Rattle.gx_model.specs.Streams.Grammar.{unsigned_in, item_after_in, modify_at, two_paths, change_at, changes_within, merges_within, blob_at, commit_at, links_at, tag_at, reset_at, command_at, commands_within}
use Rattle.gx_model.specs.Streams.Lines.{rest_line_in, block_in, mark_of, commit_ish_of, last_path, source_path}
use Rattle.gx_model.specs.Faults.{◌>>=◌}
use Rattle.gx_model.specs.Revisions.{range_of, revision_of}
use Rattle.gx_model.specs.Revisions.Denotation.{denoted}
use Rattle.gx_model.specs.Revisions.Ranges.{WordFault, each_word, words_denoted}
use Rattle.gx_model.specs.Streams.Spelling.{text_of_lines}
use Rattle.gx_model.specs.Histories.{History, no_history}
use Rattle.gx_model.specs.Objects.Naming.{lower_name_in, name_in, short_name}
use Rattle.gx_model.specs.Replay.{imported_asked}
use Rattle.gx_model.specs.Changes.{changes_text, range_text}
use Rattle.gx_model.specs.Rows.RowTexts.{history_after, history_of_lines, imported_to}

-- a file becomes a folder, and a folder a file; a mode alone changes; one commit changes nothing
abbrev pub files_and_folders : List Bytes
files_and_folders =
    codes "commit refs/heads/main" ∷
    codes "mark :1" ∷
    codes "committer A <a@x> 1 +0000" ∷
    codes "data 1" ∷
    codes "p" ∷
    codes "M 100644 inline a" ∷
    codes "data 1" ∷
    codes "x" ∷
    codes "M 100644 inline d/e" ∷
    codes "data 1" ∷
    codes "y" ∷
    codes "M 100644 inline k" ∷
    codes "data 1" ∷
    codes "x" ∷
    codes "commit refs/heads/main" ∷
    codes "committer A <a@x> 2 +0000" ∷
    codes "data 1" ∷
    codes "q" ∷
    codes "D a" ∷
    codes "D d" ∷
    codes "M 100644 inline a/b" ∷
    codes "data 1" ∷
    codes "x" ∷
    codes "M 100644 inline d" ∷
    codes "data 1" ∷
    codes "z" ∷
    codes "M 100755 inline k" ∷
    codes "data 1" ∷
    codes "x" ∷
    codes "commit refs/heads/main" ∷
    codes "committer A <a@x> 3 +0000" ∷
    codes "data 1" ∷
    codes "r" ∷ []

abbrev their_changes : List Bytes
their_changes =
    codes "feature done" ∷
    codes "blob" ∷
    codes "mark :1" ∷
    codes "data 1" ∷
    codes "x" ∷
    codes "blob" ∷
    codes "mark :2" ∷
    codes "data 1" ∷
    codes "y" ∷
    codes "reset refs/heads/main" ∷
    codes "commit refs/heads/main" ∷
    codes "mark :3" ∷
    codes "author A <a@x> 1 +0000" ∷
    codes "committer A <a@x> 1 +0000" ∷
    codes "data 1" ∷
    codes "p" ∷
    codes "M 100644 :1 a" ∷
    codes "M 100644 :2 d/e" ∷
    codes "M 100644 :1 k" ∷
    [] ∷
    codes "blob" ∷
    codes "mark :4" ∷
    codes "data 1" ∷
    codes "z" ∷
    codes "commit refs/heads/main" ∷
    codes "mark :5" ∷
    codes "author A <a@x> 2 +0000" ∷
    codes "committer A <a@x> 2 +0000" ∷
    codes "data 1" ∷
    codes "q" ∷
    codes "from :3" ∷
    codes "D a" ∷
    codes "D d/e" ∷
    codes "M 100644 :1 a/b" ∷
    codes "M 100644 :4 d" ∷
    codes "M 100755 :1 k" ∷
    [] ∷
    codes "commit refs/heads/main" ∷
    codes "mark :6" ∷
    codes "author A <a@x> 3 +0000" ∷
    codes "committer A <a@x> 3 +0000" ∷
    codes "data 1" ∷
    codes "r" ∷
    codes "from :5" ∷
    [] ∷
    codes "reset refs/heads/main" ∷
    codes "from :6" ∷
    [] ∷
    codes "done" ∷ []

-- two unrelated roots, one under a tag alone, and a merge whose branch is not the first ref that reaches the other root
abbrev pub roots_and_tags : List Bytes
roots_and_tags =
    codes "commit refs/heads/b" ∷
    codes "mark :1" ∷
    codes "committer A <a@x> 1 +0000" ∷
    codes "data 1" ∷
    codes "p" ∷
    codes "M 100644 inline f" ∷
    codes "data 1" ∷
    codes "x" ∷
    codes "commit refs/alone" ∷
    codes "mark :2" ∷
    codes "committer A <a@x> 2 +0000" ∷
    codes "data 1" ∷
    codes "q" ∷
    codes "M 160000 d670460b4b4aece5915caf5c68d12f560a9fe3e4 sub" ∷
    codes "commit refs/heads/a" ∷
    codes "mark :3" ∷
    codes "committer A <a@x> 3 +0000" ∷
    codes "data 1" ∷
    codes "m" ∷
    codes "from :1" ∷
    codes "merge :2" ∷
    codes "M 100644 inline g" ∷
    codes "data 1" ∷
    codes "x" ∷
    codes "commit refs/lost" ∷
    codes "mark :4" ∷
    codes "committer A <a@x> 4 +0000" ∷
    codes "data 1" ∷
    codes "l" ∷
    codes "reset refs/lost" ∷
    codes "tag t" ∷
    codes "from :4" ∷
    codes "tagger A <a@x> 4 +0000" ∷
    codes "data 1" ∷
    codes "t" ∷ []

abbrev their_commits : List Bytes
their_commits =
    codes "blob" ∷
    codes "mark :1" ∷
    codes "data 1" ∷
    codes "x" ∷
    codes "reset refs/heads/a" ∷
    codes "commit refs/heads/a" ∷
    codes "mark :2" ∷
    codes "author A <a@x> 1 +0000" ∷
    codes "committer A <a@x> 1 +0000" ∷
    codes "data 1" ∷
    codes "p" ∷
    codes "M 100644 :1 f" ∷
    [] ∷
    codes "reset refs/heads/a" ∷
    codes "commit refs/heads/a" ∷
    codes "mark :3" ∷
    codes "author A <a@x> 2 +0000" ∷
    codes "committer A <a@x> 2 +0000" ∷
    codes "data 1" ∷
    codes "q" ∷
    codes "M 160000 d670460b4b4aece5915caf5c68d12f560a9fe3e4 sub" ∷
    [] ∷
    codes "commit refs/heads/a" ∷
    codes "mark :4" ∷
    codes "author A <a@x> 3 +0000" ∷
    codes "committer A <a@x> 3 +0000" ∷
    codes "data 1" ∷
    codes "m" ∷
    codes "from :2" ∷
    codes "merge :3" ∷
    codes "M 100644 :1 g" ∷
    [] ∷
    codes "reset refs/tags/t" ∷
    codes "commit refs/tags/t" ∷
    codes "mark :5" ∷
    codes "author A <a@x> 4 +0000" ∷
    codes "committer A <a@x> 4 +0000" ∷
    codes "data 1" ∷
    codes "l" ∷
    [] ∷ []

abbrev their_refs : List Bytes
their_refs =
    codes "reset refs/alone" ∷
    codes "from :3" ∷
    [] ∷
    codes "reset refs/heads/a" ∷
    codes "from :4" ∷
    [] ∷
    codes "reset refs/heads/b" ∷
    codes "from :2" ∷
    [] ∷
    codes "tag t" ∷
    codes "from :5" ∷
    codes "tagger A <a@x> 4 +0000" ∷
    codes "data 1" ∷
    codes "t" ∷ []

-- a commit with a tag, to which a mirror was brought
abbrev pub mirrored : List Bytes
mirrored =
    codes "commit refs/heads/main" ∷
    codes "mark :1" ∷
    codes "committer A <a@x> 1 +0000" ∷
    codes "data 1" ∷
    codes "p" ∷
    codes "M 100644 inline f" ∷
    codes "data 1" ∷
    codes "x" ∷
    codes "tag v1" ∷
    codes "from :1" ∷
    codes "tagger A <a@x> 1 +0000" ∷
    codes "data 1" ∷
    codes "t" ∷ []

-- what came since
abbrev pub since : List Bytes
since =
    codes "commit refs/heads/main" ∷
    codes "committer A <a@x> 2 +0000" ∷
    codes "data 1" ∷
    codes "q" ∷
    codes "from :1" ∷
    codes "M 100644 inline g" ∷
    codes "data 1" ∷
    codes "x" ∷
    codes "commit refs/heads/main" ∷
    codes "committer A <a@x> 3 +0000" ∷
    codes "data 1" ∷
    codes "r" ∷
    codes "D f" ∷ []

-- the text of the changes that range words list
abbrev sent_by : History → List Bytes → Result Bytes WordFault
sent_by h xs = each_word range_of xs >>= λ ws. words_denoted short_name h ws >>= λ ks. Ok (range_text short_name true h ks)

-- the commit that the mirror has is named by its digits and `^0`
abbrev sent_since : List Bytes
sent_since =
    codes "feature done" ∷
    codes "blob" ∷
    codes "mark :1" ∷
    codes "data 1" ∷
    codes "x" ∷
    codes "commit refs/heads/main" ∷
    codes "mark :2" ∷
    codes "author A <a@x> 2 +0000" ∷
    codes "committer A <a@x> 2 +0000" ∷
    codes "data 1" ∷
    codes "q" ∷
    codes "from 1111111111111111111111111111111111110261^0" ∷
    codes "M 100644 :1 g" ∷
    [] ∷
    codes "commit refs/heads/main" ∷
    codes "mark :3" ∷
    codes "author A <a@x> 3 +0000" ∷
    codes "committer A <a@x> 3 +0000" ∷
    codes "data 1" ∷
    codes "r" ∷
    codes "from :2" ∷
    codes "D f" ∷
    [] ∷
    codes "reset refs/heads/main" ∷
    codes "from :3" ∷
    [] ∷
    codes "tag v1" ∷
    codes "from 1111111111111111111111111111111111110261^0" ∷
    codes "tagger A <a@x> 1 +0000" ∷
    codes "data 1" ∷
    codes "t" ∷
    codes "done" ∷ []

-- the branch of a commit that is sent stands at a later one, and isn't set
abbrev sent_before_last : List Bytes
sent_before_last =
    codes "feature done" ∷
    codes "blob" ∷
    codes "mark :1" ∷
    codes "data 1" ∷
    codes "x" ∷
    codes "commit refs/gx/export" ∷
    codes "mark :2" ∷
    codes "author A <a@x> 2 +0000" ∷
    codes "committer A <a@x> 2 +0000" ∷
    codes "data 1" ∷
    codes "q" ∷
    codes "from 1111111111111111111111111111111111110261^0" ∷
    codes "M 100644 :1 g" ∷
    [] ∷
    codes "reset refs/gx/export" ∷
    codes "tag v1" ∷
    codes "from 1111111111111111111111111111111111110261^0" ∷
    codes "tagger A <a@x> 1 +0000" ∷
    codes "data 1" ∷
    codes "t" ∷
    codes "done" ∷ []

pub record ChangesRows : Type 0 where
  -- the changes of files, byte for byte
  pub changed : changes_text short_name true (history_of_lines files_and_folders) ≡ text_of_lines their_changes
  -- that text imports to what it was made of
  pub same_files : history_of_lines their_changes ≡ history_of_lines files_and_folders
  -- the refs that commits go out on, without `feature done` and `done`
  pub sent : changes_text short_name false (history_of_lines roots_and_tags) ≡ text_of_lines (their_commits ++ their_refs)
  -- that text imports to the same refs
  pub same_refs : (history_of_lines (their_commits ++ their_refs)).refs ≡ (history_of_lines roots_and_tags).refs
  -- the export of nothing
  pub empty : changes_text short_name true no_history ≡ text_of_lines (codes "feature done" ∷ codes "done" ∷ [])
  -- the changes of a range
  pub since_then : sent_by (history_of_lines (mirrored ++ since)) (codes "v1..main" ∷ []) ≡ Ok (text_of_lines sent_since)
  -- they bring a mirror the rest
  pub brought : history_after (imported_to (history_of_lines mirrored) sent_since) ≡ history_of_lines (mirrored ++ since)
  -- a branch that stands beyond what is sent is left alone
  pub before_last : sent_by (history_of_lines (mirrored ++ since)) (codes "v1..main^" ∷ []) ≡ Ok (text_of_lines sent_before_last)
  pub left_alone : (history_after (imported_to (history_of_lines mirrored) sent_before_last)).refs ≡ (history_of_lines mirrored).refs

pub changes_rows : ChangesRows
unfolding char_at unsigned_in item_after_in rest_line_in block_in cut_at is_ident unquote_within quoted_of mark_of commit_ish_of last_path source_path modify_at two_paths change_at changes_within merges_within blob_at commit_at links_at tag_at reset_at command_at commands_within counted_block lines_before delimited first_line first_of read_upto items_of digits revision_of range_of denoted imported_asked short_name lower_name_in name_in
changes_rows = record { changed = refl; same_files = refl; sent = refl; same_refs = refl; empty = refl; since_then = refl; brought = refl; before_last = refl; left_alone = refl }
