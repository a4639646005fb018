-- Worked rows: an import's export, and what that text imports to.
use Rattle.std.specs.Prelude.{◌≡◌, List, [], ◌∷◌, ◌++◌, replicate, codes, Some, refl}
use Rattle.std.specs.Fmt.{digits}
use Rattle.gx_model.specs.declared.objects.Mode.TheVariants.{Gitlink}
use Rattle.gx_model.specs.declared.faults.Fault.TheVariants as fault
use Rattle.gx_model.specs.Texts.{Bytes, cut_at}
use Rattle.gx_model.specs.Texts.Idents.{is_ident}
use Rattle.gx_model.specs.Texts.Paths.{char_at, unquote_within, quoted_of}
use Rattle.gx_model.specs.Streams.Items.{counted_block, lines_before, delimited, first_line, first_of, read_upto, items_of}
use Rattle.gx_model.specs.Streams.Grammar.{unsigned_in, item_after_in, modify_at, two_paths, change_at, changes_within, merges_within, blob_at, commit_at, links_at, tag_at, reset_at, command_at, commands_within}
use Rattle.gx_model.specs.Streams.Lines.{rest_line_in, block_in, mark_of, commit_ish_of, last_path, source_path}
use Rattle.gx_model.specs.Revisions.{revision_of}
use Rattle.gx_model.specs.Streams.Spelling.{text_of_lines}
use Rattle.gx_model.specs.Histories.Values.{Commit, commit, commit_value, none}
use Rattle.gx_model.specs.Histories.{History, at_commit, no_history, with_value}
use Rattle.gx_model.specs.Objects.Naming.{short_name}
use Rattle.gx_model.specs.Replay.{imported_asked}
use Rattle.gx_model.specs.Export.{export_text}
use Rattle.gx_model.specs.Rows.RowTexts.{imported_lines, history_of_lines, refusal}

-- two branches with a merge, a gitlink and a tag
abbrev pub stream : List Bytes
stream =
    codes "commit refs/heads/a" ∷
    codes "mark :1" ∷
    codes "committer A <a@x> 1 +0000" ∷
    codes "data 1" ∷
    codes "p" ∷
    codes "M 100644 inline f" ∷
    codes "data 6" ∷
    codes "hello" ∷
    [] ∷
    codes "commit refs/heads/b" ∷
    codes "mark :2" ∷
    codes "committer A <a@x> 2 +0000" ∷
    codes "data 1" ∷
    codes "q" ∷
    codes "M 160000 d670460b4b4aece5915caf5c68d12f560a9fe3e4 sub" ∷
    codes "commit refs/heads/a" ∷
    codes "mark :3" ∷
    codes "committer A <a@x> 3 +0000" ∷
    codes "data 1" ∷
    codes "m" ∷
    codes "merge :2" ∷
    codes "tag t" ∷
    codes "from :3" ∷
    codes "tagger A <a@x> 4 +0000" ∷
    codes "data 1" ∷
    codes "t" ∷ []

-- its export, without the last line
abbrev all_but_done : List Bytes
all_but_done =
    codes "feature done" ∷
    codes "blob" ∷
    codes "mark :1" ∷
    codes "data 6" ∷
    codes "hello" ∷
    [] ∷
    codes "reset refs/gx/export" ∷
    codes "commit refs/gx/export" ∷
    codes "mark :2" ∷
    codes "author A <a@x> 1 +0000" ∷
    codes "committer A <a@x> 1 +0000" ∷
    codes "data 1" ∷
    codes "p" ∷
    codes "deleteall" ∷
    codes "M 100644 :1 f" ∷
    [] ∷
    codes "reset refs/gx/export" ∷
    codes "commit refs/gx/export" ∷
    codes "mark :3" ∷
    codes "author A <a@x> 2 +0000" ∷
    codes "committer A <a@x> 2 +0000" ∷
    codes "data 1" ∷
    codes "q" ∷
    codes "deleteall" ∷
    codes "M 160000 d670460b4b4aece5915caf5c68d12f560a9fe3e4 sub" ∷
    [] ∷
    codes "commit refs/gx/export" ∷
    codes "mark :4" ∷
    codes "author A <a@x> 3 +0000" ∷
    codes "committer A <a@x> 3 +0000" ∷
    codes "data 1" ∷
    codes "m" ∷
    codes "from :2" ∷
    codes "merge :3" ∷
    codes "deleteall" ∷
    codes "M 100644 :1 f" ∷
    [] ∷
    codes "reset refs/gx/export" ∷
    codes "reset refs/heads/a" ∷
    codes "from :4" ∷
    [] ∷
    codes "reset refs/heads/b" ∷
    codes "from :3" ∷
    [] ∷
    codes "tag t" ∷
    codes "from :4" ∷
    codes "tagger A <a@x> 4 +0000" ∷
    codes "data 1" ∷
    codes "t" ∷
    []

abbrev export : List Bytes
export = all_but_done ++ codes "done" ∷ []

-- a commit whose one file is a gitlink of forty zeros, which no stream makes
abbrev with_null : Commit
with_null = commit ((codes "sub" ∷ [], (Gitlink, replicate 40 48)) ∷ []) none (record { author = codes "A <a@x> 1 +0000"; committer = codes "A <a@x> 1 +0000"; headers = []; message = codes "m" })

abbrev null_history : History
null_history = record { values = with_value [] (commit_value with_null); refs = (codes "refs/heads/main", at_commit with_null) ∷ [] }

abbrev null_export : List Bytes
null_export =
    codes "feature done" ∷
    codes "reset refs/gx/export" ∷
    codes "commit refs/gx/export" ∷
    codes "mark :1" ∷
    codes "author A <a@x> 1 +0000" ∷
    codes "committer A <a@x> 1 +0000" ∷
    codes "data 1" ∷
    codes "m" ∷
    codes "deleteall" ∷
    codes "M 160000 0000000000000000000000000000000000000000 sub" ∷
    [] ∷
    codes "reset refs/gx/export" ∷
    codes "reset refs/heads/main" ∷
    codes "from :1" ∷
    [] ∷
    codes "done" ∷ []

pub record ExportRows : Type 0 where
  -- the export text, byte for byte
  pub exported : export_text (history_of_lines stream) ≡ text_of_lines export
  -- that text imports to the same refs
  pub same_refs : (history_of_lines export).refs ≡ (history_of_lines stream).refs
  -- and what it imports to is exported to the same text
  pub exported_again : export_text (history_of_lines export) ≡ text_of_lines export
  -- a text that was cut before its last line is refused
  pub cut_off : refusal (imported_lines all_but_done) ≡ Some (12, fault.MissingDone)
  -- the export of nothing
  pub empty : export_text no_history ≡ text_of_lines (codes "feature done" ∷ codes "done" ∷ [])
  -- a blob that no ref reaches isn't written
  pub unreached : export_text (history_of_lines (codes "blob" ∷ codes "data 13" ∷ codes "test content" ∷ [])) ≡ text_of_lines (codes "feature done" ∷ codes "done" ∷ [])
  -- a gitlink of forty zeros is written as it is, and not read again
  pub null_exported : export_text null_history ≡ text_of_lines null_export
  pub null_refused : refusal (imported_lines null_export) ≡ Some (3, fault.Unsupported)

pub export_rows : ExportRows
unfolding char_at unsigned_in item_after_in rest_line_in block_in cut_at is_ident unquote_within quoted_of mark_of commit_ish_of last_path source_path modify_at two_paths change_at changes_within merges_within blob_at commit_at links_at tag_at reset_at command_at commands_within counted_block lines_before delimited first_line first_of read_upto items_of digits revision_of imported_asked short_name
export_rows = record { exported = refl; same_refs = refl; exported_again = refl; cut_off = refl; empty = refl; unreached = refl; null_exported = refl; null_refused = refl }
