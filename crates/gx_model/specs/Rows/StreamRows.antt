-- Worked streams: their items, their commands, and paths as they are printed. Each row holds by computing.
use Rattle.std.specs.Prelude.{◌≡◌, Bool, true, false, List, [], ◌∷◌, ◌++◌, map, replicate, None, Some, Ok, Err, codes, refl}
use Rattle.gx_model.specs.declared.faults.Fault.TheVariants as faults
use Rattle.gx_model.specs.declared.features.Feature.TheVariants as features
use Rattle.gx_model.specs.declared.objects.Mode.TheVariants as modes
use Rattle.gx_model.specs.Texts.{Bytes, cut_at}
use Rattle.gx_model.specs.Texts.Idents.{is_ident}
use Rattle.gx_model.specs.Texts.Paths.{char_at, unquote_within, quoted_of, printed}
use Rattle.gx_model.specs.Streams.Spelling.{text_of_lines}
use Rattle.gx_model.specs.Streams.Items.{Item, Line, Data, End, Finished, Failed, counted_block, lines_before, delimited, first_line, first_of, read_upto, items_of}
use Rattle.gx_model.specs.Streams.Commands.{Marked, Named, Mark, Object, Inline, Change, Modify, Remove, Copy, Rename, Clear, CommitParts, Blob, Commit, Tag, Reset, Checkpoint, Progress, Asks, OptionLine, Done, Commands}
use Rattle.gx_model.specs.Streams.Grammar.{unsigned_in, item_after_in, modify_at, two_paths, change_at, changes_within, merges_within, blob_at, links_at, commit_at, tag_at, reset_at, command_at, commands_within, commands_of}
use Rattle.gx_model.specs.Streams.Lines.{rest_line_in, block_in, mark_of, commit_ish_of, last_path, source_path}

-- ---- items

-- a text, whether Failed follows it, and how it reads
pub record ItemRow : Type 0 where
  pub text : Bytes
  pub fails : Bool
  pub items : List Item
  pub end : End

abbrev pub item_rows : List ItemRow
item_rows =
    -- the LF is the 13th byte
    record {
      text = text_of_lines (codes "blob" ∷ codes "mark :1" ∷ codes "data 13" ∷ codes "test content" ∷ []);
      fails = false;
      items = Line (codes "blob") ∷ Line (codes "mark :1") ∷ Data (codes "test content" ++ 10 ∷ []) ∷ [];
      end = Finished;
    }
    -- the last bytes need no LF
    ∷ record {
      text = text_of_lines (codes "blob" ∷ codes "data 0" ∷ codes "blob" ∷ codes "data 4" ∷ []) ++ codes "doc?";
      fails = false;
      items = Line (codes "blob") ∷ Data [] ∷ Line (codes "blob") ∷ Data (codes "doc?") ∷ [];
      end = Finished;
    }
    -- fewer bytes than were stated
    ∷ record {
      text = text_of_lines (codes "blob" ∷ codes "data 5" ∷ []) ++ codes "abc";
      fails = false;
      items = Line (codes "blob") ∷ [];
      end = Failed faults.TruncatedData;
    }
    -- a line directly after the bytes
    ∷ record {
      text = text_of_lines (codes "data 3" ∷ codes "foofrom :1" ∷ []);
      fails = false;
      items = Data (codes "foo") ∷ Line (codes "from :1") ∷ [];
      end = Finished;
    }
    -- one LF after the bytes belongs to the block, and a second one is an empty line
    ∷ record {
      text = text_of_lines (codes "data 1" ∷ codes "p" ∷ [] ∷ codes "done" ∷ []);
      fails = false;
      items = Data (codes "p") ∷ Line [] ∷ Line (codes "done") ∷ [];
      end = Finished;
    }
    -- a delimited block of 8 bytes
    ∷ record {
      text = text_of_lines (codes "data <<END" ∷ codes "ENDING" ∷ [] ∷ codes "END" ∷ []);
      fails = false;
      items = Data (codes "ENDING" ++ 10 ∷ 10 ∷ []) ∷ [];
      end = Finished;
    }
    -- an empty delimiter
    ∷ record {
      text = text_of_lines (codes "blob" ∷ codes "data <<" ∷ [] ∷ []);
      fails = false;
      items = Line (codes "blob") ∷ Data [] ∷ [];
      end = Finished;
    }
    -- a delimiter line without its LF
    ∷ record {
      text = text_of_lines (codes "data <<E" ∷ codes "x" ∷ []) ++ codes "E";
      fails = false;
      items = Data (codes "x" ++ 10 ∷ []) ∷ [];
      end = Finished;
    }
    -- no line is the delimiter
    ∷ record {
      text = text_of_lines (codes "data <<E" ∷ codes "x" ∷ []);
      fails = false;
      items = [];
      end = Failed faults.TruncatedData;
    }
    ∷ record { text = text_of_lines (codes "data <<" ∷ []); fails = false; items = []; end = Failed faults.TruncatedData }
    -- comments give no item, but bytes may look like one
    ∷ record {
      text = text_of_lines (codes "# a comment" ∷ codes "blob" ∷ codes "#" ∷ codes "data 2" ∷ codes "#x" ∷ []);
      fails = false;
      items = Line (codes "blob") ∷ Data (codes "#x") ∷ [];
      end = Finished;
    }
    ∷ record {
      text = text_of_lines (codes "data <<E" ∷ codes "# x" ∷ codes "E " ∷ codes "E" ∷ []);
      fails = false;
      items = Data (text_of_lines (codes "# x" ∷ codes "E " ∷ [])) ∷ [];
      end = Finished;
    }
    -- a word alone announces nothing, and CR has no meaning
    ∷ record {
      text = text_of_lines (codes "data" ∷ (codes "blob" ++ 13 ∷ []) ∷ []);
      fails = false;
      items = Line (codes "data") ∷ Line (codes "blob" ++ 13 ∷ []) ∷ [];
      end = Finished;
    }
    -- counts
    ∷ record { text = text_of_lines (codes "data 0" ∷ []); fails = false; items = Data [] ∷ []; end = Finished }
    ∷ record { text = codes "data 0"; fails = false; items = Data [] ∷ []; end = Finished }
    ∷ record { text = text_of_lines (codes "data 0001" ∷ codes "x" ∷ []); fails = false; items = Data (codes "x") ∷ []; end = Finished }
    ∷ record { text = text_of_lines (codes "data " ∷ []); fails = false; items = []; end = Failed faults.BadNumber }
    ∷ record { text = text_of_lines (codes "data 1x" ∷ []); fails = false; items = []; end = Failed faults.BadNumber }
    ∷ record { text = text_of_lines (codes "data <" ∷ []); fails = false; items = []; end = Failed faults.BadNumber }
    ∷ record { text = text_of_lines (codes "data 18446744073709551615" ∷ codes "x" ∷ []); fails = false; items = []; end = Failed faults.TruncatedData }
    ∷ record { text = text_of_lines (codes "data 18446744073709551616" ∷ codes "x" ∷ []); fails = false; items = []; end = Failed faults.BadNumber }
    -- a failed read is no end: a line needs its LF, and a block a byte after it
    ∷ record { text = text_of_lines (codes "blob" ∷ []); fails = true; items = Line (codes "blob") ∷ []; end = Failed faults.ReadFailed }
    ∷ record { text = codes "blob"; fails = true; items = []; end = Failed faults.ReadFailed }
    ∷ record { text = codes "blob"; fails = false; items = Line (codes "blob") ∷ []; end = Finished }
    ∷ record { text = text_of_lines (codes "data 1" ∷ []) ++ codes "x"; fails = true; items = []; end = Failed faults.ReadFailed }
    ∷ record { text = text_of_lines (codes "data 1" ∷ codes "x" ∷ []); fails = true; items = Data (codes "x") ∷ []; end = Failed faults.ReadFailed }
    ∷ record { text = text_of_lines (codes "data <<E" ∷ codes "E" ∷ []); fails = true; items = []; end = Failed faults.ReadFailed }
    ∷ record { text = text_of_lines (codes "data x" ∷ []); fails = true; items = []; end = Failed faults.BadNumber }
    ∷ record { text = []; fails = false; items = []; end = Finished }
    ∷ record { text = []; fails = true; items = []; end = Failed faults.ReadFailed }
    ∷ []

items_read : map (λ row. items_of row.text row.fails) item_rows ≡ map (λ row. record { items = row.items; end = row.end }) item_rows
unfolding counted_block lines_before delimited first_line first_of read_upto items_of
items_read = refl

-- ---- commands

-- the commands of lines that an end follows
abbrev pub read_lines : List Bytes → Commands
read_lines lines = commands_of (items_of (text_of_lines lines) false)

abbrev pub committer : Bytes
committer = codes "A <a@x> 1 +0000"

-- the first lines of a commit without a mark, an author or a message
abbrev pub commit_head : List Bytes
commit_head = codes "commit refs/heads/main" ∷ (codes "committer " ++ committer) ∷ codes "data 0" ∷ []

-- what these lines and changes give
abbrev pub main_commit : List Change → CommitParts
main_commit changes = record {
  ref = codes "refs/heads/main";
  mark = None;
  author = None;
  committer = committer;
  headers = [];
  message = [];
  parent = None;
  merges = [];
  changes = changes;
}

pub record CommandRow : Type 0 where
  pub lines : List Bytes
  pub commands : Commands

abbrev pub command_rows : List CommandRow
command_rows =
    -- every command, and what follows `done` isn't read
    record {
      lines =
          codes "feature force" ∷ codes "feature date-format=raw" ∷ codes "option git quiet" ∷ codes "feature done" ∷ []
          ++ (codes "blob" ∷ codes "mark :1" ∷ codes "original-oid x y" ∷ codes "data 1" ∷ codes "b" ∷ []
          ++ (codes "tag v1" ∷ codes "mark :2" ∷ codes "from refs/heads/main" ∷ codes "original-oid x" ∷ codes "tagger <> 1 -0100" ∷ codes "data 1" ∷ codes "t" ∷ []
          ++ (codes "reset refs/heads/a" ∷ codes "from :2" ∷ [] ∷ codes "reset refs/heads/b" ∷ codes "checkpoint" ∷ codes "progress a b" ∷ codes "progress " ∷ codes "done" ∷ codes "junk" ∷ [])));
      commands = record {
        list =
            Asks features.Force ∷ Asks features.RawDates ∷ OptionLine (codes "git quiet") ∷ Asks features.Done
            ∷ Blob (record { mark = Some 1; bytes = codes "b" })
            ∷ Tag (record { name = codes "v1"; mark = Some 2; target = Named (codes "refs/heads/main"); tagger = Some (codes "<> 1 -0100"); message = codes "t" })
            ∷ Reset (record { ref = codes "refs/heads/a"; parent = Some (Marked 2) }) ∷ Reset (record { ref = codes "refs/heads/b"; parent = None })
            ∷ Checkpoint ∷ Progress (codes "a b") ∷ Progress [] ∷ Done ∷ [];
        fault = None;
      };
    }
    -- a commit with all its lines
    ∷ record {
      lines =
          codes "commit refs/heads/main" ∷ codes "mark :3" ∷ codes "original-oid x" ∷ codes "author  <> 0 +0000" ∷ (codes "committer " ++ committer) ∷ codes "encoding latin1" ∷ codes "data 1" ∷ codes "m" ∷ []
          ++ (codes "from :1" ∷ codes "merge main~1" ∷ codes "merge :2" ∷ codes "deleteall" ∷ codes "M 755 :1 a/b" ∷ codes "M 120000 D670460b4b4aece5915caf5c68d12f560a9fe3e4 c d" ∷ []
          ++ (codes "M 160000 d670460b4b4aece5915caf5c68d12f560a9fe3e4 " ∷ codes "D a b" ∷ codes "D " ∷ codes "C a b c" ∷ codes "R \"a b\" " ∷ codes "M 644 inline \"x\\ty\"" ∷ codes "data 1" ∷ codes "z" ∷ []));
      commands = record {
        list =
            Commit (record {
              ref = codes "refs/heads/main";
              mark = Some 3;
              author = Some (codes " <> 0 +0000");
              committer = committer;
              headers = codes "encoding latin1" ++ 10 ∷ [];
              message = codes "m";
              parent = Some (Marked 1);
              merges = Named (codes "main~1") ∷ Marked 2 ∷ [];
              changes =
                  Clear ∷ Modify modes.Exec (Mark 1) (codes "a" ∷ codes "b" ∷ []) ∷ Modify modes.Link (Object (codes "D670460b4b4aece5915caf5c68d12f560a9fe3e4")) (codes "c d" ∷ [])
                  ∷ Modify modes.Gitlink (Object (codes "d670460b4b4aece5915caf5c68d12f560a9fe3e4")) [] ∷ Remove (codes "a b" ∷ []) ∷ Remove [] ∷ Copy (codes "a" ∷ []) (codes "b c" ∷ []) ∷ Rename (codes "a b" ∷ []) []
                  ∷ Modify modes.File (Inline (codes "z")) ((codes "x" ++ 9 ∷ codes "y") ∷ []) ∷ [];
            }) ∷ [];
        fault = None;
      };
    }
    -- a `from` directly after the message
    ∷ record {
      lines = codes "commit refs/heads/main" ∷ (codes "committer " ++ committer) ∷ codes "data 3" ∷ codes "foofrom :1" ∷ [];
      commands = record { list = Commit (record (main_commit []) { message = codes "foo"; parent = Some (Marked 1) }) ∷ []; fault = None };
    }
    -- bytes up to a delimiter line
    ∷ record {
      lines = commit_head ++ (codes "M 100644 inline f" ∷ codes "data <<END" ∷ codes "ENDING" ∷ [] ∷ codes "END" ∷ []);
      commands = record { list = Commit (main_commit (Modify modes.File (Inline (codes "ENDING" ++ 10 ∷ 10 ∷ [])) (codes "f" ∷ []) ∷ [])) ∷ []; fault = None };
    }
    -- quoted paths
    ∷ record {
      lines = commit_head ++ (codes "M 100644 inline \"a b\\\"\\303\\251\"" ∷ codes "data 6" ∷ codes "hello" ∷ codes "C \"a b\\\"\\303\\251\" copy" ∷ []);
      commands = record {
        list = Commit (main_commit (
            Modify modes.File (Inline (codes "hello" ++ 10 ∷ [])) ((codes "a b\"" ++ 195 ∷ 169 ∷ []) ∷ []) ∷ Copy ((codes "a b\"" ++ 195 ∷ 169 ∷ []) ∷ []) (codes "copy" ∷ []) ∷ [])) ∷ [];
        fault = None;
      };
    }
    -- empty lines and comments between commands, and one empty line that ends a commit
    ∷ record {
      lines = [] ∷ codes "# c" ∷ [] ∷ codes "blob" ∷ codes "# c" ∷ codes "data 0" ∷ [] ∷ [] ∷ [] ∷ commit_head ++ ([] ∷ [] ∷ [] ∷ codes "checkpoint" ∷ [] ∷ []);
      commands = record { list = Blob (record { mark = None; bytes = [] }) ∷ Commit (main_commit []) ∷ Checkpoint ∷ []; fault = None };
    }
    ∷ record { lines = []; commands = record { list = []; fault = None } }
    ∷ record { lines = codes "feature done" ∷ codes "done" ∷ []; commands = record { list = Asks features.Done ∷ Done ∷ []; fault = None } }
    ∷ []

commands_read : map (λ row. read_lines row.lines) command_rows ≡ map (λ row. row.commands) command_rows
unfolding cut_at is_ident char_at unquote_within quoted_of counted_block lines_before delimited first_line first_of read_upto items_of rest_line_in block_in unsigned_in item_after_in mark_of commit_ish_of last_path source_path modify_at two_paths change_at changes_within merges_within blob_at links_at commit_at tag_at reset_at command_at commands_within
commands_read = refl

-- ---- printed paths

-- a path's text, and how it is printed
abbrev pub printed_rows : List (Bytes × Bytes)
printed_rows =
    (codes "copy", codes "copy")
    ∷ (codes "a b/c'd", codes "a b/c'd")
    ∷ ([], [])
    ∷ (codes "a b\"" ++ 195 ∷ 169 ∷ [], codes "\"a b\\\"\\303\\251\"")
    ∷ (7 ∷ 8 ∷ 9 ∷ 10 ∷ 11 ∷ 12 ∷ 13 ∷ 92 ∷ [], codes "\"\\a\\b\\t\\n\\v\\f\\r\\\\\"")
    ∷ (1 ∷ 31 ∷ 32 ∷ 126 ∷ 127 ∷ 128 ∷ 255 ∷ [], codes "\"\\001\\037 ~\\177\\200\\377\"")
    ∷ []

paths_printed : map (λ row. printed row.0) printed_rows ≡ map (λ row. row.1) printed_rows
paths_printed = refl

-- ---- the length of a path

longest_read : last_path (replicate 4095 97) ≡ Ok (replicate 4095 97 ∷ [])
unfolding last_path
longest_read = refl

longer_refused : last_path (replicate 4096 97) ≡ Err faults.PathTooLong
unfolding last_path
longer_refused = refl

-- a component that isn't proper is told first
longer_bad : last_path (47 ∷ replicate 4096 97) ≡ Err faults.BadPath
unfolding last_path
longer_bad = refl
