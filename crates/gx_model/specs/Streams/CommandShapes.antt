-- The shapes of commands over a list of items with its end: which lines and blocks stand one after another, and which line or missing
-- item is at fault. There is no state of reading, and no text is cut. The rows of lines are those of git-fast-import(1), in its order;
-- `⨾` stands where the manual page ends a line.
-- Source: git-fast-import(1), "Commands".
use Rattle.std.specs.Prelude.{◌≡◌, IsTrue, ℕ, List, [], ◌∷◌, ◌++◌, codes, Option, Some, None, Result, Ok, Err}
use Rattle.std.specs.List.{list_any, list_all}
use Rattle.gx_model.specs.Texts.{Bytes}
use Rattle.gx_model.specs.Texts.Headers.{encoding_header}
use Rattle.gx_model.specs.Texts.Paths.{Path}
use Rattle.gx_model.specs.Streams.Items.{Item, Line, Data, End, Finished, Failed}
use Rattle.gx_model.specs.declared.faults.Fault.{Fault}
use Rattle.gx_model.specs.declared.faults.Fault.TheVariants as faults
use Rattle.gx_model.specs.declared.objects.Mode.{Mode}
use Rattle.gx_model.specs.declared.objects.Mode.TheVariants as modes
use Rattle.gx_model.specs.Streams.Commands.{CommitIsh, DataRef, Mark, Object, Inline, Change, Modify, Remove, Copy, Rename, Clear, Command, Blob, Commit, Tag, Reset, Checkpoint, Progress, Asks, OptionLine, Done, Commands}
use Rattle.gx_model.specs.Streams.Grammar.{Where, AtMark, AtName, AtBlock, is_option, asks_done, stops, with_command}
use Rattle.gx_model.specs.Streams.LineShapes.{line_of, IsOf, IsOfNone, IsOfOne, IsOneOf, BeginsPart, TextShape, IsIdentText, IsRefText, IsEncodingText, IsAnyText, IsMarkText, IsCommitIshText, IsFeatureText, IsModeText, IsDataRefText, IsLastPath, AreTwoPaths, IsTagNameText}

-- what some first items give, with the items after them; or the first fault
abbrev pub TakenFrom : Type 0 → Type 0
TakenFrom A = Result (A × List Item) Fault

-- a part of a command: what it takes from items with their end
abbrev pub Part : Type 0 → Type 1
Part A = End → List Item → TakenFrom A → Type 0

-- ---- lines and blocks

-- `x?`: at most one line of this word, whose text is of this shape. A failure of the items is told where one of them is looked for.
pub data Optional {A : Type 0} (word : Bytes) (Shape : TextShape A) (end : End) : List Item → TakenFrom (Option A) → Type 0 where
  given : {text : Bytes} {x : A} {rest : List Item}
      → Shape text (Ok x) → Optional word Shape end (Line (line_of word text) ∷ rest) (Ok (Some x, rest))
  of_bad_text : {text : Bytes} {f : Fault} {rest : List Item}
      → Shape text (Err f) → Optional word Shape end (Line (line_of word text) ∷ rest) (Err f)
  without_text : {rest : List Item} → Optional word Shape end (Line word ∷ rest) (Err faults.BadLine)
  before_line : {line : Bytes} {rest : List Item}
      → (IsOf word line → ⊥) → Optional word Shape end (Line line ∷ rest) (Ok (None, Line line ∷ rest))
  before_block : {bytes : Bytes} {rest : List Item} → Optional word Shape end (Data bytes ∷ rest) (Ok (None, Data bytes ∷ rest))
  before_end : end ≡ Finished → Optional word Shape end [] (Ok (None, []))
  before_failure : {f : Fault} → end ≡ Failed f → Optional word Shape end [] (Err f)

-- a line of this word, which is needed
pub data Needed {A : Type 0} (word : Bytes) (Shape : TextShape A) (end : End) : List Item → TakenFrom A → Type 0 where
  stands : {is rest : List Item} {x : A}
      → Optional word Shape end is (Ok (Some x, rest)) → Needed word Shape end is (Ok (x, rest))
  is_missing : {is rest : List Item}
      → Optional word Shape end is (Ok (None, rest)) → Needed word Shape end is (Err faults.BadLine)
  is_at_fault : {is : List Item} {f : Fault} → Optional word Shape end is (Err f) → Needed word Shape end is (Err f)

-- `data`: a block, which is needed
pub data Block (end : End) : List Item → TakenFrom Bytes → Type 0 where
  block : {bytes : Bytes} {rest : List Item} → Block end (Data bytes ∷ rest) (Ok (bytes, rest))
  line_for_block : {line : Bytes} {rest : List Item} → Block end (Line line ∷ rest) (Err faults.BadLine)
  end_for_block : end ≡ Finished → Block end [] (Err faults.BadLine)
  failure_for_block : {f : Fault} → end ≡ Failed f → Block end [] (Err f)

-- what may follow a committer: no `gpgsig`
pub data Unsigned (end : End) : List Item → TakenFrom (Unit {0}) → Type 0 where
  signature : {line : Bytes} {rest : List Item}
      → IsOf (codes "gpgsig") line → Unsigned end (Line line ∷ rest) (Err faults.Unsupported)
  line_unsigned : {line : Bytes} {rest : List Item}
      → (IsOf (codes "gpgsig") line → ⊥) → Unsigned end (Line line ∷ rest) (Ok (tt, Line line ∷ rest))
  block_unsigned : {bytes : Bytes} {rest : List Item} → Unsigned end (Data bytes ∷ rest) (Ok (tt, Data bytes ∷ rest))
  end_unsigned : end ≡ Finished → Unsigned end [] (Ok (tt, []))
  failure_unsigned : {f : Fault} → end ≡ Failed f → Unsigned end [] (Err f)

-- `LF?` after a commit or a reset: an empty line belongs to it, another item begins the next command, and a failure is its own
pub data Ending (end : End) : List Item → TakenFrom (Unit {0}) → Type 0 where
  empty_line : {rest : List Item} → Ending end (Line [] ∷ rest) (Ok (tt, rest))
  other_line : {b : ℕ} {bs : Bytes} {rest : List Item} → Ending end (Line (b ∷ bs) ∷ rest) (Ok (tt, Line (b ∷ bs) ∷ rest))
  other_block : {bytes : Bytes} {rest : List Item} → Ending end (Data bytes ∷ rest) (Ok (tt, Data bytes ∷ rest))
  last_item : end ≡ Finished → Ending end [] (Ok (tt, []))
  failure : {f : Fault} → end ≡ Failed f → Ending end [] (Err f)

-- ---- parts one after another

-- a part and then another: what both give, or the fault of the first that has one
pub data Then {A B : Type 0} (First : Part A) (Second : Part B) (end : End) : List Item → TakenFrom (A × B) → Type 0 where
  both : {is more rest : List Item} {x : A} {y : B}
      → First end is (Ok (x, more)) → Second end more (Ok (y, rest)) → Then First Second end is (Ok ((x, y), rest))
  first_fault : {is : List Item} {f : Fault} → First end is (Err f) → Then First Second end is (Err f)
  second_fault : {is more : List Item} {x : A} {f : Fault}
      → First end is (Ok (x, more)) → Second end more (Err f) → Then First Second end is (Err f)

-- a part and then another
infixr 30 ◌⨾◌
abbrev pub ◌⨾◌ : {A B : Type 0} → Part A → Part B → Part (A × B)
First ⨾ Second = Then First Second

-- `x*`: a part that may be absent, until it is
pub data Repeated {A : Type 0} (Each : Part (Option A)) (end : End) : List Item → TakenFrom (List A) → Type 0 where
  no_more : {is rest : List Item} → Each end is (Ok (None, rest)) → Repeated Each end is (Ok ([], rest))
  one_more : {is more rest : List Item} {x : A} {xs : List A}
      → Each end is (Ok (Some x, more)) → Repeated Each end more (Ok (xs, rest)) → Repeated Each end is (Ok (x ∷ xs, rest))
  next_fault : {is : List Item} {f : Fault} → Each end is (Err f) → Repeated Each end is (Err f)
  later_fault : {is more : List Item} {x : A} {f : Fault}
      → Each end is (Ok (Some x, more)) → Repeated Each end more (Err f) → Repeated Each end is (Err f)

-- a part, and another value made of what it gives
pub data Giving {A B : Type 0} (make : A → B) (Lines : Part A) (end : End) : List Item → TakenFrom B → Type 0 where
  made : {is rest : List Item} {x : A} → Lines end is (Ok (x, rest)) → Giving make Lines end is (Ok (make x, rest))
  refused : {is : List Item} {f : Fault} → Lines end is (Err f) → Giving make Lines end is (Err f)

-- a line's text alone, and a value made of what it gives
pub data OfText {A B : Type 0} (make : A → B) (Shape : TextShape A) (text : Bytes) : List Item → TakenFrom B → Type 0 where
  of_text : {is : List Item} {x : A} → Shape text (Ok x) → OfText make Shape text is (Ok (make x, is))
  text_fault : {is : List Item} {f : Fault} → Shape text (Err f) → OfText make Shape text is (Err f)

-- ---- changes

-- the content of a modify: what its line names, or the block that follows
pub data Content (end : End) : Where → List Item → TakenFrom DataRef → Type 0 where
  content_of_mark : {n : ℕ} {is : List Item} → Content end (AtMark n) is (Ok (Mark n, is))
  content_of_name : {name : Bytes} {is : List Item} → Content end (AtName name) is (Ok (Object name, is))
  content_of_block : {bytes : Bytes} {is rest : List Item}
      → Block end is (Ok (bytes, rest)) → Content end AtBlock is (Ok (Inline bytes, rest))
  no_content : {is : List Item} {f : Fault} → Block end is (Err f) → Content end AtBlock is (Err f)

-- content of this mode can't be taken from there: a gitlink's is its digits
pub data Unfit : Mode → Where → Type 0 where
  mark_of_gitlink : {n : ℕ} → Unfit modes.Gitlink (AtMark n)
  block_of_gitlink : Unfit modes.Gitlink AtBlock

-- a text begins with a mode and a dataref, and this follows the space after them, if one stands there
pub record BeginsModify (text : Bytes) (m : Mode) (at : Where) (path : Option Bytes) : Type 0 where
  pub mode : Bytes
  pub dataref : Bytes
  pub more : Bytes
  pub mode_first : BeginsPart text mode (Some more)
  pub mode_is : IsModeText mode (Ok m)
  pub dataref_next : BeginsPart more dataref path
  pub dataref_is : IsDataRefText dataref (Ok at)

-- behind `M`: mode SP dataref SP path, and with `inline` a block. The first part that is at fault is told: the mode, the dataref,
-- the two together, the path, the block
pub data IsModify (text : Bytes) (end : End) : List Item → TakenFrom Change → Type 0 where
  modify : {path : Bytes} {m : Mode} {at : Where} {p : Path} {content : DataRef} {is rest : List Item}
      → BeginsModify text m at (Some path) → (Unfit m at → ⊥) → IsLastPath path (Ok p) → Content end at is (Ok (content, rest))
      → IsModify text end is (Ok (Modify m content p, rest))
  bad_mode : {mode : Bytes} {f : Fault} {is : List Item} (after : Option Bytes)
      → BeginsPart text mode after → IsModeText mode (Err f) → IsModify text end is (Err f)
  no_dataref : {m : Mode} {is : List Item}
      → BeginsPart text text None → IsModeText text (Ok m) → IsModify text end is (Err faults.BadLine)
  bad_dataref : {mode dataref : Bytes} {m : Mode} {f : Fault} {is : List Item} (more : Bytes) (after : Option Bytes)
      → BeginsPart text mode (Some more) → IsModeText mode (Ok m) → BeginsPart more dataref after → IsDataRefText dataref (Err f)
      → IsModify text end is (Err f)
  unfit_dataref : {m : Mode} {at : Where} {is : List Item} {after : Option Bytes}
      → BeginsModify text m at after → Unfit m at → IsModify text end is (Err faults.Unsupported)
  no_path : {m : Mode} {at : Where} {is : List Item}
      → BeginsModify text m at None → (Unfit m at → ⊥) → IsModify text end is (Err faults.BadLine)
  bad_path : {path : Bytes} {m : Mode} {at : Where} {f : Fault} {is : List Item}
      → BeginsModify text m at (Some path) → (Unfit m at → ⊥) → IsLastPath path (Err f) → IsModify text end is (Err f)
  no_block : {path : Bytes} {m : Mode} {at : Where} {p : Path} {f : Fault} {is : List Item}
      → BeginsModify text m at (Some path) → (Unfit m at → ⊥) → IsLastPath path (Ok p) → Content end at is (Err f)
      → IsModify text end is (Err f)

-- the words of changes that have a text
abbrev pub change_words : List Bytes
change_words = codes "M" ∷ codes "D" ∷ codes "C" ∷ codes "R" ∷ []

-- the words that may begin the line of a change
abbrev pub all_change_words : List Bytes
all_change_words = change_words ++ (codes "deleteall" ∷ codes "N" ∷ [])

-- a change, where one stands
pub data IsChange (end : End) : List Item → TakenFrom (Option Change) → Type 0 where
  modified : {text : Bytes} {is : List Item} {out : TakenFrom (Option Change)}
      → Giving Some (IsModify text) end is out → IsChange end (Line (line_of (codes "M") text) ∷ is) out
  removed : {text : Bytes} {is : List Item} {out : TakenFrom (Option Change)}
      → OfText (λ p. Some (Remove p)) IsLastPath text is out → IsChange end (Line (line_of (codes "D") text) ∷ is) out
  copied : {text : Bytes} {is : List Item} {out : TakenFrom (Option Change)}
      → OfText (λ p. Some (Copy p.0 p.1)) AreTwoPaths text is out → IsChange end (Line (line_of (codes "C") text) ∷ is) out
  renamed : {text : Bytes} {is : List Item} {out : TakenFrom (Option Change)}
      → OfText (λ p. Some (Rename p.0 p.1)) AreTwoPaths text is out → IsChange end (Line (line_of (codes "R") text) ∷ is) out
  cleared : {is : List Item} → IsChange end (Line (codes "deleteall") ∷ is) (Ok (Some Clear, is))
  clear_of_text : {text : Bytes} {is : List Item}
      → IsChange end (Line (line_of (codes "deleteall") text) ∷ is) (Err faults.BadLine)
  change_without_text : {line : Bytes} {is : List Item}
      → IsOneOf change_words line → IsChange end (Line line ∷ is) (Err faults.BadLine)
  note : {line : Bytes} {is : List Item} → IsOf (codes "N") line → IsChange end (Line line ∷ is) (Err faults.Unsupported)
  no_change_at_line : {line : Bytes} {is : List Item}
      → IsOfNone all_change_words line → IsChange end (Line line ∷ is) (Ok (None, Line line ∷ is))
  no_change_at_block : {bytes : Bytes} {is : List Item} → IsChange end (Data bytes ∷ is) (Ok (None, Data bytes ∷ is))
  no_change_at_end : end ≡ Finished → IsChange end [] (Ok (None, []))
  change_failure : {f : Fault} → end ≡ Failed f → IsChange end [] (Err f)

-- ---- the lines of commands, behind the first

-- `mark?`
abbrev pub mark_line : Part (Option ℕ)
mark_line = Optional (codes "mark") IsMarkText

-- `original-oid?`, whose text plays no part
abbrev pub oid_line : Part (Option (Unit {0}))
oid_line = Optional (codes "original-oid") IsAnyText

-- what the lines of a blob give
abbrev pub BlobLines : Type 0
BlobLines = Option ℕ × (Option (Unit {0}) × Bytes)

-- `blob`, `mark?`, `original-oid?`, `data`
abbrev pub blob_lines : Part BlobLines
blob_lines = mark_line ⨾ oid_line ⨾ Block

-- what a blob is made of
abbrev pub blob_command : BlobLines → Command
blob_command (mark, (oid, bytes)) = Blob (record { mark = mark; bytes = bytes })

-- what the lines of a commit give behind its message
abbrev pub CommitLinks : Type 0
CommitLinks = Option CommitIsh × (List CommitIsh × (List Change × Unit {0}))

-- `from?`, `merge*`, a change `*`, `LF?`
abbrev pub commit_links : Part CommitLinks
commit_links =
    Optional (codes "from") IsCommitIshText
    ⨾ Repeated (Optional (codes "merge") IsCommitIshText)
    ⨾ Repeated IsChange
    ⨾ Ending

-- what the lines of a commit give
abbrev pub CommitLines : Type 0
CommitLines = Option ℕ × (Option (Unit {0}) × (Option Bytes × (Bytes × (Unit {0} × (Option Bytes × (Bytes × CommitLinks))))))

-- `commit`, `mark?`, `original-oid?`, `author?`, `committer` and no `gpgsig`, `encoding?`, `data`, and the lines behind the message
abbrev pub commit_lines : Part CommitLines
commit_lines =
    mark_line
    ⨾ oid_line
    ⨾ Optional (codes "author") IsIdentText
    ⨾ Needed (codes "committer") IsIdentText
    ⨾ Unsigned
    ⨾ Optional (codes "encoding") IsEncodingText
    ⨾ Block
    ⨾ commit_links

-- what a commit is made of
abbrev pub commit_command : Bytes → CommitLines → Command
commit_command ref (mark, (oid, (author, (committer, (unsigned, (encoding, (message, (parent, (merges, (changes, ended)))))))))) = Commit (record {
  ref = ref;
  mark = mark;
  author = author;
  committer = committer;
  headers = encoding_header encoding;
  message = message;
  parent = parent;
  merges = merges;
  changes = changes;
})

-- what the lines of a tag give
abbrev pub TagLines : Type 0
TagLines = Option ℕ × (CommitIsh × (Option (Unit {0}) × (Option Bytes × Bytes)))

-- `tag`, `mark?`, `from`, `original-oid?`, `tagger?`, `data`
abbrev pub tag_lines : Part TagLines
tag_lines =
    mark_line
    ⨾ Needed (codes "from") IsCommitIshText
    ⨾ oid_line
    ⨾ Optional (codes "tagger") IsIdentText
    ⨾ Block

-- what a tag is made of
abbrev pub tag_command : Bytes → TagLines → Command
tag_command name (mark, (target, (oid, (tagger, message)))) =
    Tag (record { name = name; mark = mark; target = target; tagger = tagger; message = message })

-- what the lines of a reset give
abbrev pub ResetLines : Type 0
ResetLines = Option CommitIsh × Unit {0}

-- `reset`, `from?`, `LF?`
abbrev pub reset_lines : Part ResetLines
reset_lines = Optional (codes "from") IsCommitIshText ⨾ Ending

-- what a reset is made of
abbrev pub reset_command : Bytes → ResetLines → Command
reset_command ref (parent, ended) = Reset (record { ref = ref; parent = parent })

-- ---- commands

-- the words of commands whose first line has a text
abbrev pub words_of_text : List Bytes
words_of_text = codes "commit" ∷ codes "tag" ∷ codes "reset" ∷ codes "progress" ∷ codes "feature" ∷ codes "option" ∷ []

-- the words of commands whose first line has none
abbrev pub words_alone : List Bytes
words_alone = codes "blob" ∷ codes "checkpoint" ∷ codes "done" ∷ []

-- commands of git-fast-import(1) that aren't read here
abbrev pub unsupported_words : List Bytes
unsupported_words = codes "ls" ∷ codes "cat-blob" ∷ codes "get-mark" ∷ codes "alias" ∷ []

-- only features and options stood before
abbrev pub AreOptions : List Command → Type 0
AreOptions before = IsTrue (list_all is_option before)

-- a command, where one is expected after these
pub data IsCommand (before : List Command) (end : End) : List Item → TakenFrom Command → Type 0 where
  blob : {is : List Item} {out : TakenFrom Command}
      → Giving blob_command blob_lines end is out → IsCommand before end (Line (codes "blob") ∷ is) out
  commit : {text ref : Bytes} {is : List Item} {out : TakenFrom Command}
      → IsRefText text (Ok ref) → Giving (commit_command ref) commit_lines end is out
      → IsCommand before end (Line (line_of (codes "commit") text) ∷ is) out
  commit_of_bad_ref : {text : Bytes} {is : List Item} {f : Fault}
      → IsRefText text (Err f) → IsCommand before end (Line (line_of (codes "commit") text) ∷ is) (Err f)
  tag : {text name : Bytes} {is : List Item} {out : TakenFrom Command}
      → IsTagNameText text (Ok name) → Giving (tag_command name) tag_lines end is out
      → IsCommand before end (Line (line_of (codes "tag") text) ∷ is) out
  tag_of_bad_name : {text : Bytes} {is : List Item} {f : Fault}
      → IsTagNameText text (Err f) → IsCommand before end (Line (line_of (codes "tag") text) ∷ is) (Err f)
  reset : {text ref : Bytes} {is : List Item} {out : TakenFrom Command}
      → IsRefText text (Ok ref) → Giving (reset_command ref) reset_lines end is out
      → IsCommand before end (Line (line_of (codes "reset") text) ∷ is) out
  reset_of_bad_ref : {text : Bytes} {is : List Item} {f : Fault}
      → IsRefText text (Err f) → IsCommand before end (Line (line_of (codes "reset") text) ∷ is) (Err f)
  checkpoint : {is : List Item} → IsCommand before end (Line (codes "checkpoint") ∷ is) (Ok (Checkpoint, is))
  progress : {text : Bytes} {is : List Item}
      → IsCommand before end (Line (line_of (codes "progress") text) ∷ is) (Ok (Progress text, is))
  feature : {text : Bytes} {is : List Item} {out : TakenFrom Command}
      → AreOptions before → OfText Asks IsFeatureText text is out → IsCommand before end (Line (line_of (codes "feature") text) ∷ is) out
  option : {text : Bytes} {is : List Item}
      → AreOptions before → IsCommand before end (Line (line_of (codes "option") text) ∷ is) (Ok (OptionLine text, is))
  late_feature : {text : Bytes} {is : List Item}
      → (AreOptions before → ⊥) → IsCommand before end (Line (line_of (codes "feature") text) ∷ is) (Err faults.LateOption)
  late_option : {text : Bytes} {is : List Item}
      → (AreOptions before → ⊥) → IsCommand before end (Line (line_of (codes "option") text) ∷ is) (Err faults.LateOption)
  done : {is : List Item} → IsCommand before end (Line (codes "done") ∷ is) (Ok (Done, is))
  command_without_text : {line : Bytes} {is : List Item}
      → IsOneOf words_of_text line → IsCommand before end (Line line ∷ is) (Err faults.BadLine)
  command_of_text : {line word : Bytes} {is : List Item} (text : Bytes)
      → IsOneOf words_alone word → line ≡ line_of word text → IsCommand before end (Line line ∷ is) (Err faults.BadLine)
  unsupported : {line : Bytes} {is : List Item}
      → IsOfOne unsupported_words line → IsCommand before end (Line line ∷ is) (Err faults.Unsupported)
  unknown_line : {b : ℕ} {bs : Bytes} {is : List Item}
      → IsOfNone (words_of_text ++ words_alone ++ unsupported_words) (b ∷ bs)
      → IsCommand before end (Line (b ∷ bs) ∷ is) (Err faults.UnknownCommand)
  unknown_block : {bytes : Bytes} {is : List Item} → IsCommand before end (Data bytes ∷ is) (Err faults.UnknownCommand)

-- a command asked that the items end by `done`
abbrev pub AskDone : List Command → Type 0
AskDone before = IsTrue (list_any asks_done before)

-- the commands of items with their end, after the commands before
pub data AreCommands (end : End) : List Command → List Item → Commands → Type 0 where
  skipped : {before : List Command} {is : List Item} {cs : Commands}
      → AreCommands end before is cs → AreCommands end before (Line [] ∷ is) cs
  taken : {before : List Command} {is rest : List Item} {c : Command} {cs : Commands}
      → IsCommand before end is (Ok (c, rest)) → (c ≡ Done → ⊥) → AreCommands end (before ++ c ∷ []) rest cs
      → AreCommands end before is (with_command c cs)
  -- what stands after `done` plays no part
  at_done : {before : List Command} {is rest : List Item}
      → IsCommand before end is (Ok (Done, rest)) → AreCommands end before is (with_command Done (stops None))
  at_fault : {before : List Command} {is : List Item} {f : Fault}
      → IsCommand before end is (Err f) → AreCommands end before is (stops (Some f))
  at_end : {before : List Command} → end ≡ Finished → (AskDone before → ⊥) → AreCommands end before [] (stops None)
  at_missing_done : {before : List Command}
      → end ≡ Finished → AskDone before → AreCommands end before [] (stops (Some faults.MissingDone))
  at_failure : {before : List Command} {f : Fault} → end ≡ Failed f → AreCommands end before [] (stops (Some f))
