-- What a command prints of a store, or why it is refused.
-- Source: git-cat-file(1), git-ls-tree(1), git-show-ref(1) and git-rev-parse(1).
use Rattle.std.specs.Prelude.{◌≡◌, ℕ, Bool, if◌then◌else◌, List, [], ◌∷◌, ◌++◌, Result, Ok, Err}
use Rattle.std.specs.List.{flat_map}
use Rattle.gx_model.specs.declared.objects.Kind.{Kind}
use Rattle.gx_model.specs.declared.faults.Fault.{Fault}
use Rattle.gx_model.specs.Texts.{Bytes}
use Rattle.gx_model.specs.Faults.{Given, ◌>>=◌}
use Rattle.gx_model.specs.Texts.Paths.{Path, path_text}
use Rattle.gx_model.specs.Histories.Files.{FileMap, Leaf}
use Rattle.gx_model.specs.Histories.Values.{Commit}
use Rattle.gx_model.specs.Objects.{hex}
use Rattle.gx_model.specs.Records.{content_name, name_of}
use Rattle.gx_model.specs.Histories.{History, Records}
use Rattle.gx_model.specs.Revisions.{RangeWord, revision_of}
use Rattle.gx_model.specs.Revisions.Denotation.{Shown, denoted, files_in, object, submodule, value_denoted}
use Rattle.gx_model.specs.Revisions.Ranges.{WordFault, each_word, listing, words_denoted}
use Rattle.gx_model.specs.Stores.StoreText.{stored_ref}
use Rattle.gx_rev.specs.declared.shown.Shown.{Shown as Answer}
use Rattle.gx_rev.specs.declared.shown.Shown.TheVariants.{Object, Submodule}
use Rattle.gx_print.specs.Listings.{entry_line, text_of_word, tree_lines}

-- ---- refusals

-- the word with this number, from 1, isn't one or gives nothing
pub data Refusal : Type 0 where
  of_word : ℕ → Fault → Refusal

-- a text to print, or a refusal
abbrev pub Printed : Type 0
Printed = Result Bytes Refusal

-- a front of the text, or nothing
abbrev pub IsFrontOf : Printed → Bytes → Type 0
IsFrontOf (Ok text) front = (rest : Bytes) × (text ≡ front ++ rest)
IsFrontOf (Err refusal) front = front ≡ []

-- what the only word gives
abbrev pub only_word : {A : Type 0} → Given A → Result A Refusal
only_word (Ok x) = Ok x
only_word (Err f) = Err (of_word 1 f)

-- what several words give
abbrev pub all_words : {A : Type 0} → Result A WordFault → Result A Refusal
all_words (Ok x) = Ok x
all_words (Err f) = Err (of_word f.word f.fault)

-- ---- refs

-- each ref's object and name
abbrev pub refs_text : Records → Bytes
refs_text repository = flat_map stored_ref repository.refs

-- ---- names

-- the line of an object's name, or of a submodule's digits, as they are answered
abbrev pub shown_line : Answer → Bytes
shown_line (Object kind called) = hex called.bytes ++ 10 ∷ []
shown_line (Submodule called) = hex called.bytes ++ 10 ∷ []

module _ (name : Kind → Bytes → Bytes) where
  -- ---- one revision

  -- what a revision shows
  abbrev pub show_text : History → Bytes → Printed
  show_text h word = only_word (text_of_word name h word)

  -- the files of a revision's tree
  abbrev pub files_of_word : History → Bytes → Given (FileMap Bytes)
  files_of_word h word = revision_of word >>= λ r. value_denoted name h r >>= files_in

  -- a file's line: its mode, its kind, the digits of its content's name, and behind a TAB its whole path as it is printed
  abbrev pub file_line : Path × Leaf Bytes → Bytes
  file_line file = entry_line (record { mode = file.1.0; component = path_text file.0; name = content_name name file.1.0 file.1.1 })

  -- the lines of a file map: its first components, or all of its files
  abbrev pub list_lines : Bool → FileMap Bytes → Bytes
  list_lines recursive files = if recursive then flat_map file_line files else tree_lines name files

  -- the lines of a revision's tree
  abbrev pub list_text : Bool → History → Bytes → Printed
  list_text recursive h word = only_word (files_of_word h word >>= λ files. Ok (list_lines recursive files))

  -- ---- several revisions

  -- an object's name, or a submodule's digits, in a line
  abbrev pub name_line : Shown → Bytes
  name_line (object value) = hex (name_of name value) ++ 10 ∷ []
  name_line (submodule digits) = digits ++ 10 ∷ []

  -- a line for each revision: all are read, and then all are evaluated
  abbrev pub names_text : History → List Bytes → Printed
  names_text h words = all_words (each_word revision_of words >>= λ rs. each_word (denoted name h) rs >>= λ shown. Ok (flat_map name_line shown))

  -- ---- ranges

  -- the commits that range words list
  abbrev pub commits_listed : History → List RangeWord → Result (List Commit) WordFault
  commits_listed h ws = (words_denoted name h ws >>= λ xs. Ok (listing h xs))
