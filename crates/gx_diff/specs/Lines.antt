-- What is printed of the paths at which two revisions differ.
-- Source: git-diff-tree(1), "RAW OUTPUT FORMAT", and `--name-status`, `--name-only`, `-z`; git-diff(1), `--exit-code`, `--quiet`.
use Rattle.std.specs.Prelude.{ℕ, Bool, true, false, not, ◌==◌, ◌||◌, if◌then◌else◌, List, [], ◌∷◌, ◌++◌, Option, Some, None, codes}
use Rattle.std.specs.Fmt.{decimal}
use Rattle.std.specs.List.{count_by, flat_map}
use Rattle.gx_model.specs.declared.objects.Mode.{Mode}
use Rattle.gx_model.specs.declared.objects.Mode.TheVariants.{File, Exec}
use Rattle.gx_model.specs.Export.{mode_digits}
use Rattle.gx_model.specs.Histories.Files.{Leaf}
use Rattle.gx_model.specs.Histories.Values.{same_mode}
use Rattle.gx_model.specs.Objects.{hex}
use Rattle.gx_model.specs.Texts.{Bytes}
use Rattle.gx_model.specs.Texts.Paths.{path_text, printed}
use Rattle.gx_asks.specs.declared.question.DiffForm.{DiffForm}
use Rattle.gx_asks.specs.declared.question.DiffForm.TheVariants.{Status, Paths, Raw, Count, Patch, Quiet}
use Rattle.gx_asks.specs.declared.question.DiffOptions.{DiffOptions}
use Rattle.gx_differences.specs.Listed.{Standing}

-- ---- the status of a path

-- the type of a file: one that may be run is of the type of others
abbrev pub type_of : Mode → Mode
type_of Exec = File
type_of mode = mode

-- the letter of what became of a path: A of a new file, D of one that is gone, T of one of another type, M of another one
abbrev pub status : Option (Leaf Bytes) → Option (Leaf Bytes) → ℕ
status None new = 65
status (Some old) None = 68
status (Some old) (Some new) = if same_mode (type_of old.0) (type_of new.0) then 77 else 84

abbrev pub status_of : Standing → ℕ
status_of s = status s.1.0 s.1.1

-- ---- lines

-- the text of a path at the end of a line: as it is printed, with an LF, or as it is, with a NUL
abbrev pub path_field : Bool → Bytes → Bytes
path_field true path = path ++ 0 ∷ []
path_field false path = printed path ++ 10 ∷ []

-- what follows a status: a NUL, or a TAB
abbrev pub tab : Bool → ℕ
tab true = 0
tab false = 9

-- the status and the path
abbrev pub status_fields : Bool → Standing → Bytes
status_fields nul s = status_of s ∷ tab nul ∷ path_field nul (path_text s.0)

-- the mode of a file, and zeros where there is none
abbrev pub mode_field : Option (Leaf Bytes) → Bytes
mode_field None = codes "000000"
mode_field (Some leaf) = mode_digits leaf.0

-- the digits of its name, likewise
abbrev pub name_field : Option (Leaf Bytes) → Bytes
name_field None = codes "0000000000000000000000000000000000000000"
name_field (Some leaf) = hex leaf.1

-- a colon, and the modes and names before and after, each with a space behind it
abbrev pub files_fields : Standing → Bytes
files_fields s =
    58 ∷ mode_field s.1.0 ++ 32 ∷ mode_field s.1.1 ++ 32 ∷ name_field s.1.0 ++ 32 ∷ name_field s.1.1 ++ 32 ∷ []

-- the line of a path
abbrev pub line_of : DiffForm → Bool → Standing → Bytes
line_of Status nul s = status_fields nul s
line_of Paths nul s = path_field nul (path_text s.0)
line_of Raw nul s = files_fields s ++ status_fields nul s
line_of Count nul s = []
line_of Patch nul s = []
line_of Quiet nul s = []

-- ---- how many there are

-- a status, a TAB, and how many paths have it
abbrev pub count_line : ℕ → List Standing → Bytes
count_line letter ss = letter ∷ 9 ∷ decimal (count_by (λ s. status_of s == letter) ss) ++ 10 ∷ []

abbrev pub counts_text : List Standing → Bytes
counts_text ss = count_line 65 ss ++ count_line 68 ss ++ count_line 77 ss ++ count_line 84 ss

-- ---- the whole text

abbrev pub is_count : DiffForm → Bool
is_count Count = true
is_count form = false

abbrev pub diff_text : DiffOptions → List Standing → Bytes
diff_text options ss = if is_count options.form then counts_text ss else flat_map (line_of options.form options.nul) ss

-- ---- the answer

abbrev pub is_quiet : DiffForm → Bool
is_quiet Quiet = true
is_quiet form = false

abbrev pub are_none : List Standing → Bool
are_none [] = true
are_none (s ∷ ss) = false

-- the answer is yes, unless it is asked for and something differs
abbrev pub ends_well : DiffOptions → List Standing → Bool
ends_well options ss = not (options.exit_code || is_quiet options.form) || are_none ss
