-- The lines of commands, and the parts of a line, from left to right.
-- Source: git-fast-import(1), "Commands".
use Rattle.std.specs.Prelude.{ℕ, Bool, ◌&&◌, ◌||◌, ◌==◌, codes, List, [], ◌∷◌, length, Option, Some, None, Result, Ok, Err, if◌then◌else◌}
use Rattle.std.specs.List.{list_all}
use Rattle.std.specs.Str.{bytes_eq}
use Rattle.gx_model.specs.Texts.{Bytes, cut_at}
use Rattle.gx_model.specs.Texts.Numbers.{decimal_of}
use Rattle.gx_model.specs.Texts.RefNames.{is_ref_name, is_tag_name}
use Rattle.gx_model.specs.Texts.Idents.{is_ident}
use Rattle.gx_model.specs.Histories.Values.{is_optional_encoding}
use Rattle.gx_model.specs.Texts.Paths.{Path, is_quoted, path_of, quoted_of}
use Rattle.gx_model.specs.Faults.{Given, ◌>>=◌}
use Rattle.std.specs.Option.{ok_or}
use Rattle.gx_model.specs.Streams.Items.{Item, Line, Data, End, Finished, Failed, Stream}
use Rattle.gx_model.specs.declared.faults.Fault.{Fault}
use Rattle.gx_model.specs.declared.faults.Fault.TheVariants as faults
use Rattle.gx_model.specs.declared.objects.Mode.{Mode}
use Rattle.gx_model.specs.declared.objects.Mode.TheVariants as modes
use Rattle.gx_model.specs.declared.features.Feature.{Feature}
use Rattle.gx_model.specs.declared.features.Feature.TheVariants as features
use Rattle.gx_model.specs.Streams.Commands.{CommitIsh, Marked, Named}

-- what some first items give, with the items after them, or the first fault
abbrev pub Read : Type 0 → Type 0
Read A = Result (A × Stream) Fault

-- ---- lines

-- the word of a line, and its rest
pub record Words : Type 0 where
  pub word : Bytes
  pub rest : Option (Bytes)

-- the word and the rest, from the cut at the first space
abbrev pub words_by : Bytes → Option (Bytes × Bytes) → Words
words_by line None = record { word = line; rest = None }
words_by line (Some p) = record { word = p.0; rest = Some p.1 }

-- the word of a line, and its rest
abbrev pub words_of : Bytes → Words
words_of line = words_by line (cut_at 32 line)

-- whether the word is this
abbrev pub is_word : Words → Bytes → Bool
is_word w name = bytes_eq w.word name

-- the rest of a line that needs one; the line of a word that has none
abbrev pub rest_of : Words → Given (Bytes)
rest_of w = ok_or w.rest faults.BadLine

-- nothing, where there is no rest
abbrev pub bare_by : Option (Bytes) → Given (Unit {0})
bare_by None = Ok tt
bare_by (Some r) = Err faults.BadLine

-- a line that needs no rest has none
abbrev pub bare : Words → Given (Unit {0})
bare w = bare_by w.rest

-- ---- what stands after the items: the fault of an end, where there is one
-- at the end of the items: what is given there, or the fault of the end
abbrev pub at_end : {A : Type 0} → End → Given A → Given A
at_end Finished otherwise = otherwise
at_end (Failed f) otherwise = Err f

-- the items that are left
abbrev pub after : List Item → Stream → Stream
after more s = record s { items = more }

-- the rest of the next line, where it has this word
unfoldable pub rest_line_in : Bytes → List Item → Stream → Read (Option (Bytes))
rest_line_in name [] s = at_end s.end (Ok (None, s))
rest_line_in name (Data b ∷ more) s = Ok (None, s)
rest_line_in name (Line l ∷ more) s = if is_word (words_of l) name then (rest_of (words_of l) >>= λ r. Ok (Some r, after more s)) else Ok (None, s)

-- the rest of the next line, where it has this word
abbrev pub rest_line : Bytes → Stream → Read (Option (Bytes))
rest_line name s = rest_line_in name s.items s

-- the rest of an optional line, read
abbrev pub read_some : {A : Type 0} → (Bytes → Given A) → Option (Bytes) → Given (Option A)
read_some read None = Ok None
read_some read (Some r) = read r >>= λ x. Ok (Some x)

-- an optional line with this word, whose rest is read so
abbrev pub optional : {A : Type 0} → Bytes → (Bytes → Given A) → Stream → Read (Option A)
optional name read s = rest_line name s >>= λ r. read_some read r.0 >>= λ x. Ok (x, r.1)

-- a line with this word, which is needed
abbrev pub read_needed : {A : Type 0} → (Bytes → Given A) → Option (Bytes) → Given A
read_needed read None = Err faults.BadLine
read_needed read (Some r) = read r

-- a line with this word, which is needed, with its rest read
abbrev pub needed : {A : Type 0} → Bytes → (Bytes → Given A) → Stream → Read A
needed name read s = rest_line name s >>= λ r. read_needed read r.0 >>= λ x. Ok (x, r.1)

-- the block that comes next, which is needed
unfoldable pub block_in : List Item → Stream → Read (Bytes)
block_in [] s = at_end s.end (Err faults.BadLine)
block_in (Data b ∷ more) s = Ok (b, after more s)
block_in (Line l ∷ more) s = Err faults.BadLine

-- the block that comes next, which is needed
abbrev pub block : Stream → Read (Bytes)
block s = block_in s.items s

-- ---- the parts of lines

-- the number of a mark, from 1
abbrev pub mark_number : Bytes → Given ℕ
mark_number ds = ok_or (decimal_of ds) faults.BadNumber >>= λ n. if n == 0 then Err faults.BadNumber else Ok n

-- the number behind a `:`, where there is a `:`
abbrev pub colon_number : Bytes → Option (Given ℕ)
colon_number [] = None
colon_number (b ∷ bs) = if b == 58 then Some (mark_number bs) else None

-- a mark, or BadLine where there is no `:`
abbrev pub of_mark : Option (Given ℕ) → Given ℕ
of_mark None = Err faults.BadLine
of_mark (Some g) = g

-- the number of a mark, behind its `:`
unfoldable pub mark_of : Bytes → Given ℕ
mark_of bs = of_mark (colon_number bs)

-- a text that plays no part
abbrev pub any_text : Bytes → Given (Unit {0})
any_text bs = Ok tt

-- an encoding
abbrev pub encoding_of : Bytes → Given (Bytes)
encoding_of bs = if is_optional_encoding (Some bs) then Ok bs else Err faults.BadLine

-- an identity
abbrev pub ident_of : Bytes → Given (Bytes)
ident_of bs = if is_ident bs then Ok bs else Err faults.BadIdent

-- a ref name
abbrev pub ref_of : Bytes → Given (Bytes)
ref_of bs = if is_ref_name bs then Ok bs else Err faults.BadRefName

-- a tag name
abbrev pub tag_of : Bytes → Given (Bytes)
tag_of bs = if is_tag_name bs then Ok bs else Err faults.BadRefName

-- forty zeros
abbrev pub is_null : Bytes → Bool
is_null bs = list_all (λ b. b == 48) bs && length bs == 40

-- a mark, or any other text but forty zeros
abbrev pub commit_ish_by : Bytes → Option (Given ℕ) → Given CommitIsh
commit_ish_by bs (Some g) = g >>= λ n. Ok (Marked n)
commit_ish_by bs None = if is_null bs then Err faults.Unsupported else Ok (Named bs)

-- what names a commit
unfoldable pub commit_ish_of : Bytes → Given CommitIsh
commit_ish_of bs = commit_ish_by bs (colon_number bs)

-- a feature that is known
abbrev pub feature_of : Bytes → Given Feature
feature_of bs =
    if bytes_eq bs (codes "done") then Ok features.Done
    else (if bytes_eq bs (codes "date-format=raw") then Ok features.RawDates
    else (if bytes_eq bs (codes "force") then Ok features.Force else Err faults.Unsupported))

-- the mode of a modify line
abbrev pub mode_of : Bytes → Given Mode
mode_of bs =
    if bytes_eq bs (codes "100644") || bytes_eq bs (codes "644") then Ok modes.File
    else (if bytes_eq bs (codes "100755") || bytes_eq bs (codes "755") then Ok modes.Exec
    else (if bytes_eq bs (codes "120000") then Ok modes.Link
    else (if bytes_eq bs (codes "160000") then Ok modes.Gitlink
    else (if bytes_eq bs (codes "040000") || bytes_eq bs (codes "40000") then Err faults.Unsupported else Err faults.BadMode))))

-- ---- paths in lines

-- the path that ends its line
unfoldable pub last_path : Bytes → Given (Path)
last_path bs =
    if is_quoted bs then (quoted_of bs >>= λ p. if length p.1 == 0 then Ok p.0 else Err faults.BadLine)
    else path_of bs

-- what follows a quoted source: a space
abbrev pub after_space : {A : Type 0} → A → Bytes → Given (A × Bytes)
after_space x [] = Err faults.BadLine
after_space x (b ∷ bs) = if b == 32 then Ok (x, bs) else Err faults.BadLine

-- the path before a space, and what follows the space
unfoldable pub source_path : Bytes → Given (Path × Bytes)
source_path bs =
    if is_quoted bs then (quoted_of bs >>= λ p. after_space p.0 p.1)
    else (ok_or (cut_at 32 bs) faults.BadLine >>= λ p. path_of p.0 >>= λ path. Ok (path, p.1))
