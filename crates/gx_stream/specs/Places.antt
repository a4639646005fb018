-- Where lines, blocks and items stand in a text.
use Rattle.std.specs.Prelude.{◌≡◌, ℕ, ◌+◌, ◌-◌, ◌<◌, ◌≤◌, ◌⊎◌, Bool, true, false, [], ◌++◌, length, drop, take, slice_range, Option, Some, None, suc, nat_eq, if◌then◌else◌}
use Rattle.std.specs.Option.{option_map}
use Rattle.gx_model.specs.Texts.{Bytes}
use Rattle.gx_model.specs.Streams.Items.{Item, Line, Data, First, takes, ends, line_len, has_no_line, lines_before, items_of, then_comes}
use Rattle.gx_stream.specs.Faults.{shown_end, ended}
use Rattle.gx_stream.specs.declared.fault.StreamFault.{StreamFault}
use Rattle.gx_stream.specs.declared.fault.StreamFault.TheVariants.{BadNumber}
use Rattle.gx_stream.specs.declared.places.Place.{Place}
use Rattle.gx_stream.specs.declared.places.Scan.{Scan}
use Rattle.gx_stream.specs.declared.places.Found.{Found}
use Rattle.gx_stream.specs.declared.places.Found.TheVariants as found

-- what stands at a place
abbrev pub bytes_at : Bytes → Place → Bytes
bytes_at text p = slice_range text p.start p.end

-- a place within a text
abbrev pub IsWithin : Bytes → Place → Type 0
IsWithin text p = (p.start ≤ p.end) × (p.end ≤ p.next) × (p.next ≤ length text)

-- the line that the rest of a text begins with
pub record IsLine (text : Bytes) (fails : Bool) (at : ℕ) (line : Place) : Type 0 where
  pub some : has_no_line (drop at text) fails ≡ false
  pub within : IsWithin text line
  pub start : line.start ≡ at
  pub further : at < line.next
  pub bytes : bytes_at text line ≡ take (line_len (drop at text)) (drop at text)
  pub rest : drop line.next text ≡ drop (line_len (drop at text) + 1) (drop at text)

abbrev pub IsLineAt : Bytes → Bool → ℕ → Option Place → Type 0
IsLineAt text fails at None = has_no_line (drop at text) fails ≡ true
IsLineAt text fails at (Some line) = IsLine text fails at line

-- A text that fails may be the front of a longer one, and of any. A text that ends is the whole.
abbrev pub GoesOn : Bool → Bytes → Bool → Type 0
GoesOn true more then_fails = Unit {0}
GoesOn false more then_fails = (more ≡ []) × (then_fails ≡ false)

-- the line that begins at a place has no LF before another
abbrev pub GoesTo : Bytes → ℕ → ℕ → Type 0
GoesTo text at seen = (at ≤ seen) × (seen ≤ length text) × (seen ≤ at + line_len (drop at text))

-- the lines of a text before its delimiter line, and what follows that one
abbrev pub before : Bytes → Bytes → Bool → Option (Bytes × Bytes)
before delimiter text fails = lines_before (suc (length text)) delimiter text fails

-- more bytes before them
abbrev pub behind : Bytes → Option (Bytes × Bytes) → Option (Bytes × Bytes)
behind xs o = option_map (λ p. (xs ++ p.0, p.1)) o

-- none of the lines between two places is the delimiter, however the text goes on
pub record Searched (text delimiter : Bytes) (fails : Bool) (start at : ℕ) : Type 0 where
  pub from : start ≤ at
  pub within : at ≤ length text
  pub same : (more : Bytes) (then_fails : Bool) → GoesOn fails more then_fails → before delimiter (drop start text ++ more) then_fails ≡ behind (slice_range text start at) (before delimiter (drop at text ++ more) then_fails)

abbrev pub IsSearched : Bytes → Bytes → Bool → ℕ → Scan → Type 0
IsSearched text delimiter fails start scan = GoesTo text scan.line scan.seen × Searched text delimiter fails start scan.line

-- the lines from a place on before the one that is the delimiter, with what follows that one
abbrev pub AreLinesAt : Bytes → Bytes → Bool → ℕ → Option Place → Type 0
AreLinesAt text delimiter fails at None = before delimiter (drop at text) fails ≡ None
AreLinesAt text delimiter fails at (Some lines) = (lines.start ≡ at) × IsWithin text lines × (before delimiter (drop at text) fails ≡ Some (bytes_at text lines, drop lines.next text))

-- The line at a place came whole. None of the lines between it and another place is the delimiter that it would give.
pub record IsPast (text : Bytes) (at line : ℕ) : Type 0 where
  pub some : has_no_line (drop at text) true ≡ false
  pub searched : Searched text (drop 2 (drop 5 (take (line_len (drop at text)) (drop at text)))) true (at + line_len (drop at text) + 1) line

-- what is known where a line begins
abbrev pub from_line : ℕ → Scan
from_line line = record { first = line; line = line; seen = line; wanted = 0 }

-- where n bytes before the places are gone
abbrev pub without : ℕ → Scan → Scan
without n scan = record { first = scan.first - n; line = scan.line - n; seen = scan.seen - n; wanted = scan.wanted - n }

-- where the last line begins at another place
abbrev pub at_line : ℕ → Scan → Scan
at_line line scan = record { first = scan.first; line = line; seen = line; wanted = scan.wanted }

-- where the first line came whole
abbrev pub past_first : Scan → ℕ → ℕ → Scan
past_first scan at next = if nat_eq scan.line at then at_line next scan else scan

-- what is known of the item that begins at a place. Where the text doesn't fail, that is its first line alone
abbrev pub IsScanned : Bytes → Bool → ℕ → Scan → Type 0
IsScanned text fails at scan = GoesTo text scan.line scan.seen × ((scan.line ≡ at) ⊎ ((fails ≡ true) × IsPast text at scan.line))

-- what a text begins with stands there
abbrev pub Begins : Bytes → First → Found → Type 0
Begins text first (found.Line p) = IsWithin text p × (first ≡ takes (Line (bytes_at text p)) (drop p.next text))
Begins text first (found.Data p) = IsWithin text p × (first ≡ takes (Data (bytes_at text p)) (drop p.next text))
Begins text first (found.End e) = first ≡ ends (shown_end e)

-- the delimiter that the line at a place would give
abbrev pub delimiter_at : Bytes → Place → Bytes
delimiter_at text line = drop 2 (drop 5 (bytes_at text line))

-- only comments stand between two places, however the text goes on
pub record Skipped (text : Bytes) (fails : Bool) (start at : ℕ) : Type 0 where
  pub from : start ≤ at
  pub within : at ≤ length text
  pub same : (more : Bytes) (then_fails : Bool) → GoesOn fails more then_fails → items_of (drop start text ++ more) then_fails ≡ items_of (drop at text ++ more) then_fails

-- an item comes next, with the text after it, however the text goes on
pub record ComesNext (text : Bytes) (fails : Bool) (at : ℕ) (item : Item) (p : Place) : Type 0 where
  pub within : IsWithin text p
  pub further : at < p.next
  pub next : (more : Bytes) (then_fails : Bool) → GoesOn fails more then_fails → items_of (drop at text ++ more) then_fails ≡ then_comes item (items_of (drop p.next text ++ more) then_fails)

-- no item comes, and if the count of a block is none, then however the text goes on
pub record NoneComes (text : Bytes) (fails : Bool) (at : ℕ) (e : Option StreamFault) : Type 0 where
  pub end : items_of (drop at text) fails ≡ ended (shown_end e)
  pub stays : e ≡ Some BadNumber → (more : Bytes) (then_fails : Bool) → GoesOn fails more then_fails → items_of (drop at text ++ more) then_fails ≡ ended (shown_end e)

-- the item that comes next from a place on stands there, or there is none
abbrev pub Finds : Bytes → Bool → ℕ → Found → Type 0
Finds text fails at (found.Line p) = ComesNext text fails at (Line (bytes_at text p)) p
Finds text fails at (found.Data p) = ComesNext text fails at (Data (bytes_at text p)) p
Finds text fails at (found.End e) = NoneComes text fails at e
