-- The items of a text: lines, and blocks of bytes that a line `data` announces. Comments give none.
-- Source: git-fast-import(1), "Comments" and "data".
use Rattle.std.specs.Prelude.{zero, suc, ℕ, ◌+◌, Bool, ◌&&◌, ◌||◌, List, [], ◌∷◌, ◌++◌, length, take, drop, codes, Option, Some, None, nat_eq, nat_lt, ◌==◌, if◌then◌else◌}
use Rattle.std.specs.Option.{option_map}
use Rattle.std.specs.List.{position_or_len, starts_with}
use Rattle.std.specs.Str.{bytes_eq}
use Rattle.gx_model.specs.Texts.{Bytes}
use Rattle.gx_model.specs.Texts.Numbers.{decimal_of}
use Rattle.gx_model.specs.declared.faults.Fault.{Fault}
use Rattle.gx_model.specs.declared.faults.Fault.TheVariants.{ReadFailed, TruncatedData, BadNumber}

-- a line without its LF, or a block of bytes
pub data Item : Type 0 where
  Line : Bytes → Item
  Data : Bytes → Item

-- how the items of a text end
pub data End : Type 0 where
  Finished : End
  Failed : Fault → End

-- the items that are still to come, with their end
pub record Stream : Type 0 where
  pub items : List Item
  pub end : End

-- the byte LF
abbrev pub is_lf : ℕ → Bool
is_lf b = b == 10

-- how many bytes stand before the first LF, or in all where there is none
abbrev pub line_len : Bytes → ℕ
line_len text = position_or_len is_lf text

-- the end where the text stops too early
abbrev pub cut_off : Bool → End
cut_off fails = if fails then Failed ReadFailed else Failed TruncatedData

-- the end of a text that an end follows, or a failure
abbrev pub end_of : Bool → End
end_of fails = if fails then Failed ReadFailed else Finished

-- what a text begins with: an item, or a comment, and the text after it; or neither, and then its end
pub data First : Type 0 where
  takes : Item → Bytes → First
  drops : Bytes → First
  ends : End → First

-- what is left after an LF that may stand first
abbrev pub without_lf : Bytes → Bytes
without_lf [] = []
without_lf (b ∷ bs) = if is_lf b then bs else b ∷ bs

-- no line stands at the front
abbrev pub has_no_line : Bytes → Bool → Bool
has_no_line text fails = nat_eq (length text) 0 || (fails && nat_eq (line_len text) (length text))

-- a block of n bytes. Where the text fails, a byte has to stand after them
unfoldable pub counted_block : ℕ → Bytes → Bool → First
counted_block n rest fails =
    if nat_lt (length rest) n || (fails && nat_eq (length rest) n) then ends (cut_off fails) else takes (Data (take n rest)) (without_lf (drop n rest))

-- the block of a count, or BadNumber
abbrev pub counted : Option ℕ → Bytes → Bool → First
counted None rest fails = ends (Failed BadNumber)
counted (Some n) rest fails = counted_block n rest fails

-- one line more before the delimiter
abbrev pub with_line : Bytes → Option (Bytes × Bytes) → Option (Bytes × Bytes)
with_line l o = option_map (λ p. (l ++ 10 ∷ p.0, p.1)) o

-- the lines before the one that is the delimiter, at most n, and what follows that one
unfoldable pub lines_before : ℕ → Bytes → Bytes → Bool → Option (Bytes × Bytes)
lines_before zero delimiter text fails = None
lines_before (suc n) delimiter text fails =
    if has_no_line text fails then None
    else (if bytes_eq (take (line_len text) text) delimiter then Some ([], drop (line_len text + 1) text)
    else with_line (take (line_len text) text) (lines_before n delimiter (drop (line_len text + 1) text) fails))

-- the block before a delimiter line, or the end where there is none
abbrev pub delimited_by : Option (Bytes × Bytes) → Bool → First
delimited_by None fails = ends (cut_off fails)
delimited_by (Some p) fails = if fails && nat_eq (length p.1) 0 then ends (cut_off fails) else takes (Data p.0) (without_lf p.1)

-- the block up to a delimiter line
unfoldable pub delimited : Bytes → Bytes → Bool → First
delimited delimiter rest fails = delimited_by (lines_before (suc (length rest)) delimiter rest fails) fails

-- after `data` and a space
abbrev pub announced : Bytes → Bytes → Bool → First
announced x rest fails = if starts_with nat_eq x (codes "<<") then delimited (drop 2 x) rest fails else counted (decimal_of x) rest fails

-- what a line begins: a comment, a block, or a line item
unfoldable pub first_line : Bytes → Bytes → Bool → First
first_line l rest fails =
    if starts_with nat_eq l (codes "#") then drops rest
    else (if starts_with nat_eq l (codes "data ") then announced (drop 5 l) rest fails else takes (Line l) rest)

-- what a text begins with
unfoldable pub first_of : Bytes → Bool → First
first_of text fails =
    if has_no_line text fails then ends (end_of fails) else first_line (take (line_len text) text) (drop (line_len text + 1) text) fails

-- an item, and then these
abbrev pub then_comes : Item → Stream → Stream
then_comes i s = record { items = i ∷ s.items; end = s.end }

-- a reading that begins so, with a reading of the text after it
abbrev pub after : First → (Bytes → Stream) → Stream
after (takes i rest) next = then_comes i (next rest)
after (drops rest) next = next rest
after (ends e) next = record { items = []; end = e }

-- the items of a text, of at most n that begin it
unfoldable pub read_upto : ℕ → Bytes → Bool → Stream
read_upto zero text fails = record { items = []; end = Finished }
read_upto (suc n) text fails = after (first_of text fails) (λ rest. read_upto n rest fails)

-- the items of a text that an end follows, or a failure
unfoldable pub items_of : Bytes → Bool → Stream
items_of text fails = read_upto (suc (length text)) text fails
