-- Rows of a table that stands in a text, each a name and a place, in the order of names.
use Rattle.std.specs.Prelude.{◌≡◌, ◌≢◌, ℕ, ◌+◌, ◌*◌, ◌<◌, ◌≤◌, length, take, true, false, Option, Some, None, ⊤}
use Rattle.std.specs.Int.{from_be_bytes, w64}
use Rattle.std.specs.Ordering.{is_lt}
use Rattle.gx_model.specs.Texts.{Bytes, byte_cmp}
use Rattle.gx_at.specs.Reads.{StandsAt, part}
use Rattle.gx_rows.specs.declared.block.Block.{Block}
use Rattle.gx_rows.specs.declared.finding.Found.{Found}
use Rattle.gx_rows.specs.declared.finding.Front.{Front}
use Rattle.gx_rows.specs.declared.row.Row.{Row}

-- the name in a row, and the place
abbrev pub row_name : Bytes → ℕ → ℕ → Bytes
row_name text at row = part text (at + 28 * row) 20

abbrev pub row_place : Bytes → ℕ → ℕ → ℕ
row_place text at row = from_be_bytes w64 (part text (at + 28 * row + 20) 8)

-- one name stands before another
abbrev pub IsBefore : Bytes → Bytes → Type 0
IsBefore left right = is_lt (byte_cmp left right) ≡ true

-- each row's name stands before those of the later rows
abbrev pub AreSorted : Bytes → ℕ → ℕ → Type 0
AreSorted text at count = (i j : ℕ) → i < j → j < count → IsBefore (row_name text at i) (row_name text at j)

-- this is what stands in a row
pub record IsRowOf (text : Bytes) (at row : ℕ) (told : Row) : Type 0 where
  pub name : told.name ≡ row_name text at row
  pub place : told.place ≡ row_place text at row

-- the same of the text that a source tells; where it tells none, nothing is claimed
abbrev pub IsRow : Option Bytes → ℕ → ℕ → Row → Type 0
IsRow None at row told = ⊤
IsRow (Some text) at row told = IsRowOf text at row told

-- this is what stands in a row, or there are not so many
abbrev pub StandsAsRow : Option Bytes → ℕ → ℕ → ℕ → Option Row → Type 0
StandsAsRow told at count row (Some found) = (row < count) × IsRow told at row found
StandsAsRow told at count row None = count ≤ row

-- the rows in front of one place stand before a name, and those from another place on don't
pub record IsParted (text : Bytes) (at count : ℕ) (name : Bytes) (low high : ℕ) : Type 0 where
  pub before : (row : ℕ) → row < low → IsBefore (row_name text at row) name
  pub behind : (row : ℕ) → high ≤ row → row < count → is_lt (byte_cmp (row_name text at row) name) ≡ false

-- the same of the text that a source tells, where its rows are in order
abbrev pub Parts : Option Bytes → ℕ → ℕ → Bytes → ℕ → ℕ → Type 0
Parts None at count name low high = ⊤
Parts (Some text) at count name low high = AreSorted text at count → IsParted text at count name low high

-- these rows stand before a name, and no later one does
abbrev pub EndsFront : Option Bytes → ℕ → ℕ → Bytes → ℕ → Type 0
EndsFront told at count name rows = Parts told at count name rows rows

-- how many rows stand before a name, and the two rows behind them
pub record FrontsIn (told : Option Bytes) (at count : ℕ) (name : Bytes) (front : Front) : Type 0 where
  pub within : front.count ≤ count
  pub ends : EndsFront told at count name front.count
  pub first : StandsAsRow told at count front.count front.first
  pub second : StandsAsRow told at count (front.count + 1) front.second

-- this row has the name and the place
pub record IsFound (text : Bytes) (at count : ℕ) (name : Bytes) (found : Found) : Type 0 where
  pub within : found.row < count
  pub name_is : row_name text at found.row ≡ name
  pub place_is : row_place text at found.row ≡ found.place

-- A row that is found has the name. Where rows are in order, none has it if none is found.
abbrev pub FindsIn : Option Bytes → ℕ → ℕ → Bytes → Option Found → Type 0
FindsIn None at count name found = ⊤
FindsIn (Some text) at count name (Some found) = IsFound text at count name found
FindsIn (Some text) at count name None = AreSorted text at count → (row : ℕ) → row < count → row_name text at row ≢ name

-- rows of a table that stand one behind the other
pub record HasRows (told : Option Bytes) (at : ℕ) (block : Block) : Type 0 where
  pub few : block.count ≤ 146
  pub long : length block.bytes ≡ 4088
  pub stand : StandsAt told (at + 28 * block.first) (take (28 * block.count) block.bytes)
