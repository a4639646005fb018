-- What a reader of lines is seen as, and what one call answers and leaves.
use Rattle.std.specs.Prelude.{◌≡◌, ℕ, ◌+◌, ◌<◌, ◌≤◌, Bool, true, false, List, [], ◌∷◌, ◌++◌, length, slice_range, Option, None, Some, Result, Ok, Err, ⊤}
use Rattle.gx_model.specs.Texts.{Bytes, lacks}
use Rattle.gx_text.specs.Devices.{Coming}
use Rattle.gx_stream.specs.Pulled.{behind, shown_coming}
use Rattle.gx_batch.specs.Lines.{lines_from}
use Rattle.gx_batch.specs.declared.ending.LineEnding.{LineEnding}
use Rattle.gx_batch.specs.declared.fault.BatchFault.{BatchFault}
use Rattle.gx_batch.specs.declared.fault.BatchFault.TheVariants.{OutOfMemory, ReadFailed, WriteFailed}
use Rattle.gx_batch.specs.declared.lines.LineReader.{LineReader}
use Rattle.gx_stream.specs.declared.pulls.SourceState.{SourceState}
use Rattle.gx_stream.specs.declared.pulls.SourceState.TheVariants.{Open, Ended, Failed}

-- how many bytes may come at most
abbrev pub shown_most : SourceState → ℕ → Bytes → ℕ
shown_most Open room rest = length rest + room
shown_most Ended room rest = length rest
shown_most Failed room rest = length rest

-- what came and isn't read yet
abbrev pub rest_of : {R A : Type 0} → LineReader R A → Bytes
rest_of reader = slice_range reader.piece.items reader.at reader.end

abbrev pub shown_reader : {R A : Type 0} → LineReader R A → Option Coming → Option Coming
shown_reader reader coming = shown_coming reader.state reader.room coming (rest_of reader)

-- the same, by what its source gives
abbrev pub shown_from : {R A : Type 0} → (R → Option Coming) → LineReader R A → Option Coming
shown_from coming reader = shown_reader reader (coming reader.source)

abbrev pub most : {R A : Type 0} → LineReader R A → ℕ
most reader = shown_most reader.state reader.room (rest_of reader)

-- what isn't read yet stands within the piece, which is never empty
abbrev pub IsSound : {R A : Type 0} → LineReader R A → Type 0
IsSound reader = (reader.at ≤ reader.end) × (reader.end ≤ length reader.piece.items) × (0 < length reader.piece.items)

-- Of what is left to read, what stands before the first such byte is put behind a line, with what stands behind that byte left; or all is,
-- and has no such byte.
abbrev pub TakesPart : ℕ → Bytes → Bytes → Bytes → Bytes → Bool → Type 0
TakesPart e rest left line now true = (front : Bytes) × (lacks e front ≡ true) × (rest ≡ front ++ e ∷ left) × (now ≡ line ++ front)
TakesPart e rest left line now false = (lacks e rest ≡ true) × (left ≡ []) × (now ≡ line ++ rest)

-- some first bytes are gone
abbrev pub IsPast : Coming → Coming → Type 0
IsPast was left = (gone : Bytes) × (was.bytes ≡ gone ++ left.bytes)

-- Where the lines to come are known, the first is answered, and the others are left. That there is none is answered only where none
-- is left, with the end or the failure that follows. Memory is wanted only for bytes that are to come.
abbrev pub ReadsFrom : LineEnding → Coming → Option Coming → Bytes → Result Bool BatchFault → Type 0
ReadsFrom ending was now line (Ok true) =
    (left : Coming) × (now ≡ Some left) × (lines_from ending was ≡ line ∷ lines_from ending left) × (left.fails ≡ was.fails) × IsPast was left
ReadsFrom ending was now line (Ok false) = (lines_from ending was ≡ []) × (was.fails ≡ false)
ReadsFrom ending was now line (Err ReadFailed) = (lines_from ending was ≡ []) × (was.fails ≡ true)
ReadsFrom ending was now line (Err OutOfMemory) = 0 < length was.bytes
ReadsFrom ending was now line (Err WriteFailed) = ⊥

-- whether this may come, as far as that is known
abbrev pub MayCome : Option Coming → Coming → Type 0
MayCome None c = ⊤
MayCome (Some known) c = c ≡ known

-- Where it isn't known what comes, there are bytes before whatever may come then, whose lines these are.
abbrev pub AreOfBytes : LineEnding → List Bytes → Option Coming → Type 0
AreOfBytes ending lines now = (gone : Bytes) × ((c : Coming) → MayCome now c → lines_from ending (behind gone c) ≡ lines ++ lines_from ending c)

abbrev pub Reads : LineEnding → Option Coming → Option Coming → Bytes → Result Bool BatchFault → Type 0
Reads ending None now line (Ok true) = AreOfBytes ending (line ∷ []) now
Reads ending None now line (Err WriteFailed) = ⊥
Reads ending None now line answer = ⊤
Reads ending (Some was) now line answer = ReadsFrom ending was now line answer

-- a line lowers the bound
abbrev pub Falls : ℕ → ℕ → Result Bool BatchFault → Type 0
Falls was now (Ok true) = now < was
Falls was now answer = ⊤
