-- What answering the lines of a source gives.
use Rattle.std.specs.Prelude.{◌≡◌, ℕ, ◌<◌, ◌⊎◌, Bool, true, false, List, [], ◌++◌, length, map, Option, None, Some, Result, Ok, Err, ⊤}
use Rattle.std.specs.declared.vec.Vec.{Vec}
use Rattle.std.specs.List.{flat_map}
use Rattle.gx_model.specs.Texts.{Bytes}
use Rattle.gx_model.specs.Texts.Sinks.{FailedWithin, Taken, Took}
use Rattle.gx_text.specs.Devices.{Coming}
use Rattle.gx_stream.specs.Heard.{heard}
use Rattle.gx_batch.specs.Lines.{lines_from}
use Rattle.gx_batch.specs.Reading.{IsPast}
use Rattle.gx_batch.specs.declared.ending.LineEnding.{LineEnding}
use Rattle.gx_batch.specs.declared.fault.BatchFault.{BatchFault}
use Rattle.gx_batch.specs.declared.fault.BatchFault.TheVariants.{OutOfMemory, ReadFailed, WriteFailed}

-- A text went out. Where the sink failed, a front of it did; where memory ran out, nothing.
abbrev pub Sent : Bytes → Option Taken → Option Taken → Result (Unit {0}) BatchFault → Type 0
Sent text was now (Ok _) = Took was now text
Sent text was now (Err WriteFailed) = FailedWithin was now text
Sent text was now (Err OutOfMemory) = now ≡ was
Sent text was now (Err ReadFailed) = ⊥

-- The answers to all the lines went out, and the source ended, or it failed behind them. Where the sink failed, a front of their text
-- went out; where memory ran out, the answers to the first lines.
abbrev pub Answered : (Bytes → Bytes) → List Bytes → Bool → Option Taken → Option Taken → Result (Unit {0}) BatchFault → Type 0
Answered answer lines fails was now (Ok _) = (fails ≡ false) × Took was now (flat_map answer lines)
Answered answer lines fails was now (Err ReadFailed) = (fails ≡ true) × Took was now (flat_map answer lines)
Answered answer lines fails was now (Err WriteFailed) = FailedWithin was now (flat_map answer lines)
Answered answer lines fails was now (Err OutOfMemory) = (front : List Bytes) × (rest : List Bytes) × (lines ≡ front ++ rest) × Took was now (flat_map answer front)

-- The same of the lines of what comes. Where memory ran out, some of its bytes are left behind the lines that were answered, unless none
-- was: so a failed read behind all the lines isn't told as want of memory.
abbrev pub AnsweredFrom : (Bytes → Bytes) → LineEnding → Coming → Option Taken → Option Taken → Result (Unit {0}) BatchFault → Type 0
AnsweredFrom answer ending coming was now (Ok u) = Answered answer (lines_from ending coming) coming.fails was now (Ok u)
AnsweredFrom answer ending coming was now (Err ReadFailed) = Answered answer (lines_from ending coming) coming.fails was now (Err ReadFailed)
AnsweredFrom answer ending coming was now (Err WriteFailed) = Answered answer (lines_from ending coming) coming.fails was now (Err WriteFailed)
AnsweredFrom answer ending coming was now (Err OutOfMemory) =
    (left : Coming) × (front : List Bytes) × (lines_from ending coming ≡ front ++ lines_from ending left) × IsPast coming left
    × ((front ≡ []) ⊎ (0 < length left.bytes)) × Took was now (flat_map answer front)

-- The same of the lines of a source. Where it tells nothing, they are those of some text.
abbrev pub Answers : (Bytes → Bytes) → LineEnding → Option Coming → Option Taken → Option Taken → Result (Unit {0}) BatchFault → Type 0
Answers answer ending None was now result = (coming : Coming) × AnsweredFrom answer ending coming was now result
Answers answer ending (Some coming) was now result = AnsweredFrom answer ending (heard coming) was now result

-- the texts of lines
abbrev pub texts_of : {A : Type 0} → Vec (Vec ℕ A) A → List Bytes
texts_of lines = map (λ line. line.items) lines.items

-- All the lines were read, and the source ended, or it failed behind them.
abbrev pub AreRead : {A : Type 0} → List Bytes → Bool → Result (Vec (Vec ℕ A) A) BatchFault → Type 0
AreRead lines fails (Ok read) = (fails ≡ false) × (texts_of read ≡ lines)
AreRead lines fails (Err ReadFailed) = fails ≡ true
AreRead lines fails (Err OutOfMemory) = ⊤
AreRead lines fails (Err WriteFailed) = ⊥

-- The same of the lines of a source. Where it tells nothing, they are those of some text.
abbrev pub GivesLines : {A : Type 0} → LineEnding → Option Coming → Result (Vec (Vec ℕ A) A) BatchFault → Type 0
GivesLines ending None result = (coming : Coming) × AreRead (lines_from ending coming) coming.fails result
GivesLines ending (Some coming) result = AreRead (lines_from ending (heard coming)) (heard coming).fails result
