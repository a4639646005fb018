-- What is answered to lines, and what goes out of it.
-- Source: git-cat-file(1), "BATCH OUTPUT" and "--batch-command".
use Rattle.std.specs.Prelude.{◌≡◌, Bool, false, true, if◌then◌else◌, List, [], ◌∷◌, ◌++◌, length, codes, Option, Result, Ok, Err}
use Rattle.gx_model.specs.declared.objects.Kind.{Kind}
use Rattle.gx_model.specs.declared.objects.Kind.TheVariants as kinds
use Rattle.gx_model.specs.Histories.{Records}
use Rattle.gx_model.specs.Objects.{line}
use Rattle.gx_model.specs.Records.HistoryOf.{history_of}
use Rattle.gx_model.specs.Texts.{Bytes}
use Rattle.gx_model.specs.Texts.Sinks.{FailedWithin, Taken, Took}
use Rattle.gx_text.specs.Devices.{Coming}
use Rattle.gx_batch.specs.Answers.{batch_answer, reason}
use Rattle.gx_batch.specs.Batches.{Answers}
use Rattle.gx_batch.specs.Formats.{object_line}
use Rattle.gx_batch.specs.declared.ending.LineEnding.{LineEnding}
use Rattle.gx_batch.specs.declared.fault.BatchFault.TheVariants as batch
use Rattle.gx_batch.specs.declared.format.Part.{Part}
use Rattle.gx_asks.specs.declared.question.BatchForm.{BatchForm}
use Rattle.gx_asks.specs.declared.question.BatchForm.TheVariants as form
use Rattle.gx_print.specs.Asking.{Asked, answered_by, archive, asked_of, contents, flush, info, log, ls, no_options, refs, rev_parse, unknown}
use Rattle.gx_print.specs.Logs.{log_text}
use Rattle.gx_print.specs.Stored.{list_text, names_text, refs_text}
use Rattle.gx_questions.specs.declared.fault.AskFault.{AskFault}
use Rattle.gx_questions.specs.declared.fault.AskFault.TheVariants as ask
use Rattle.gx_rev.specs.RevFaults.{fault_of}
use Rattle.gx_rev.specs.declared.shown.Shown.{Shown}
use Rattle.gx_rev.specs.declared.shown.Shown.TheVariants as shown
use Rattle.gx_told.specs.Archiving.{tar_text}
use Rattle.gx_told.specs.Faults.{refused_at}
use Rattle.gx_told.specs.declared.fault.ToldFault.{ToldFault}
use Rattle.gx_told.specs.declared.fault.ToldFault.TheVariants.{OutOfMemory, ReadFailed, StoreReadFailed, WriteFailed}

-- a sink took this text, and hasn't failed
abbrev pub having_taken : Bytes → Taken
having_taken text = record { bytes = text; failed = false }

-- ---- what is answered to a line

module _ (name : Kind → Bytes → Bytes) (parts : List Part) (repository : Records) where
  -- what is answered to a line that asks this
  abbrev pub answer_to : Bytes → Asked → Bytes
  answer_to text (contents revision) = batch_answer name false parts (history_of repository) revision
  answer_to text (info revision) = batch_answer name true parts (history_of repository) revision
  answer_to text flush = []
  answer_to text refs = answered_by reason (codes "refs") [] (Ok (refs_text repository))
  answer_to text (ls recursive revision) = answered_by reason (codes "ls") (revision ∷ []) (list_text name recursive (history_of repository) revision)
  answer_to text (archive revision) = answered_by reason (codes "archive") (revision ∷ []) (tar_text name [] (history_of repository) revision)
  answer_to text (log words) = answered_by reason (codes "log") words (log_text name no_options (history_of repository) words)
  answer_to text (rev_parse words) = answered_by reason (codes "rev-parse") words (names_text name (history_of repository) words)
  answer_to text unknown = line text (codes "unknown")

  -- what is answered to a line as a command
  abbrev pub command_answer : Bytes → Bytes
  command_answer text = answer_to text (asked_of text)

-- what is answered to a line, by the form of the batch
abbrev pub line_answer : (Kind → Bytes → Bytes) → BatchForm → List Part → Records → Bytes → Bytes
line_answer name form.Bytes parts repository = batch_answer name false parts (history_of repository)
line_answer name form.Check parts repository = batch_answer name true parts (history_of repository)
line_answer name form.Commands parts repository = command_answer name parts repository

-- whether what is shown is a tree
abbrev pub is_shown_tree : Shown → Bool
is_shown_tree (shown.Object kinds.Tree called) = true
is_shown_tree _ = false

-- the line of an object of this kind, name and body, and where it is asked for the body and an LF
abbrev pub text_of_object : Bool → List Part → Kind → Bytes → Bytes → Bytes
text_of_object check parts kind called body = object_line parts called kind (length body) ++ (if check then [] else body ++ 10 ∷ [])

-- ---- what goes out

-- An answer went out. Where the sink failed, a front of it did; where memory ran out or the store couldn't be read, nothing.
abbrev pub SendsAnswer : Bytes → Option Taken → Option Taken → Result (Unit {0}) ToldFault → Type 0
SendsAnswer text was now (Ok done) = Took was now text
SendsAnswer text was now (Err WriteFailed) = FailedWithin was now text
SendsAnswer text was now (Err OutOfMemory) = now ≡ was
SendsAnswer text was now (Err StoreReadFailed) = now ≡ was
SendsAnswer text was now (Err fault) = ⊥

-- a line that gives no object went out, and why, or nothing did
abbrev pub SendsRefusal : Bytes → AskFault → Option Taken → Option Taken → Result (Unit {0}) ToldFault → Type 0
SendsRefusal asked (ask.Revision kind) was now answer = SendsAnswer (line asked (reason (fault_of kind))) was now answer
SendsRefusal asked fault was now answer = (answer ≡ Err (refused_at 1 fault)) × (now ≡ was)

-- The answers to the lines of a source go out. Where the store couldn't be read, it is left as where memory ran out.
abbrev pub AnswersBatch : (Bytes → Bytes) → LineEnding → Option Coming → Option Taken → Option Taken → Result (Unit {0}) ToldFault → Type 0
AnswersBatch answer ending coming was now (Ok done) = Answers answer ending coming was now (Ok tt)
AnswersBatch answer ending coming was now (Err ReadFailed) = Answers answer ending coming was now (Err batch.ReadFailed)
AnswersBatch answer ending coming was now (Err WriteFailed) = Answers answer ending coming was now (Err batch.WriteFailed)
AnswersBatch answer ending coming was now (Err OutOfMemory) = Answers answer ending coming was now (Err batch.OutOfMemory)
AnswersBatch answer ending coming was now (Err StoreReadFailed) = Answers answer ending coming was now (Err batch.OutOfMemory)
AnswersBatch answer ending coming was now (Err fault) = ⊥
