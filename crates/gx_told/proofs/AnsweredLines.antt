-- The answers to lines that went out, and one that didn't.
use Rattle.std.proofs.Common.{Option, Ok, Err, true}
use Rattle.std.specs.Option.{option_map}
use Rattle.gx_model.specs.Texts.{Bytes}
use Rattle.gx_model.specs.Texts.Sinks.{Taken}
use Rattle.gx_stream.specs.Heard.{heard}
use Rattle.gx_text.specs.Devices.{Coming}
use Rattle.gx_batch.specs.Batches.{Answers, Sent}
use Rattle.gx_batch.specs.Reading.{Reads}
use Rattle.gx_batch.specs.declared.ending.LineEnding.{LineEnding}
use Rattle.gx_batch.specs.declared.fault.BatchFault.{BatchFault}
use Rattle.gx_batch.specs.declared.fault.BatchFault.TheVariants as batch
use Rattle.gx_batch.proofs.Answering.{Goes, of_source, unanswered}
use Rattle.gx_told.specs.Batching.{AnswersBatch, SendsAnswer}
use Rattle.gx_told.specs.Faults.{of_batch}
use Rattle.gx_told.specs.declared.fault.ToldFault.{ToldFault}
use Rattle.gx_told.specs.declared.fault.ToldFault.TheVariants.{OutOfMemory, StoreReadFailed, WriteFailed}

-- what was sent is answered
pub sent_answers : (text : Bytes) (was now : Option Taken) (fault : BatchFault) → Sent text was now (Err fault) → SendsAnswer text was now (Err (of_batch fault))
sent_answers text was now batch.OutOfMemory h = h
sent_answers text was now batch.WriteFailed h = h
sent_answers text was now batch.ReadFailed h = absurd h

module _ (answer : Bytes → Bytes) (ending : LineEnding) (coming : Option Coming) where
  -- no further line was read
  pub unread_lines : (was now : Option Taken) (fault : BatchFault) → Answers answer ending coming was now (Err fault) → AnswersBatch answer ending coming was now (Err (of_batch fault))
  unread_lines was now batch.OutOfMemory h = h
  unread_lines was now batch.ReadFailed h = h
  unread_lines was now batch.WriteFailed h = h

  stopped : (here next : Option Coming) (was mid now : Option Taken) (line : Bytes) (fault : BatchFault) → Goes answer ending (option_map heard coming) here was mid → Reads ending here next line (Ok true) → Sent (answer line) mid now (Err fault)
      → Answers answer ending coming was now (Err fault)
  stopped here next was mid now line fault g r s = of_source answer ending coming was now (Err fault) (unanswered answer ending (option_map heard coming) here next was mid now line fault g r s)

  -- an answer didn't go out whole
  pub stopped_lines : (here next : Option Coming) (was mid now : Option Taken) (line : Bytes) (fault : ToldFault) → Goes answer ending (option_map heard coming) here was mid → Reads ending here next line (Ok true) → SendsAnswer (answer line) mid now (Err fault)
      → AnswersBatch answer ending coming was now (Err fault)
  stopped_lines here next was mid now line WriteFailed g r s = stopped here next was mid now line batch.WriteFailed g r s
  stopped_lines here next was mid now line OutOfMemory g r s = stopped here next was mid now line batch.OutOfMemory g r s
  stopped_lines here next was mid now line StoreReadFailed g r s = stopped here next was mid now line batch.OutOfMemory g r s
  stopped_lines here next was mid now line fault g r s = absurd s
