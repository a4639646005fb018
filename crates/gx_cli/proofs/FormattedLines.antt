-- Batches in a format, and texts that are no format.
use Rattle.std.proofs.Common.{◌≡◌, inl, inr, sym, subst, List, Option, Some, None, Err}
use Rattle.gx_model.specs.declared.objects.Kind.{Kind}
use Rattle.gx_model.specs.Stores.StoreReading.{store_of}
use Rattle.gx_model.specs.Texts.{Bytes}
use Rattle.gx_model.specs.Texts.Sinks.{Taken}
use Rattle.gx_text.specs.Devices.{Coming}
use Rattle.gx_batch.specs.Formats.{GivesFormat, format_of}
use Rattle.gx_batch.specs.declared.ending.LineEnding.{LineEnding}
use Rattle.gx_batch.specs.declared.fault.FormatFault.{FormatFault}
use Rattle.gx_batch.specs.declared.fault.FormatFault.TheVariants as format
use Rattle.gx_batch.specs.declared.format.Part.{Part}
use Rattle.gx_asks.specs.declared.question.BatchForm.{BatchForm}
use Rattle.gx_cli.specs.Gathering.{of_format}
use Rattle.gx_cli.specs.Serving.{AnswersBatch, AnswersLines, EndsAnswered, EndsOpened, IsRefused, ReadsParts}
use Rattle.gx_cli.specs.declared.fault.CliFault.{CliFault}
use Rattle.gx_cli.specs.declared.fault.CliFault.TheVariants.{BadFormat, OutOfMemory}
use Rattle.gx_cli.specs.declared.serving.Outcome.{Outcome}

-- a text is no format, or memory ran out
pub refused_format : (A : Type 0) (text : Bytes) (fault : FormatFault) → GivesFormat {A = A} text (Err fault) → ReadsParts {A = A} (format_of text) (Err (of_format fault))
refused_format A text format.BadFormat h = h
refused_format A text format.OutOfMemory h = h

module _ (name : Kind → Bytes → Bytes) {A : Type 0} (form : BatchForm) (given : Option (List Part)) (text : Bytes) (coming : Option Coming) (was now : Option Taken) (o : Outcome A) where
  -- in the format that is given lines are answered
  pub lines_formatted : (parts : List Part) (ending wanted : LineEnding) → given ≡ Some parts → ending ≡ wanted → EndsOpened (store_of name text) (λ r. EndsAnswered (AnswersBatch name form parts ending r coming was now) o) was now o → AnswersLines name form given wanted text coming was now o
  lines_formatted parts ending wanted read same h =
      subst (λ p. AnswersLines name form p wanted text coming was now o) (sym read) (inr (subst (λ e. EndsOpened (store_of name text) (λ r. EndsAnswered (AnswersBatch name form parts e r coming was now) o) was now o) same h))

  -- where there is none nothing went out
  pub lines_unformatted : (wanted : LineEnding) (fault : CliFault) → ReadsParts {A = A} given (Err fault) → IsRefused fault o → now ≡ was → AnswersLines name form given wanted text coming was now o
  lines_unformatted wanted BadFormat h r same = subst (λ p. AnswersLines name form p wanted text coming was now o) (sym h) (inl r, same)
  lines_unformatted wanted OutOfMemory h r same = by given
    where
      by : (p : Option (List Part)) → AnswersLines name form p wanted text coming was now o
      by None = (inr r, same)
      by (Some parts) = inl (r, same)
  lines_unformatted wanted fault h r same = absurd h
