-- Commands that read a store's text first, told apart from those that don't, and those that ask from those that leave a text.
use Rattle.std.proofs.Common.{◌≡◌, Bool, Bor, Option, None, refl}
use Rattle.std.specs.Prelude.{ℕ, IsSome}
use Rattle.gx_model.specs.declared.objects.Kind.{Kind}
use Rattle.gx_model.specs.Texts.{Bytes}
use Rattle.gx_model.specs.Texts.Sinks.{Taken}
use Rattle.gx_model.specs.Stores.StoreReading.{store_of}
use Rattle.gx_text.specs.Devices.{Coming}
use Rattle.gx_asks.specs.declared.change.Change.{Change}
use Rattle.gx_asks.specs.declared.change.Change.TheVariants as changes
use Rattle.gx_asks.specs.declared.question.BatchForm.{BatchForm}
use Rattle.gx_asks.specs.declared.question.Question.{Question}
use Rattle.gx_asks.specs.declared.question.Question.TheVariants as questions
use Rattle.gx_asks.specs.declared.trial.Trial.{Trial}
use Rattle.gx_line.specs.declared.command_line.Line.{Line}
use Rattle.gx_line.specs.declared.command_line.Line.TheVariants as line
use Rattle.gx_cli.specs.Serving.{ChangesExported, ChangesOpened, EndsAnswered, EndsOpened, IsAnswered, IsRefused, Serves, ServesChange, ServesQuestion, room_of_change, without_room}
use Rattle.gx_cli.specs.declared.fault.CliFault.TheVariants.{ReadFailed}
use Rattle.gx_cli.specs.declared.serving.Outcome.{Outcome}

module _ (name : Kind → Bytes → Bytes) {A : Type 0} (o : Outcome A) (coming : Option Coming) (was now : Option Taken) where
  -- a question that is no batch is answered of the text that is read
  pub question_served : (q : Question) (store : Bytes) → ((form : BatchForm) (format : Option (Bor Bytes)) (nul : Bool) → q ≡ questions.Batch form format nul → ⊥)
      → EndsOpened (store_of name store) (λ r. EndsAnswered (IsAnswered name q r coming was now) o) was now o → ServesQuestion name q store coming was now o
  question_served (questions.Batch form format nul) store m h = absurd (m form format nul refl)
  question_served q store m h = h

  -- a change that reads a text, and imports nothing into it, reads it first
  pub change_served : (c : Change) (store : Bytes) → IsSome (room_of_change c) → ((done force report explain : Bool) → c ≡ changes.Import done force report explain → ⊥)
      → EndsOpened (store_of name store) (λ r. ChangesOpened name c r coming o × (now ≡ was)) was now o → ServesChange name c store coming was now o
  change_served (changes.Init growing) store s i h = absurd (cc s)
  change_served changes.Grow store s i h = absurd (cc s)
  change_served (changes.Objects force report explain) store s i h = absurd (cc s)
  change_served (changes.Push push done report explain) store s i h = absurd (cc s)
  change_served (changes.Put stamp) store s i h = absurd (cc s)
  change_served (changes.Import done force report explain) store s i h = absurd (i done force report explain refl)
  change_served c store s i h = h

  -- a change that has no use for a text, and reads what isn't here, is refused
  pub change_refused : (c : Change) (store : Bytes) → room_of_change c ≡ None → ((growing : Bool) → c ≡ changes.Init growing → ⊥) → IsRefused ReadFailed o × (now ≡ was) → ServesChange name c store coming was now o
  change_refused (changes.Init growing) store e i h = absurd (i growing refl)
  change_refused changes.Grow store e i h = h
  change_refused (changes.Objects force report explain) store e i h = h
  change_refused (changes.Push push done report explain) store e i h = h
  change_refused (changes.Put stamp) store e i h = h
  change_refused _ store e i h = absurd (cc e)

  -- and so is a look at a file that isn't here
  pub line_refused : (l : Line) (store : Bytes) → without_room l ≡ None → ((trial : Trial) → l ≡ line.Stream trial → ⊥)
      → ((path : Bor Bytes) (wait : Option ℕ) (change : Change) → l ≡ line.Change path wait change → ⊥) → IsRefused ReadFailed o × (now ≡ was) → Serves name l store coming was now o
  line_refused (line.Stream trial) store e s c h = absurd (s trial refl)
  line_refused (line.Change path wait change) store e s c h = absurd (c path wait change refl)
  line_refused (line.Ask path question) store e s c h = absurd (cc e)
  line_refused (line.Verify path salvage) store e s c h = h
  line_refused (line.Bundle path ranges all head pack) store e s c h = h

  -- of what another change makes of an export nothing is told
  pub other_again : (c : Change) (store : Bytes) → ((done force report explain : Bool) → c ≡ changes.Import done force report explain → ⊥) → ChangesExported name c store coming o
  other_again (changes.Import done force report explain) store i = absurd (i done force report explain refl)
  other_again c store i = tt
