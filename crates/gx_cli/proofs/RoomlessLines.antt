-- Commands for whose store's text there is no memory.
use Rattle.std.proofs.Common.{◌≡◌, refl, sym, subst, inl, inr, true, false, List, Option, Some, None, Ok, Err}
use Rattle.gx_model.specs.declared.objects.Kind.{Kind}
use Rattle.gx_model.specs.declared.features.Features.{Features}
use Rattle.gx_model.specs.Texts.{Bytes}
use Rattle.gx_model.specs.Texts.Sinks.{Taken}
use Rattle.gx_model.specs.Histories.{Records}
use Rattle.gx_model.specs.Stores.StoreReading.{Stored, store_of}
use Rattle.gx_model.specs.declared.store_faults.FileFault.TheVariants as file
use Rattle.gx_text.specs.Devices.{Coming}
use Rattle.gx_batch.specs.declared.ending.LineEnding.{LineEnding}
use Rattle.gx_batch.specs.declared.format.Part.{Part}
use Rattle.gx_asks.specs.declared.change.Change.{Change}
use Rattle.gx_asks.specs.declared.change.Change.TheVariants as changes
use Rattle.gx_asks.specs.declared.question.BatchForm.{BatchForm}
use Rattle.gx_asks.specs.declared.question.Question.{Question}
use Rattle.gx_asks.specs.declared.question.Question.TheVariants as questions
use Rattle.gx_line.specs.declared.command_line.Line.{Line}
use Rattle.gx_line.specs.declared.command_line.Line.TheVariants as line
use Rattle.gx_cli.specs.Serving.{AnswersLines, ChangesOpened, EndsAnswered, EndsOpened, IsAnswered, IsRefused, Serves, ServesChange, ServesExported, ServesQuestion, ending_of, features_of, format_parts, room_of_change, room_of_question, without_room}
use Rattle.gx_cli.specs.Storing.{ImportsAgain, ImportsStored}
use Rattle.gx_cli.specs.declared.fault.CliFault.{CliFault}
use Rattle.gx_cli.specs.declared.fault.CliFault.TheVariants.{OutOfMemory, Store}
use Rattle.gx_cli.specs.declared.serving.Outcome.{Outcome}

-- an import is refused where there is no memory for what a text is read into
import_unopened : (name : Kind → Bytes → Bytes) (asks : Features) (stored : Stored Records) (coming : Option Coming) (was : Option Taken) → ImportsStored name asks stored coming was was (None, Err (Store file.OutOfMemory))
import_unopened name asks (Ok old) coming was = inl (refl, refl)
import_unopened name asks (Err f) coming was = (file.OutOfMemory, inl refl, refl, refl)

-- and then it makes no repository again
again_unopened : (name : Kind → Bytes → Bytes) (asks : Features) (stored : Stored Records) (coming : Option Coming) → ImportsAgain name asks stored coming (None, Err (Store file.OutOfMemory))
again_unopened name asks stored None = tt
again_unopened name asks stored (Some coming) = λ form exported leaves sound without gives empty. inl (inl refl)

refused_so : {A : Type 0} (o : Outcome A) (f fault : CliFault) → Some fault ≡ Some f → IsRefused f o → IsRefused fault o
refused_so o f fault e h = let is : fault ≡ f = cc in subst (λ x. IsRefused x o) (sym is) h

module _ (name : Kind → Bytes → Bytes) {A : Type 0} (o : Outcome A) (was : Option Taken) where
  -- so are the other commands that read a text
  unopened : (stored : Stored Records) (ends : Records → Type 0) → IsRefused (Store file.OutOfMemory) o → EndsOpened stored ends was was o
  unopened (Ok repository) ends h = inl (h, refl)
  unopened (Err f) ends h = (file.OutOfMemory, inl refl, h, refl)

  batch_unread : (form : BatchForm) (parts : Option (List Part)) (ending : LineEnding) (store : Bytes) (coming : Option Coming) → IsRefused OutOfMemory o → AnswersLines name form parts ending store coming was was o
  batch_unread form None ending store coming h = (inr h, refl)
  batch_unread form (Some parts) ending store coming h = inl (h, refl)

  -- a question for whose text there is no memory is refused so
  roomless_question : (q : Question) (store : Bytes) (coming : Option Coming) (f : CliFault) → room_of_question q ≡ f → IsRefused f o → ServesQuestion name q store coming was was o
  roomless_question (questions.Batch form format nul) store coming f e h = batch_unread form (format_parts format) (ending_of nul) store coming (subst (λ x. IsRefused x o) (sym e) h)
  roomless_question q store coming f e h = unopened (store_of name store) (λ r. EndsAnswered (IsAnswered name q r coming was was) o) (subst (λ x. IsRefused x o) (sym e) h)

  -- so is a change
  roomless_change : (c : Change) (store : Bytes) (coming : Option Coming) (f : CliFault) → room_of_change c ≡ Some f → IsRefused f o → ServesChange name c store coming was was o
  roomless_change (changes.Init growing) store coming f e h = absurd (cc)
  roomless_change changes.Grow store coming f e h = absurd (cc)
  roomless_change (changes.Objects force report explain) store coming f e h = absurd (cc)
  roomless_change (changes.Push push done report explain) store coming f e h = absurd (cc)
  roomless_change (changes.Put stamp) store coming f e h = absurd (cc)
  roomless_change (changes.Import done force report explain) store coming f e h =
      ((None, Err (Store file.OutOfMemory)), import_unopened name (features_of done force) (store_of name store) coming was, refused_so o f (Store file.OutOfMemory) e h)
  roomless_change c store coming f e h = unopened (store_of name store) (λ r. ChangesOpened name c r coming o × (was ≡ was)) (refused_so o f (Store file.OutOfMemory) e h)

  -- a command for whose text there is no memory is refused so
  pub roomless_served : (l : Line) (store : Bytes) (coming : Option Coming) (f : CliFault) → without_room l ≡ Some f → IsRefused f o → Serves name l store coming was was o
  roomless_served (line.Ask path q) store coming f e h = let is : room_of_question q ≡ f = cc in roomless_question q store coming f is h
  roomless_served (line.Change path wait c) store coming f e h = roomless_change c store coming f e h
  roomless_served (line.Stream trial) store coming f e h = absurd (cc)
  roomless_served (line.Verify path salvage) store coming f e h = absurd (cc)
  roomless_served (line.Bundle path ranges all head pack) store coming f e h = absurd (cc)

  pub roomless_again : (l : Line) (store : Bytes) (coming : Option Coming) (f : CliFault) → without_room l ≡ Some f → IsRefused f o → ServesExported name l store coming o
  roomless_again (line.Change path wait (changes.Import done force report explain)) store coming f e h =
      ((None, Err (Store file.OutOfMemory)), again_unopened name (features_of done force) (store_of name store) coming, refused_so o f (Store file.OutOfMemory) e h)
  roomless_again l store coming f e h = tt

module _ (name : Kind → Bytes → Bytes) {A : Type 0} (o : Outcome A) where
  -- a command that has no use for a text does the same with another
  pub unread_served : (other store : Bytes) (coming : Option Coming) (l : Line) (was now : Option Taken) → without_room l ≡ None → Serves name l other coming was now o → Serves name l store coming was now o
  unread_served other store coming (line.Stream trial) was now e h = h
  unread_served other store coming (line.Verify path salvage) was now e h = h
  unread_served other store coming (line.Bundle path ranges all head pack) was now e h = h
  unread_served other store coming (line.Change path wait (changes.Init false)) was now e h = h
  unread_served other store coming (line.Change path wait (changes.Init true)) was now e h = h
  unread_served other store coming (line.Change path wait changes.Grow) was now e h = h
  unread_served other store coming (line.Change path wait (changes.Objects force report explain)) was now e h = h
  unread_served other store coming (line.Change path wait (changes.Push push done report explain)) was now e h = h
  unread_served other store coming (line.Change path wait (changes.Put stamp)) was now e h = h
  unread_served other store coming _ was now e h = absurd (cc)

  pub unread_again : (store : Bytes) (coming : Option Coming) (l : Line) → without_room l ≡ None → ServesExported name l store coming o
  unread_again store coming (line.Change path wait (changes.Import done force report explain)) e = absurd (cc)
  unread_again store coming l e = tt
