-- What each call makes of what a handle holds.
-- Source: gitrevisions(7), git-cat-file(1), git-show-ref(1), git-rev-list(1), git-archive(1), git-fast-export(1) and git-fast-import(1).
use Rattle.std.specs.Prelude.{◌≡◌, ℕ, Bool, false, List, [], ◌∷◌, ◌++◌, map, Some, Result, Ok, Err}
use Rattle.std.specs.List.{flat_map}
use Rattle.std.specs.declared.alloc.Global.{Global}
use Rattle.sha1.specs.Sha1.{sha1}
use Rattle.gx_model.specs.declared.objects.Kind.{Kind}
use Rattle.gx_model.specs.Faults.{Given, IsFaultOf, ◌>>=◌}
use Rattle.gx_model.specs.Histories.{History, Records}
use Rattle.gx_model.specs.Objects.Naming.{record_text}
use Rattle.gx_model.specs.Records.HistoryOf.{history_of}
use Rattle.gx_model.specs.Revisions.{RangeWord, range_of}
use Rattle.gx_model.specs.Stores.StoreText.{stored_ref}
use Rattle.gx_model.specs.Texts.{Bytes}
use Rattle.gx_growing.specs.GrowingReading.{Grown}
use Rattle.gx_growing_file.specs.Grown.{IsGrownFault}
use Rattle.gx_rev.specs.RevFaults.{fault_of}
use Rattle.gx_rev.specs.Views.{shown_range}
use Rattle.gx_rev.specs.declared.fault.RevFault.{RevFault}
use Rattle.gx_rev.specs.declared.range.Range.{Range as RangeHeld}
use Rattle.gx_object.specs.declared.namer.Sha1Namer.{Sha1Namer}
use Rattle.gx_repo.specs.Repositories.{Repository}
use Rattle.gx_taken.specs.Calls.{TakesText}
use Rattle.gx_taken.specs.declared.fault.TakeFault.{TakeFault}
use Rattle.gx_versions.specs.declared.forms.StoreForm.{StoreForm}
use Rattle.gx_versions.specs.declared.forms.StoreForm.TheVariants.{Growing}
use Rattle.gx_versions.specs.Versions.{form_of, opened_of, text_in}
use Rattle.gx_c.specs.Answers as answers
use Rattle.gx_c.specs.Bundles.{AnswersBundle}
use Rattle.gx_c.specs.Answers.{Answers, AnswersText}
use Rattle.gx_c.specs.Written.{AnswersChanges, AnswersExport, AnswersRange, archive_answer}
use Rattle.gx_c.specs.Fields.{AnswersField}
use Rattle.gx_c.specs.Listings.{listing_of}
use Rattle.gx_c.specs.Tags.{AnswersTag}
use Rattle.gx_c.specs.Importing.{AnswersImport, features_of}
use Rattle.gx_c.specs.Objects.{TellsTaken}
use Rattle.gx_c.specs.declared.answer.Answer.{Answer}
use Rattle.gx_c.specs.declared.answer.Why.{Why}
use Rattle.gx_c.specs.declared.answer.Why.TheVariants as why
use Rattle.gx_c.specs.declared.opened.Opened.{Opened}

-- Git's names of objects. Source: Pro Git, "Git Objects", and FIPS 180-4.
abbrev pub git_name : Kind → Bytes → Bytes
git_name kind body = sha1 (record_text kind body)

-- the words that were given
abbrev pub words_of : Opened → List RangeWord
words_of opened = map shown_range opened.words.items

-- the repository, its form and the words stay, and this is answered
pub record Asks (IsAnswer : Records → Answer Global → Type 0) (was now : Opened) : Type 0 where
  pub repository : now.repo ≡ was.repo
  pub form : now.form ≡ was.form
  pub words : now.words ≡ was.words
  pub answer : IsAnswer was.repo.1 now.answer

-- the text of the repository in a form
abbrev pub TextsIn : StoreForm → Opened → Opened → Type 0
TextsIn form = Asks (λ repository. AnswersText (Ok (text_in form repository)))

-- in that of the text that was loaded
abbrev pub Texts : Opened → Opened → Type 0
Texts was = TextsIn was.form was

abbrev pub GrowingTexts : Opened → Opened → Type 0
GrowingTexts = TextsIn Growing

abbrev pub Refs : Opened → Opened → Type 0
Refs = Asks (λ repository. AnswersText (Ok (flat_map stored_ref repository.refs)))

abbrev pub File : Bytes → Bytes → Opened → Opened → Type 0
File revision path = Asks (λ repository. Answers (answers.file_answer git_name (history_of repository) revision path))

abbrev pub Object : Bytes → Opened → Opened → Type 0
Object revision = Asks (λ repository. Answers (answers.object_answer git_name (history_of repository) revision))

abbrev pub Name : Bytes → Opened → Opened → Type 0
Name revision = Asks (λ repository. Answers (answers.name_answer git_name (history_of repository) revision))

abbrev pub Lists : Bytes → Opened → Opened → Type 0
Lists revision = Asks (λ repository. AnswersText (listing_of git_name (history_of repository) revision))

abbrev pub Commit : Bytes → ℕ → Opened → Opened → Type 0
Commit revision number = Asks (λ repository. AnswersField git_name (history_of repository) revision number)

abbrev pub Tag : Bytes → ℕ → Opened → Opened → Type 0
Tag revision number = Asks (λ repository. AnswersTag git_name (history_of repository) revision number)

abbrev pub Archive : Bytes → Bytes → Opened → Opened → Type 0
Archive revision prefix = Asks (λ repository. AnswersText (archive_answer git_name (history_of repository) revision prefix))

abbrev pub Export : Opened → Opened → Type 0
Export = Asks (λ repository. AnswersExport (history_of repository))

abbrev pub Changes : Bool → Opened → Opened → Type 0
Changes closed = Asks (λ repository. AnswersChanges git_name (history_of repository) closed)

-- The words are used up, and this is answered.
pub record Uses (IsAnswer : History → List RangeWord → Answer Global → Type 0) (was now : Opened) : Type 0 where
  pub repository : now.repo ≡ was.repo
  pub form : now.form ≡ was.form
  pub words : now.words.items ≡ []
  pub answer : IsAnswer (history_of was.repo.1) (words_of was) now.answer

abbrev pub Walk : Opened → Opened → Type 0
Walk = Uses (λ h words answer. answers.AnswersWalk git_name h words answer)

abbrev pub Range : Bool → Opened → Opened → Type 0
Range closed = Uses (λ h words answer. AnswersRange git_name h closed words answer)

-- A text is put behind words as a range word; or it is none, for this fault, or memory ran out, and they stay.
abbrev pub Adds : {B : Type 0} → Given RangeWord → List (RangeHeld B) → List (RangeHeld B) → Result (Unit {0}) RevFault → Type 0
Adds given old new (Ok done) = (given >>= λ word. Ok (map shown_range old ++ word ∷ [])) ≡ Ok (map shown_range new)
Adds given old new (Err fault) = IsFaultOf (fault_of fault) given × (new ≡ old)

-- the same of the words that were given, by why the call was refused
abbrev pub AddsWord : Given RangeWord → Why → Opened → Opened → Type 0
AddsWord given why.Done was now = (given >>= λ word. Ok (words_of was ++ word ∷ [])) ≡ Ok (words_of now)
AddsWord given (why.Revision fault) was now = IsFaultOf (fault_of fault) given × (words_of now ≡ words_of was)
AddsWord given (why.Import fault) was now = ⊥
AddsWord given (why.Store fault) was now = ⊥
AddsWord given (why.Item told) was now = ⊥
AddsWord given why.Empty was now = ⊥
AddsWord given why.Field was now = ⊥
AddsWord given why.Unsupported was now = ⊥

pub record Word (text : Bytes) (was now : Opened) : Type 0 where
  pub repository : now.repo ≡ was.repo
  pub form : now.form ≡ was.form
  pub words : AddsWord (range_of text) now.answer.why was now
  pub nothing : now.answer.bytes.items ≡ []

-- The repository is that of a store text of any version, and the form that of the text; or the text is refused for its first fault, or
-- memory ran out, and both stay.
abbrev pub LoadsSo : StoreForm → Grown Records → Why → Opened → Opened → Type 0
LoadsSo form read why.Done was now = (read ≡ Ok now.repo.1) × (now.form ≡ form)
LoadsSo form read (why.Store fault) was now = IsGrownFault fault read × (now.repo ≡ was.repo) × (now.form ≡ was.form)
LoadsSo form read (why.Revision fault) was now = ⊥
LoadsSo form read (why.Import fault) was now = ⊥
LoadsSo form read (why.Item told) was now = ⊥
LoadsSo form read why.Empty was now = ⊥
LoadsSo form read why.Field was now = ⊥
LoadsSo form read why.Unsupported was now = ⊥

pub record Loads (text : Bytes) (was now : Opened) : Type 0 where
  pub words : now.words ≡ was.words
  pub repository : LoadsSo (form_of text) (opened_of git_name text) now.answer.why was now
  pub nothing : now.answer.bytes.items ≡ []

-- a stream is imported, and the form and the words stay
pub record Imports (done force : Bool) (stream : Bytes) (was now : Opened) : Type 0 where
  pub form : now.form ≡ was.form
  pub words : now.words ≡ was.words
  pub imported : AnswersImport (λ _. git_name) (features_of done force) was.repo now.repo stream now.answer

-- a text of refs and objects is taken, and the form and the words stay
pub record ImportsObjects (force : Bool) (text : Bytes) (was now : Opened) : Type 0 where
  pub form : now.form ≡ was.form
  pub words : now.words ≡ was.words
  pub result : Result (Repository Sha1Namer) (TakeFault Global)
  pub taken : TakesText git_name force was.repo.1 (Some (record { bytes = text; fails = false })) result
  pub told : TellsTaken was.repo now.repo result now.answer

-- the words are used up, and a bundle of what they name is answered
pub record Bundles (head : Bytes) (was now : Opened) : Type 0 where
  pub repository : now.repo ≡ was.repo
  pub form : now.form ≡ was.form
  pub words : now.words.items ≡ []
  pub answer : AnswersBundle git_name was.repo.1 (words_of was) head now.answer
