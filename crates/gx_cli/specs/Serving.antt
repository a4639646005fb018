-- How the commands end.
use Rattle.std.specs.Prelude.{◌≡◌, ◌⊎◌, ℕ, Bool, true, false, if◌then◌else◌, List, Option, Some, None, IsSome, is_some, Result, Ok, Err, ⊤}
use Rattle.std.specs.Borrow.{Bor}
use Rattle.std.specs.Option.{option_map}
use Rattle.std.specs.Result.{result_map_both}
use Rattle.std.specs.declared.vec.Vec.{Vec}
use Rattle.gx_model.specs.declared.objects.Kind.{Kind}
use Rattle.gx_model.specs.declared.features.Features.{Features}
use Rattle.gx_model.specs.Texts.{Bytes}
use Rattle.gx_model.specs.Histories.{Records, empty_repository}
use Rattle.gx_model.specs.Records.HistoryOf.{history_of}
use Rattle.gx_model.specs.declared.store_versions.Version.TheVariants as version
use Rattle.gx_model.specs.Stores.StoreText.{store_text}
use Rattle.gx_model.specs.Stores.StoreReading.{Stored, store_of}
use Rattle.gx_model.specs.Texts.Sinks.{Taken}
use Rattle.gx_text.specs.Devices.{Coming}
use Rattle.gx_stream.specs.Heard.{items_from}
use Rattle.gx_import.specs.declared.report.Report.{Report}
use Rattle.gx_adapt.specs.declared.adapting.Adapted.{Adapted}
use Rattle.gx_batch.specs.Answers.{batch_answer as answered_by}
use Rattle.gx_batch.specs.Formats.{default_parts, format_of}
use Rattle.gx_batch.specs.declared.ending.LineEnding.{LineEnding}
use Rattle.gx_batch.specs.declared.ending.LineEnding.TheVariants.{Lf, Nul}
use Rattle.gx_batch.specs.declared.format.Format.{Format}
use Rattle.gx_batch.specs.declared.format.Part.{Part}
use Rattle.gx_batch.specs.Batches.{Answers}
use Rattle.gx_batch.specs.declared.fault.BatchFault.{BatchFault}
use Rattle.gx_repo.specs.Repositories.{Repository}
use Rattle.gx_export.specs.declared.fault.ExportFault.{ExportFault}
use Rattle.gx_model.specs.declared.store_faults.FileFault.{FileFault}
use Rattle.gx_model.specs.declared.store_faults.FileFault.TheVariants as file
use Rattle.gx_blobs.specs.declared.blob_names.BlobsFault.{BlobsFault}
use Rattle.gx_asks.specs.declared.question.BatchForm.{BatchForm}
use Rattle.gx_asks.specs.declared.question.BatchForm.TheVariants as form
use Rattle.gx_asks.specs.declared.question.ExportForm.{ExportForm}
use Rattle.gx_asks.specs.declared.change.Change.{Change}
use Rattle.gx_asks.specs.declared.change.Change.TheVariants as changes
use Rattle.gx_asks.specs.declared.question.Question.{Question}
use Rattle.gx_asks.specs.declared.question.Question.TheVariants as questions
use Rattle.gx_asks.specs.declared.trial.Trial.{Trial}
use Rattle.gx_asks.specs.declared.trial.Trial.TheVariants as trials
use Rattle.gx_line.specs.declared.command_line.Line.{Line}
use Rattle.gx_line.specs.declared.command_line.Line.TheVariants as line
use Rattle.gx_asks.specs.declared.change.RefChange.{RefChange}
use Rattle.gx_cli.specs.declared.fault.CliFault.{CliFault}
use Rattle.gx_cli.specs.declared.fault.CliFault.TheVariants.{BadFormat, Blobs, Export, OutOfMemory, ReadFailed, Store}
use Rattle.gx_cli.specs.declared.serving.Outcome.{Outcome}
use Rattle.gx_cli.specs.Answers.{Prints}
use Rattle.gx_cli.specs.Checking.{Checks}
use Rattle.gx_cli.specs.Collecting.{IsCollected}
use Rattle.gx_cli.specs.Commanding.{command_answer}
use Rattle.gx_cli.specs.Forms.{ExportsAs, SendsRange}
use Rattle.gx_cli.specs.Adapting.{EndsAdapted}
use Rattle.gx_cli.specs.Dropping.{DropsFrom}
use Rattle.gx_cli.specs.Gathering.{AdaptsStream, of_batch}
use Rattle.gx_cli.specs.Logs.{LogsFrom}
use Rattle.gx_cli.specs.Setting.{SetsFrom}
use Rattle.gx_cli.specs.Placing.{PlacesFrom}
use Rattle.gx_blobs.specs.Printing.{PrintsBlobs}
use Rattle.gx_print.specs.Stored.{list_text, names_text, refs_text, show_text}
use Rattle.gx_cli.specs.Archived.{tar_text}
use Rattle.gx_cli.specs.Storing.{Answer, ImportsAgain, ImportsStored}
use Rattle.gx_text.specs.Lent.{lent_texts}
use Rattle.gx_cli.specs.Trying.{FindsFault, Tries}

-- the features that a line asks for
abbrev pub features_of : Bool → Bool → Features
features_of done force = record { done = done; force = force }

-- The status, the fault and the next store text that go with what a command answers that makes no store text.
abbrev pub IsOutcome : {X A : Type 0} → Result X CliFault → Outcome A → Type 0
IsOutcome (Ok x) o = (o.status ≡ 0) × (o.fault ≡ None) × (o.store ≡ None)
IsOutcome (Err f) o = (o.status ≡ 1) × (o.fault ≡ Some f) × (o.store ≡ None)

-- a refusal
abbrev pub IsRefused : {A : Type 0} → CliFault → Outcome A → Type 0
IsRefused fault o = (o.status ≡ 1) × (o.fault ≡ Some fault) × (o.store ≡ None)

-- the next store text is that of this repository, of version 2, and is read as this repository
abbrev pub HasText : {A : Type 0} → (Kind → Bytes → Bytes) → Records → Outcome A → Type 0
HasText {A} name repository o =
    (text : Vec ℕ A) × (o.store ≡ Some text) × (text.items ≡ store_text version.Two repository) × (store_of name text.items ≡ Ok repository)

-- the command ends so with the next store text of this repository, unless memory ran out
abbrev pub EndsWithText : {A : Type 0} → (Kind → Bytes → Bytes) → Records → ℕ → Option CliFault → Outcome A → Type 0
EndsWithText name repository status fault o = ((o.status ≡ status) × (o.fault ≡ fault) × HasText name repository o) ⊎ IsRefused OutOfMemory o

-- it is accepted with that text, unless memory ran out
abbrev pub IsWritten : {A : Type 0} → (Kind → Bytes → Bytes) → Records → Outcome A → Type 0
IsWritten name repository o = EndsWithText name repository 0 None o

-- a repository's export in a form goes out, with its fault among those of the commands
abbrev pub SendsExport : (Kind → Bytes → Bytes) → ExportForm → Records → Option Taken → Option Taken → Result (Unit {0}) CliFault → Type 0
SendsExport name form repository was now r =
    (answer : Result (Unit {0}) ExportFault) × ExportsAs name form repository was now answer × (r ≡ result_map_both (λ done. done) Export answer)

-- How a command ends that reads a store first, and then ends so with its repository. Where the store isn't read, or there is no
-- memory for that, nothing went out.
abbrev pub EndsOpened : {A : Type 0} → Stored Records → (Records → Type 0) → Option Taken → Option Taken → Outcome A → Type 0
EndsOpened (Ok repository) ends was now o = (IsRefused (Store file.OutOfMemory) o × (now ≡ was)) ⊎ ends repository
EndsOpened (Err f) ends was now o = (why : FileFault) × ((why ≡ file.OutOfMemory) ⊎ (f ≡ why)) × IsRefused (Store why) o × (now ≡ was)

-- it ends with an answer that goes with the repository so, and leaves no store text
abbrev pub EndsAnswered : {A : Type 0} → (Result (Unit {0}) CliFault → Type 0) → Outcome A → Type 0
EndsAnswered says o = (answer : Result (Unit {0}) CliFault) × says answer × IsOutcome answer o

-- how lines end, with NUL or with LF
abbrev pub ending_of : Bool → LineEnding
ending_of nul = if nul then Nul else Lf

-- the parts of the format that is given, or of the usual one
abbrev pub format_parts : Option (Bor Bytes) → Option (List Part)
format_parts None = Some default_parts
format_parts (Some text) = format_of text.now

-- what is answered to a line, by the form of the batch
abbrev pub line_answer : (Kind → Bytes → Bytes) → BatchForm → List Part → Records → Bytes → Bytes
line_answer name form.Bytes parts repository = answered_by name false parts (history_of repository)
line_answer name form.Check parts repository = answered_by name true parts (history_of repository)
line_answer name form.Commands parts repository = command_answer name parts repository

-- why a question is refused where there is no memory for its store's text
abbrev pub room_of_question : Question → CliFault
room_of_question (questions.Batch form format nul) = OutOfMemory
room_of_question question = Store file.OutOfMemory

-- why a change is; none where it has no use for one
abbrev pub room_of_change : Change → Option CliFault
room_of_change (changes.Init growing) = None
room_of_change changes.Grow = None
room_of_change (changes.Objects force report explain) = None
room_of_change (changes.Push push done report explain) = None
room_of_change (changes.Put stamp) = None
room_of_change change = Some (Store file.OutOfMemory)

-- why a command is
abbrev pub without_room : Line → Option CliFault
without_room (line.Ask path question) = Some (room_of_question question)
without_room (line.Change path wait change) = room_of_change change
without_room (line.Stream trial) = None
without_room (line.Verify path salvage) = None
without_room (line.Bundle path ranges all head pack) = None

-- a format of these parts was read, or the text that was read is none; memory runs out only for one
abbrev pub ReadsParts : {A : Type 0} → Option (List Part) → Result (Format A) CliFault → Type 0
ReadsParts parts (Ok format) = parts ≡ Some format.parts.items
ReadsParts parts (Err BadFormat) = parts ≡ None
ReadsParts parts (Err OutOfMemory) = IsSome parts
ReadsParts parts (Err fault) = ⊥

-- the next store text is that of a repository that is left, or the command is refused for this
abbrev pub EndsWithLeft : {N A : Type 0} → (N → Kind → Bytes → Bytes) → Result (Repository N) CliFault → Outcome A → Type 0
EndsWithLeft name_of (Ok left) o = IsWritten (name_of left.0) left.1 o
EndsWithLeft name_of (Err fault) o = IsRefused fault o

module _ (name : Kind → Bytes → Bytes) where
  -- ---- the commands that ask

  -- the answers to the lines of a source go out, with their fault among those of the commands
  abbrev pub AnswersBatch : BatchForm → List Part → LineEnding → Records → Option Coming → Option Taken → Option Taken → Result (Unit {0}) CliFault → Type 0
  AnswersBatch form parts ending repository coming was now result =
      (answer : Result (Unit {0}) BatchFault)
      × Answers (line_answer name form parts repository) ending coming was now answer
      × (result ≡ result_map_both (λ done. done) of_batch answer)

  -- what is answered to a question of a repository; to a batch, whose lines come from a source, nothing
  abbrev pub IsAnswered : Question → Records → Option Coming → Option Taken → Option Taken → Result (Unit {0}) CliFault → Type 0
  IsAnswered (questions.Show word) r coming was now answer = Prints (show_text name (history_of r) word.now) was now answer
  IsAnswered (questions.Ls recursive word) r coming was now answer = Prints (list_text name recursive (history_of r) word.now) was now answer
  IsAnswered (questions.Archive prefix word) r coming was now answer = Prints (tar_text name prefix.now (history_of r) word.now) was now answer
  IsAnswered questions.Refs r coming was now answer = Prints (Ok (refs_text r)) was now answer
  IsAnswered (questions.Names words) r coming was now answer = Prints (names_text name (history_of r) (lent_texts words.items)) was now answer
  IsAnswered (questions.Log options words) r coming was now answer = LogsFrom name options options.stdin r (lent_texts words.items) coming was now answer
  IsAnswered (questions.Export form) r coming was now answer = SendsExport name form r was now answer
  IsAnswered (questions.ExportRange done words) r coming was now answer = SendsRange name done r (lent_texts words.items) was now answer
  IsAnswered (questions.Diff options old new paths) r coming was now answer = (answer ≡ Err ReadFailed) × (now ≡ was)
  IsAnswered (questions.MergeBase octopus all word others) r coming was now answer = (answer ≡ Err ReadFailed) × (now ≡ was)
  IsAnswered (questions.IsAncestor word descendant) r coming was now answer = (answer ≡ Err ReadFailed) × (now ≡ was)
  IsAnswered (questions.RefsThat filters patterns) r coming was now answer = (answer ≡ Err ReadFailed) × (now ≡ was)
  IsAnswered (questions.Batch form format nul) r coming was now answer = (answer ≡ Ok tt) × (now ≡ was)

module _ (name : Kind → Bytes → Bytes) {A : Type 0} where
  -- ---- the commands that leave a store text

  -- an import ends with its answer, and with the text of the repository that is left, where one is, unless memory ran out for it
  abbrev pub EndsImported : Option Records → Result Report CliFault → Outcome A → Type 0
  EndsImported (Some new) (Ok report) o = IsWritten name new o
  EndsImported (Some new) (Err fault) o = EndsWithText name new 1 (Some fault) o
  EndsImported None answer o = IsOutcome answer o

  -- the import of a stream into the store of a text, where these features are asked for
  abbrev pub ImportsText : Features → Bytes → Option Coming → Option Taken → Option Taken → Outcome A → Type 0
  ImportsText asks text coming was now o =
      (answer : Answer) × ImportsStored name asks (store_of name text) coming was now answer × EndsImported answer.0 answer.1 o

  -- that of a sound repository's export, in any form, into an empty store
  abbrev pub ImportsTextAgain : Features → Bytes → Option Coming → Outcome A → Type 0
  ImportsTextAgain asks text coming o =
      (answer : Answer) × ImportsAgain name asks (store_of name text) coming answer × EndsImported answer.0 answer.1 o

  -- the next store text is that of what is left, or the command is refused for this
  abbrev pub EndsLeft : Result Records CliFault → Outcome A → Type 0
  EndsLeft (Ok new) o = IsWritten name new o
  EndsLeft (Err fault) o = IsRefused fault o

  -- the refs with these names leave a repository, and the next store text is that of what is left
  abbrev pub DropsText : Bool → Records → List Bytes → Option Coming → Outcome A → Type 0
  DropsText stdin old words coming o = (answer : Result Records CliFault) × DropsFrom name stdin old words coming answer × EndsLeft answer o

  -- refs are set in a repository, and the next store text is that of what is left
  abbrev pub SetsText : Bool → Records → Option RefChange → Option Coming → Outcome A → Type 0
  SetsText forced old change coming o = (answer : Result Records CliFault) × SetsFrom name forced old change coming answer × EndsLeft answer o

  -- The objects that no ref reaches leave a repository, and the next store text is that of what is left.
  abbrev pub LeavesCollected : Records → Outcome A → Type 0
  LeavesCollected old o = IsRefused OutOfMemory o ⊎ ((new : Records) × IsCollected name old new × IsWritten name new o)

  -- the same, unless what else is to stay is to be read of a file, which isn't here
  abbrev pub EndsCollected : Bool → Records → Outcome A → Type 0
  EndsCollected false old o = LeavesCollected old o
  EndsCollected true old o = IsRefused ReadFailed o

  -- The answers to the lines of a source go out, over the store of a text in a format, which is read before. A text that is no
  -- format is refused, and nothing went out.
  abbrev pub AnswersLines : BatchForm → Option (List Part) → LineEnding → Bytes → Option Coming → Option Taken → Option Taken → Outcome A → Type 0
  AnswersLines form None ending text coming was now o = (IsRefused BadFormat o ⊎ IsRefused OutOfMemory o) × (now ≡ was)
  AnswersLines form (Some parts) ending text coming was now o =
      (IsRefused OutOfMemory o × (now ≡ was))
      ⊎ EndsOpened (store_of name text) (λ r. EndsAnswered (AnswersBatch name form parts ending r coming was now) o) was now o

  -- ---- all commands

  -- how a change ends over the repository of a store that was read
  abbrev pub ChangesOpened : Change → Records → Option Coming → Outcome A → Type 0
  ChangesOpened (changes.Drop words stdin) r coming o = DropsText stdin r (lent_texts words.items) coming o
  ChangesOpened (changes.SetRef change forced) r coming o = SetsText forced r change coming o
  ChangesOpened (changes.Gc report keep) r coming o = EndsCollected (is_some keep) r o
  ChangesOpened change r coming o = IsRefused ReadFailed o

  -- how a change of a store's text ends
  abbrev pub ServesChange : Change → Bytes → Option Coming → Option Taken → Option Taken → Outcome A → Type 0
  ServesChange (changes.Init false) store coming was now o = IsWritten name empty_repository o × (now ≡ was)
  ServesChange (changes.Init true) store coming was now o = IsRefused ReadFailed o × (now ≡ was)
  ServesChange changes.Grow store coming was now o = IsRefused ReadFailed o × (now ≡ was)
  ServesChange (changes.Objects force report explain) store coming was now o = IsRefused ReadFailed o × (now ≡ was)
  ServesChange (changes.Push push done report explain) store coming was now o = IsRefused ReadFailed o × (now ≡ was)
  ServesChange (changes.Put stamp) store coming was now o = IsRefused ReadFailed o × (now ≡ was)
  ServesChange (changes.Import done force report explain) store coming was now o = ImportsText (features_of done force) store coming was now o
  ServesChange change store coming was now o = EndsOpened (store_of name store) (λ r. ChangesOpened change r coming o × (now ≡ was)) was now o

  -- how a question to a store's text ends
  abbrev pub ServesQuestion : Question → Bytes → Option Coming → Option Taken → Option Taken → Outcome A → Type 0
  ServesQuestion (questions.Batch form format nul) store coming was now o = AnswersLines form (format_parts format) (ending_of nul) store coming was now o
  ServesQuestion question store coming was now o = EndsOpened (store_of name store) (λ r. EndsAnswered (IsAnswered name question r coming was now) o) was now o

  -- how it ends that a stream is tried
  abbrev pub ServesStream : Trial → Option Coming → Option Taken → Option Taken → Outcome A → Type 0
  ServesStream trials.Blobs coming was now o =
      (answer : Result ℕ BlobsFault) × PrintsBlobs name (option_map items_from coming) was now answer × IsOutcome (result_map_both (λ count. count) Blobs answer) o
  ServesStream (trials.Try word done force explain) coming was now o =
      EndsAnswered (Tries name (features_of done force) coming word.now was now) o
  ServesStream (trials.Check done force explain) coming was now o = EndsAnswered (Checks name (features_of done force) coming was now) o
  ServesStream (trials.Adapt drops) coming was now o = (answer : Result (Adapted A) CliFault) × AdaptsStream drops coming was now answer × EndsAdapted answer o
  ServesStream (trials.Where command) coming was now o = EndsAnswered (PlacesFrom command coming was now) o
  ServesStream (trials.WhereFault done force) coming was now o = EndsAnswered (FindsFault name (features_of done force) coming) o × (now ≡ was)

  -- what a command does to the sink, and how it ends
  abbrev pub Serves : Line → Bytes → Option Coming → Option Taken → Option Taken → Outcome A → Type 0
  Serves (line.Ask path question) store coming was now o = ServesQuestion question store coming was now o
  Serves (line.Change path wait change) store coming was now o = ServesChange change store coming was now o
  Serves (line.Stream trial) store coming was now o = ServesStream trial coming was now o
  Serves (line.Verify path salvage) store coming was now o = IsRefused ReadFailed o × (now ≡ was)
  Serves (line.Bundle path ranges all head pack) store coming was now o = IsRefused ReadFailed o × (now ≡ was)

  -- the import of an export, in any form, into an empty store makes that repository again, as far as its refs reach
  abbrev pub ChangesExported : Change → Bytes → Option Coming → Outcome A → Type 0
  ChangesExported (changes.Import done force report explain) store coming o = ImportsTextAgain (features_of done force) store coming o
  ChangesExported change store coming o = ⊤

  -- so does a command that imports
  abbrev pub ServesExported : Line → Bytes → Option Coming → Outcome A → Type 0
  ServesExported (line.Change path wait change) store coming o = ChangesExported change store coming o
  ServesExported line store coming o = ⊤
