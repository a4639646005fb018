-- What comes of a stream that is imported into an empty store, and then of a word that is shown as a revision.
-- Source: git-fast-import(1) and git-cat-file(1).
use Rattle.std.specs.Prelude.{◌≡◌, ℕ, false, [], ◌++◌, Option, Some, None, Result, Ok, Err, IsOk, ⊤}
use Rattle.std.specs.declared.vec.Vec.{Vec}
use Rattle.gx_model.specs.declared.objects.Kind.{Kind}
use Rattle.gx_model.specs.declared.objects.Mode.{Mode}
use Rattle.gx_model.specs.declared.features.Features.{Features}
use Rattle.gx_model.specs.Texts.{Bytes}
use Rattle.gx_model.specs.Faults.{Given}
use Rattle.gx_model.specs.Histories.Files.{Leaf}
use Rattle.gx_model.specs.Streams.Commands.{Commands}
use Rattle.gx_model.specs.Histories.{History, Records, empty_repository, no_history}
use Rattle.gx_model.specs.Records.HistoryOf.{history_of}
use Rattle.gx_model.specs.Replay as model
use Rattle.gx_model.specs.Replay.{Outcome, finished, imported_asked}
use Rattle.gx_model.specs.Texts.Sinks.{FailedWithin, Taken, Took}
use Rattle.gx_text.specs.Devices.{Coming}
use Rattle.gx_stream.specs.Heard.{heard}
use Rattle.gx_command.specs.Reading.{AreOfItems, commands_asked_from}
use Rattle.gx_rev.specs.Answers.{shown_file}
use Rattle.gx_rev.specs.RevFaults.{fault_of}
use Rattle.gx_import.specs.Imports.{Replays, replayed_on}
use Rattle.gx_import.specs.declared.fault.ImportFault.{ImportFault}
use Rattle.gx_print.specs.Listings.{text_of_word}
use Rattle.gx_cli.specs.declared.fault.CliFault.{CliFault}
use Rattle.gx_cli.specs.declared.fault.CliFault.TheVariants.{Import, OutOfMemory, WriteFailed}
use Rattle.gx_cli.specs.declared.fault.CliFault.TheVariants as cli

-- a sink took this text, and hasn't failed
abbrev pub having_taken : Bytes → Taken
having_taken text = record { bytes = text; failed = false }

-- Behind some text that went out, the text that is given goes out, or why none is given is answered. Where memory runs out
-- none of it went out, and where the sink fails a front of it.
abbrev pub Shows : Bytes → Given Bytes → Option Taken → Option Taken → Result (Unit {0}) CliFault → Type 0
Shows before given was now (Ok _) = (text : Bytes) × (given ≡ Ok text) × Took was now (before ++ text)
Shows before given was now (Err (cli.Revision number kind)) = (number ≡ 1) × (given ≡ Err (fault_of kind)) × Took was now before
Shows before given was now (Err WriteFailed) = (text : Bytes) × (given ≡ Ok text) × FailedWithin was now (before ++ text)
Shows before given was now (Err OutOfMemory) = Took was now before
Shows before given was now (Err fault) = ⊥

-- the replay is accepted with this history, and this progress text
abbrev pub Replayed : Outcome → History → Bytes → Type 0
Replayed outcome h text = (report : model.Report) × (outcome ≡ finished h text report)

-- what is looked up is given, or why nothing is; memory may run out only where something is
abbrev pub LooksAs : {A : Type 0} → Given (Leaf Bytes) → Result (Mode × Vec ℕ A) CliFault → Type 0
LooksAs given (Ok file) = given ≡ Ok (shown_file file)
LooksAs given (Err (cli.Revision number kind)) = (number ≡ 1) × (given ≡ Err (fault_of kind))
LooksAs given (Err OutOfMemory) = IsOk given
LooksAs given (Err fault) = ⊥

module _ (name : Kind → Bytes → Bytes) where
  -- This holds of the commands of a source, and of their replay into an empty store, where these features are asked for. Where the
  -- source tells nothing, they are those of some items.
  abbrev pub OfReplay : Features → Option Coming → (Commands → Outcome → Type 0) → Type 0
  OfReplay asks None holds = (commands : Commands) × AreOfItems asks commands × holds commands (replayed_on asks name empty_repository commands)
  OfReplay asks (Some coming) holds =
      holds (commands_asked_from asks coming) (imported_asked asks name no_history (heard coming).bytes (heard coming).fails)

  -- a refused import into an empty store, where these features are asked for, or one that was interrupted, which leaves some repository
  abbrev pub Refuses : Features → Commands → Outcome → Option Taken → Option Taken → ImportFault → Type 0
  Refuses asks commands outcome was now fault = (left : Records) × Replays asks name empty_repository left commands outcome was now (Err fault)

  -- Once the replay is accepted, its progress text went out, and then the word is shown in its history.
  abbrev pub ShowsReplayed : Features → Commands → Outcome → Bytes → Option Taken → Option Taken → Result (Unit {0}) CliFault → Type 0
  ShowsReplayed asks commands outcome word was now (Err (Import fault)) = Refuses asks commands outcome was now fault
  ShowsReplayed asks commands outcome word was now answer = (h : History) × (text : Bytes) × Replayed outcome h text × Shows text (text_of_word name h word) was now answer

  -- the same of the commands of a source
  abbrev pub Tries : Features → Option Coming → Bytes → Option Taken → Option Taken → Result (Unit {0}) CliFault → Type 0
  Tries asks coming word was now answer = OfReplay asks coming (λ commands outcome. ShowsReplayed asks commands outcome word was now answer)

  -- What commands are refused for, where a sink takes their progress text: for nothing, where their replay is accepted.
  abbrev pub Finds : Features → Commands → Outcome → Result (Unit {0}) CliFault → Type 0
  Finds asks commands outcome (Ok _) = (h : History) × (text : Bytes) × Replayed outcome h text
  Finds asks commands outcome (Err (Import fault)) = (text : Bytes) × Refuses asks commands outcome (Some (having_taken [])) (Some (having_taken text)) fault
  Finds asks commands outcome (Err OutOfMemory) = ⊤
  Finds asks commands outcome (Err fault) = ⊥

  -- the same of the commands of a source
  abbrev pub FindsFault : Features → Option Coming → Result (Unit {0}) CliFault → Type 0
  FindsFault asks coming answer = OfReplay asks coming (λ commands outcome. Finds asks commands outcome answer)

  -- an import into an empty store is accepted as the replay is, with its history and its progress text, or refused
  abbrev pub StandsAlone : {N : Type 0} → Features → Commands → Outcome → Option Taken → Option Taken → Result (N × Records) ImportFault → Type 0
  StandsAlone asks commands outcome was now (Ok repository) = (text : Bytes) × Replayed outcome (history_of repository.1) text × Took was now text
  StandsAlone asks commands outcome was now (Err fault) = Refuses asks commands outcome was now fault

  -- the same of the commands of a source
  abbrev pub ImportsAlone : {N : Type 0} → Features → Option Coming → Option Taken → Option Taken → Result (N × Records) ImportFault → Type 0
  ImportsAlone asks coming was now answer = OfReplay asks coming (λ commands outcome. StandsAlone asks commands outcome was now answer)
