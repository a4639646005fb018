-- A stream imported into an empty store, and what is shown then.
use Rattle.std.proofs.Common.{◌≡◌, subst, [], append-nil, Option, None, Some, Result, Ok, Err}
use Rattle.gx_model.specs.declared.objects.Kind.{Kind}
use Rattle.gx_model.specs.declared.features.Features.{Features}
use Rattle.gx_model.specs.Texts.{Bytes}
use Rattle.gx_model.specs.Faults.{Given}
use Rattle.gx_model.specs.Streams.Commands.{Commands}
use Rattle.gx_model.specs.Histories.{Records, empty_repository}
use Rattle.gx_model.specs.Records.HistoryOf.{history_of}
use Rattle.gx_model.specs.Replay.{Outcome}
use Rattle.gx_model.specs.Texts.Sinks.{Taken, Took}
use Rattle.gx_text.specs.Devices.{Coming}
use Rattle.gx_command.specs.Reading.{commands_asked_from}
use Rattle.gx_import.specs.Imports.{Imports, report_of}
use Rattle.gx_import.specs.declared.report.Report.{Report}
use Rattle.gx_import.specs.declared.fault.ImportFault.{ImportFault}
use Rattle.gx_print.specs.Listings.{text_of_word}
use Rattle.gx_cli.specs.Trying.{ImportsAlone, Shows, ShowsReplayed, StandsAlone, Tries}
use Rattle.gx_cli.specs.declared.fault.CliFault.{CliFault}
use Rattle.gx_cli.specs.declared.fault.CliFault.TheVariants.{Import, OutOfMemory, WriteFailed}
use Rattle.gx_cli.specs.declared.fault.CliFault.TheVariants as cli
use Rattle.gx_model.proofs.Texts.SentTexts.{failed_after, took_both}

-- an import into a repository with nothing, where it is refused
pub refused_alone : {N : Type 0} (asks : Features) (name_of : N → Kind → Bytes → Bytes) (namer : N) (old : N × Records) (new : Records) (coming : Option Coming) (was now : Option Taken) (fault : ImportFault) → old ≡ (namer, empty_repository)
    → Imports asks (name_of old.0) old.1 new coming was now (Err fault) → ImportsAlone (name_of namer) {N = N} asks coming was now (Err fault)
refused_alone {N} asks name_of namer old new coming was now fault e h = by coming (subst (λ (o : N × Records). Imports asks (name_of o.0) o.1 new coming was now (Err fault)) e h)
  where
    by : (c : Option Coming) → Imports asks (name_of namer) empty_repository new c was now (Err fault) → ImportsAlone (name_of namer) {N = N} asks c was now (Err fault)
    by None k = (k.0, k.1, (new, k.2))
    by (Some c) k = (new, k)

-- an import into a repository with nothing, where it is accepted
pub accepted_alone : {N : Type 0} (asks : Features) (name_of : N → Kind → Bytes → Bytes) (namer : N) (old new : N × Records) (coming : Option Coming) (was now : Option Taken) (report : Report) → old ≡ (namer, empty_repository)
    → Imports asks (name_of old.0) old.1 new.1 coming was now (Ok report) → ImportsAlone (name_of namer) {N = N} asks coming was now (Ok new)
accepted_alone {N} asks name_of namer old new coming was now report e h = by coming (subst (λ (o : N × Records). Imports asks (name_of o.0) o.1 new.1 coming was now (Ok report)) e h)
  where
    by : (c : Option Coming) → Imports asks (name_of namer) empty_repository new.1 c was now (Ok report) → ImportsAlone (name_of namer) {N = N} asks c was now (Ok new)
    by None k = (k.0, k.1, (k.2.0, (report_of report, k.2.1), k.2.2))
    by (Some c) k = (k.0, (report_of report, k.1), k.2)

-- nothing more went out
took_none : (was mid now : Option Taken) (before : Bytes) → Took was mid before → Took mid now [] → Took was now before
took_none was mid now before h k = subst (Took was now) (append-nil before) (took_both was mid now before [] h k)

-- what is shown goes out behind the progress text
pub shown_after : (before : Bytes) (given : Given Bytes) (was mid now : Option Taken) (answer : Result (Unit {0}) CliFault) → Took was mid before → Shows [] given mid now answer → Shows before given was now answer
shown_after before given was mid now (Ok u) h k = (k.0, k.1, took_both was mid now before k.0 h k.2)
shown_after before given was mid now (Err (cli.Revision number kind)) h k = (k.0, k.1, took_none was mid now before h k.2)
shown_after before given was mid now (Err WriteFailed) h k = (k.0, k.1, failed_after was mid now before k.0 h k.2)
shown_after before given was mid now (Err OutOfMemory) h k = took_none was mid now before h k
shown_after before given was mid now (Err fault) h k = absurd k

module _ (asks : Features) (name : Kind → Bytes → Bytes) {N : Type 0} (repository : N × Records) (word : Bytes) (was mid now : Option Taken) where
  replay_shown : (commands : Commands) (outcome : Outcome) (answer : Result (Unit {0}) CliFault) → StandsAlone name {N = N} asks commands outcome was mid (Ok repository)
      → Shows [] (text_of_word name (history_of repository.1) word) mid now answer → ShowsReplayed name asks commands outcome word was now answer
  replay_shown commands outcome (Err (Import fault)) h k = absurd k
  replay_shown commands outcome (Ok u) h k = (history_of repository.1, h.0, h.1, shown_after h.0 (text_of_word name (history_of repository.1) word) was mid now (Ok u) h.2 k)
  replay_shown commands outcome (Err (cli.Revision number kind)) h k = (history_of repository.1, h.0, h.1, shown_after h.0 (text_of_word name (history_of repository.1) word) was mid now (Err (cli.Revision number kind)) h.2 k)
  replay_shown commands outcome (Err WriteFailed) h k = (history_of repository.1, h.0, h.1, shown_after h.0 (text_of_word name (history_of repository.1) word) was mid now (Err WriteFailed) h.2 k)
  replay_shown commands outcome (Err OutOfMemory) h k = (history_of repository.1, h.0, h.1, shown_after h.0 (text_of_word name (history_of repository.1) word) was mid now (Err OutOfMemory) h.2 k)
  replay_shown commands outcome (Err fault) h k = absurd k

  -- the import was accepted, and then the word was shown
  pub tried : (coming : Option Coming) (answer : Result (Unit {0}) CliFault) → ImportsAlone name {N = N} asks coming was mid (Ok repository)
      → Shows [] (text_of_word name (history_of repository.1) word) mid now answer → Tries name asks coming word was now answer
  tried None answer h k = (h.0, h.1, replay_shown h.0 _ answer h.2 k)
  tried (Some c) answer h k = replay_shown (commands_asked_from asks c) _ answer h k
