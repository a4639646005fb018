-- What stops an import of commands that their replay accepts.
-- Source: git-fast-import(1).
use Rattle.std.specs.Prelude.{◌≡◌, ◌⊎◌, ◌-◌, List, length, take, Option, Some, None, ⊤}
use Rattle.gx_model.specs.declared.objects.Kind.{Kind}
use Rattle.gx_model.specs.declared.faults.Fault.TheVariants.{OutOfMemory, WriteFailed}
use Rattle.gx_model.specs.declared.features.Features.{Features}
use Rattle.gx_model.specs.Texts.{Bytes}
use Rattle.gx_model.specs.Histories.{History, Records}
use Rattle.gx_model.specs.Laws.RangeLaws.{AreToldByName}
use Rattle.gx_model.specs.Laws.RefusedReplays.{checkpoints_in}
use Rattle.gx_model.specs.Records.HistoryOf.{history_of}
use Rattle.gx_model.specs.Replay as model
use Rattle.gx_model.specs.Replay.{finished, imported_asked}
use Rattle.gx_model.specs.Streams.Commands.{Command}
use Rattle.gx_text.specs.Devices.{Coming}
use Rattle.gx_stream.specs.Heard.{heard}
use Rattle.gx_command.specs.Reading.{commands_asked_from}
use Rattle.gx_repo.specs.Repositories.{Repository}
use Rattle.gx_import.specs.declared.fault.ImportFault.{ImportFault}

-- memory ran out, or the sink of progress texts failed, after as many checkpoints as the commands before it ask for
abbrev pub IsCutShort : List Command → ImportFault → Type 0
IsCutShort commands fault =
    ((fault.kind ≡ OutOfMemory) ⊎ (fault.kind ≡ WriteFailed))
    × (fault.checkpoints ≡ checkpoints_in (take (fault.command - 1) commands))

-- Where the replay of what a source tells is accepted, and names tell the values of its history apart, an import of it is refused
-- for nothing else.
abbrev pub StopsReplay : Features → (Kind → Bytes → Bytes) → Records → Option Coming → ImportFault → Type 0
StopsReplay asks name old None fault = ⊤
StopsReplay asks name old (Some coming) fault =
    (h : History) (text : Bytes) (report : model.Report)
    → imported_asked asks name (history_of old) (heard coming).bytes (heard coming).fails ≡ finished h text report
    → AreToldByName name h.values → IsCutShort (commands_asked_from asks coming).list fault

module _ {N : Type 0} (names : N → Kind → Bytes → Bytes) where
  -- the same of a repository, where these features are asked for
  abbrev pub StopsAsked : Features → Repository N → Option Coming → ImportFault → Type 0
  StopsAsked asks old = StopsReplay asks (names old.0) old.1
