-- What is told of a stream that is imported into an empty store, and of that store when its changes are exported and imported into
-- another one.
-- Source: git-fast-import(1) and git-fast-export(1).
use Rattle.std.specs.Prelude.{◌≡◌, ℕ, true, ◌++◌, codes, length, Option, Result, Ok, Err}
use Rattle.std.specs.Fmt.{decimal}
use Rattle.gx_model.specs.declared.objects.Kind.{Kind}
use Rattle.gx_model.specs.declared.features.Features.{Features}
use Rattle.gx_model.specs.Changes.{changes_text}
use Rattle.gx_model.specs.Texts.{Bytes}
use Rattle.gx_model.specs.Histories.{Records, empty_repository}
use Rattle.gx_model.specs.Texts.Sinks.{Taken}
use Rattle.gx_text.specs.Devices.{Coming}
use Rattle.gx_import.specs.Exported.{IsExported}
use Rattle.gx_import.specs.declared.report.Report.{Report}
use Rattle.gx_cli.specs.Headline.{Returns}
use Rattle.gx_cli.specs.Sending.{Sent}
use Rattle.gx_cli.specs.declared.fault.CliFault.{CliFault}
use Rattle.gx_cli.specs.declared.fault.CliFault.TheVariants.{OutOfMemory}

-- words, and a number behind them
abbrev pub count : Bytes → ℕ → Bytes
count words number = words ++ decimal number

-- the line of so many commands whose repository came back as this one: its objects and its refs are counted
abbrev pub checked_line : ℕ → Records → Bytes
checked_line commands again =
    count (codes "commands: ") commands ++ count (codes ", objects: ") (length again.records) ++ count (codes ", refs: ") (length again.refs)
    ++ codes ", and all names came back\n"

-- the line of a trip that came back goes out; for want of memory nothing does
abbrev pub TellsBack : ℕ → Records → Option Taken → Option Taken → Result (Unit {0}) CliFault → Type 0
TellsBack commands again was now (Err OutOfMemory) = now ≡ was
TellsBack commands again was now answer = Sent (checked_line commands again) was now answer

-- what is told of a trip: what came back, or why nothing did
abbrev pub TellsTrip : Result (Report × Records) CliFault → Option Taken → Option Taken → Result (Unit {0}) CliFault → Type 0
TellsTrip (Ok trip) was now answer = TellsBack trip.0.commands trip.1 was now answer
TellsTrip (Err fault) was now answer = (answer ≡ Err fault) × (now ≡ was)

module _ (name : Kind → Bytes → Bytes) (asks : Features) where
  -- What a source's stream makes of an empty store, where these features are asked for, comes back by the export of its changes: with
  -- the same refs under the same object names, exactly what they reach, and the same export.
  abbrev pub ReturnsCopy : Records → Option Coming → Option Taken → Option Taken → Result (Report × Records) CliFault → Type 0
  ReturnsCopy made = Returns asks name (λ (trip : Report × Records). trip.0) (λ repository (trip : Report × Records). IsExported repository trip.1) (changes_text name true) empty_repository made

  -- that is told behind the stream's progress text
  abbrev pub Checks : Option Coming → Option Taken → Option Taken → Result (Unit {0}) CliFault → Type 0
  Checks coming was now answer =
      (made : Records) × (mid : Option Taken) × (trip : Result (Report × Records) CliFault) × ReturnsCopy made coming was mid trip × TellsTrip trip mid now answer
