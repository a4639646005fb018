-- Where a source tells nothing, what an import tells of a refusal is about the very commands whose replay it is.
-- Source: git-fast-import(1).
use Rattle.std.specs.Prelude.{◌≡◌, ℕ, Bool, List, Option, None, Result, Ok, Err, ⊤}
use Rattle.gx_model.specs.declared.objects.Kind.{Kind}
use Rattle.gx_model.specs.declared.features.Features.{Features}
use Rattle.gx_model.specs.Texts.{Bytes}
use Rattle.gx_model.specs.Texts.Sinks.{Taken}
use Rattle.gx_model.specs.Histories.{Records}
use Rattle.gx_model.specs.Streams.Commands.{Command, Commands}
use Rattle.gx_command.specs.Reading.{AreOfItems, Seen}
use Rattle.gx_repo.specs.Repositories.{Repository}
use Rattle.gx_import.specs.Explaining.{Explains, TellsNothing}
use Rattle.gx_import.specs.Imports.{Replays, replayed_on}
use Rattle.gx_import.specs.Keeping.{left_of}
use Rattle.gx_import.specs.Reading.{IsAskedOf}
use Rattle.gx_import.specs.declared.checkpoints.Checkpoints.{Checkpoints}
use Rattle.gx_import.specs.declared.explanation.Explanation.{Explanation}
use Rattle.gx_import.specs.declared.fault.ImportFault.{ImportFault}
use Rattle.gx_import.specs.declared.report.Report.{Report}

module _ (asks : Features) (name : Kind → Bytes → Bytes) {A : Type 0} where
  -- what is told of these commands: nothing, where the import is accepted
  abbrev pub ExplainsOf : Records → List Command → Result Report ImportFault → Explanation A → Type 0
  ExplainsOf old commands (Ok _) told = TellsNothing told
  ExplainsOf old commands (Err fault) told = Explains name asks old commands fault told

  -- there are the commands of some items that are replayed, and of which this is told
  abbrev pub IsOfOneReplay : Records → Records → Option Taken → Option Taken → Result Report ImportFault → Explanation A → Type 0
  IsOfOneReplay old new was now result told =
      (commands : Commands) × AreOfItems asks commands × Replays asks name old new commands (replayed_on asks name old commands) was now result
      × ExplainsOf old commands.list result told

module _ {N W : Type 0} (names : N → Kind → Bytes → Bytes) (taken : W → Option Taken) {A : Type 0} where
  -- the same of a refusal while a reader's commands are applied, with each features that let branches lose commits just where the
  -- tables do at the start
  abbrev pub RetellsRead : Repository N → Repository N → Bool → Checkpoints → Seen → W → W → Result ℕ ImportFault → Explanation A → Type 0
  RetellsRead old new is_forced checkpoints reader was now (Ok _) told = ⊤
  RetellsRead old new is_forced checkpoints reader was now (Err fault) told =
      (asks : Features) → asks.force ≡ is_forced → IsAskedOf asks None reader
      → IsOfOneReplay asks (names old.0) old.1 (left_of checkpoints new.1) (taken was) (taken now) (Err fault) told
