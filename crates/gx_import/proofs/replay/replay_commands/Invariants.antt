use Rattle.std.proofs.Common.{◌≡◌, ◌+◌, ◌-◌, ◌^◌, ◌≤◌}
use Rattle.gx_text.specs.Devices.{Coming}
use Rattle.gx_model.specs.declared.features.Features.{Features}
use Rattle.gx_model.specs.Streams.Gitlinks.{HoldsSayable}
use Rattle.gx_model.specs.Histories.{IsHistory}
use Rattle.gx_model.specs.Records.HistoryOf.{history_of}
use Rattle.gx_model.specs.Replay.{State}
use Rattle.gx_model.proofs.Replay.GitlinkSteps.{IsFreeState}
use Rattle.std.specs.Prelude.{Option}
use Rattle.gx_import.specs.Explaining.{TellsNothing}
use Rattle.gx_import.specs.Keeping.{IsLeft, Keeps}
use Rattle.gx_import.specs.Reading.{IsAskedOf}
use Rattle.gx_import.specs.Standing.{AreTipsAtHome, Extends, Stands}
use Rattle.gx_import.proofs.ReachedStates.{IsAt}
use Rattle.gx_import.proofs.replay.replay_commands.Given as goal

abbrev pub invariant-loop-command : goal.invariant-loop-command
invariant-loop-command g l = record {
  namer : l.repo.0 ≡ l.fn.repo.0;
  blank : TellsNothing l.told;
  extends : Extends l.fn.repo.1.records l.repo.1.records;
  homes : AreTipsAtHome (g.N.Namer.name_of l.repo.0) l.repo.1.records l.tables;
  room : l.commands + l.reader.most ≤ 2 ^ 63 - 1;
  counted : l.checkpoints.count ≤ l.commands;
  left : IsLeft l.fn.repo.1 l.repo.1 l.checkpoints;
  stands : (s : State) × Stands (g.N.Namer.name_of l.repo.0) l.repo.1 l.tables s
      × ((asks : Features) (coming : Option Coming) → asks.force ≡ l.fn.tables.is_forced → IsAskedOf asks coming l.fn.reader
      → IsAt asks (g.N.Namer.name_of l.repo.0) l.fn.repo.1 coming l.commands s l.reader (g.W.Sink.taken l.fn.sink) (g.W.Sink.taken l.sink))
      × (IsHistory (history_of l.fn.repo.1) → HoldsSayable (history_of l.fn.repo.1) → IsFreeState s)
      × Keeps l.repo.1 l.checkpoints s;
}

abbrev pub decreases-loop-command : goal.decreases-loop-command
decreases-loop-command g l = l.reader.most
