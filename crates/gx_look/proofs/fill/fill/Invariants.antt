use Rattle.std.proofs.Common.{length, take, ◌-◌, ◌≡◌, ◌≤◌}
use Rattle.gx_at.specs.Reads.{StandsAt}
use Rattle.gx_look.proofs.fill.fill.Given as goal

abbrev pub invariant-loop-done : goal.invariant-loop-done
invariant-loop-done g l =
    record {
      within : l.done ≤ length l.room;
      same : length l.room ≡ length l.initial.room;
      there : StandsAt (g.S.ReadAt.text l.source) l.at (take l.done l.room);
    }

abbrev pub decreases-loop-done : goal.decreases-loop-done
decreases-loop-done g l = length l.initial.room - l.done
