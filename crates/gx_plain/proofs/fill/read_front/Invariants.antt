use Rattle.std.proofs.Common.{length, ◌-◌, ◌≤◌}
use Rattle.gx_at.specs.Reads.{StandsAt}
use Rattle.gx_plain.proofs.fill.read_front.Given as goal

abbrev pub invariant-loop-room : goal.invariant-loop-room
invariant-loop-room g l = record { within : length l.room.items ≤ l.count; there : StandsAt (g.S.ReadAt.text l.source) l.at l.room.items }

abbrev pub decreases-loop-room : goal.decreases-loop-room
decreases-loop-room g l = l.count - length l.room.items
