use Rattle.std.proofs.Common.{◌-◌, ◌≤◌}
use Rattle.gx_rows.specs.Rows.{HasRows, Parts}
use Rattle.gx_rows.proofs.finding.end_of_front.Given as goal

abbrev pub invariant-loop-span : goal.invariant-loop-span
invariant-loop-span g l =
    record {
      ordered : l.span.low ≤ l.span.high;
      within : l.span.high ≤ l.table.count;
      rows : HasRows (g.S.ReadAt.text l.source) l.table.at l.block;
      parted : Parts (g.S.ReadAt.text l.source) l.table.at l.table.count l.name l.span.low l.span.high;
    }

abbrev pub decreases-loop-span : goal.decreases-loop-span
decreases-loop-span g l = l.span.high - l.span.low
