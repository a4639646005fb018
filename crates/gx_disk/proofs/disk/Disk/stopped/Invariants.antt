use Rattle.std.proofs.Common.{◌≡◌, ◌≤◌, ◌-◌, take}
use Rattle.gx_disk.specs.Disks.{MayLeave, begun, replayed}
use Rattle.gx_disk.proofs.disk.Disk.stopped.Given as goal

abbrev pub invariant-loop-number : goal.invariant-loop-number
invariant-loop-number g l =
    record {
      within : l.number ≤ l.count;
      text : l.text.items ≡ (replayed (begun l.self.first.items) (take l.number l.calls)).text;
      left : MayLeave (replayed (begun l.self.first.items) (take l.number l.calls)) l.left.items;
    }

abbrev pub decreases-loop-number : goal.decreases-loop-number
decreases-loop-number g l = l.count - l.number
