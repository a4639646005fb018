use Rattle.std.proofs.Common.{◌*◌, ◌≤◌}
use Rattle.gx_kept.proofs.GoneObjects.{GoneBefore}
use Rattle.gx_kept.proofs.gone.gone.Given as goal

abbrev pub invariant-loop-number : goal.invariant-loop-number
invariant-loop-number g l = GoneBefore l.listing l.marks l.number l.objects l.bytes × (l.objects ≤ l.number) × (l.bytes ≤ l.number * 18446744073709551616)
