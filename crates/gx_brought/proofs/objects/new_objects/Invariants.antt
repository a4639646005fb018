use Rattle.std.proofs.Common.{◌≡◌}
use Rattle.gx_brought.proofs.NewRecords.{AreLeft}
use Rattle.gx_brought.proofs.objects.new_objects.Given as goal

abbrev pub invariant-loop-place : goal.invariant-loop-place
invariant-loop-place g l =
    (l.new.0 ≡ l.fn.namer)
    × AreLeft (g.N.Namer.name_of l.fn.namer) (g.O.Objects.told l.objects) l.small.1.records l.held l.place l.new.1
