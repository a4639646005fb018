use Rattle.gx_kept.proofs.WrittenObjects.{AreWritten}
use Rattle.gx_kept.proofs.bundling.write_objects.Given as goal

abbrev pub invariant-loop-number : goal.invariant-loop-number
invariant-loop-number g l = AreWritten (g.O.Objects.name_of l.objects) (g.O.Objects.told l.objects) l.listing l.marks l.fn.pack l.number l.pack
