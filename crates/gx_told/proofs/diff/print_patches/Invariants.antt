use Rattle.std.proofs.Common.{drop}
use Rattle.std.specs.Prelude.{IfSome}
use Rattle.gx_told.proofs.ToldPatches.{Goes}
use Rattle.gx_told.proofs.diff.print_patches.Given as goal

abbrev pub invariant-loop-difference : goal.invariant-loop-difference
invariant-loop-difference g l = IfSome (g.O.Objects.told l.objects) (Goes l.found (g.W.Sink.taken l.fn.sink) (g.W.Sink.taken l.sink) (drop l.difference-index l.found))
