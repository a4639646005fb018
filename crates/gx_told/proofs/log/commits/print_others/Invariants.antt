use Rattle.std.proofs.Common.{drop}
use Rattle.std.specs.Prelude.{IfSome}
use Rattle.gx_told.proofs.CommitLines.{Goes}
use Rattle.gx_told.proofs.log.commits.print_others.Given as goal

abbrev pub invariant-loop-name : goal.invariant-loop-name
invariant-loop-name g l = IfSome (g.O.Objects.told l.objects) (Goes (g.O.Objects.name_of l.objects) l.options l.names (g.W.Sink.taken l.fn.sink) (g.W.Sink.taken l.sink) (drop l.name-index l.names))
