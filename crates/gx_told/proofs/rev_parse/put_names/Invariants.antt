use Rattle.std.proofs.Common.{drop}
use Rattle.std.specs.Prelude.{IfSome}
use Rattle.gx_told.proofs.NamedLines.{AreLines}
use Rattle.gx_told.proofs.rev_parse.put_names.Given as goal

abbrev pub invariant-loop-place : goal.invariant-loop-place
invariant-loop-place g l = IfSome (g.O.Objects.told l.objects) (AreLines (g.O.Objects.name_of l.objects) l.revisions (drop l.place l.revisions) l.place l.lines.items)
