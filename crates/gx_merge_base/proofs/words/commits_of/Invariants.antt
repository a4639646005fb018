use Rattle.std.proofs.Common.{drop}
use Rattle.std.specs.Prelude.{IfSome}
use Rattle.gx_merge_base.proofs.Read.{AreSoFar}
use Rattle.gx_merge_base.proofs.words.commits_of.Given as goal

abbrev pub invariant-loop-place : goal.invariant-loop-place
invariant-loop-place g l = IfSome (g.O.Objects.told l.objects) (AreSoFar (g.O.Objects.name_of l.objects) l.revisions (drop l.place l.revisions) l.place l.commits.items)
