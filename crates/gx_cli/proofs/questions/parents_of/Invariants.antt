use Rattle.std.proofs.Common.{◌≡◌, ◌++◌, drop, map}
use Rattle.gx_cli.proofs.questions.parents_of.Given as goal

abbrev pub invariant-loop-place : goal.invariant-loop-place
invariant-loop-place g l = map (λ name. name.bytes) l.parents.items ++ drop l.place l.view.parents ≡ l.view.parents
