use Rattle.std.proofs.Common.{◌≡◌, ◌++◌, drop}
use Rattle.gx_print.specs.Logs.{parent_text}
use Rattle.gx_print.proofs.formats.put_parents.Given as goal

abbrev pub invariant-loop-place : goal.invariant-loop-place
invariant-loop-place g l = l.out.items ++ parent_text (drop l.place l.commit.parents) ≡ l.fn.out.items ++ parent_text l.commit.parents
