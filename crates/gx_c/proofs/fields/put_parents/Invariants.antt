use Rattle.std.proofs.Common.{◌≡◌, ◌++◌, drop}
use Rattle.std.specs.List.{flat_map}
use Rattle.gx_c.specs.Answers.{digits_line}
use Rattle.gx_c.proofs.fields.put_parents.Given as goal

abbrev pub invariant-loop-place : goal.invariant-loop-place
invariant-loop-place g l = l.text.items ++ flat_map digits_line (drop l.place l.commit.parents) ≡ flat_map digits_line l.commit.parents
