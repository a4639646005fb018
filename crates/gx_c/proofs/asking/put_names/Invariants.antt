use Rattle.std.proofs.Common.{◌≡◌, take}
use Rattle.std.specs.List.{flat_map}
use Rattle.gx_c.specs.Answers.{digits_line}
use Rattle.gx_c.proofs.asking.put_names.Given as goal

abbrev pub invariant-loop-name : goal.invariant-loop-name
invariant-loop-name g l = l.text.items ≡ flat_map (λ name. digits_line name.bytes) (take l.name-index l.names)
