use Rattle.std.proofs.Common.{◌≡◌, ◌++◌, ◌∷◌, take}
use Rattle.std.specs.List.{flat_map}
use Rattle.gx_adapt.specs.Paths.{escaped}
use Rattle.gx_adapt.proofs.text.put_quoted.Given as goal

abbrev pub invariant-loop-b : goal.invariant-loop-b
invariant-loop-b g l = l.out.items ≡ l.fn.out.items ++ (34 ∷ flat_map escaped (take l.b-index l.text))
