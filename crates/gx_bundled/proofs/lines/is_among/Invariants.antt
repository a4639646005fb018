use Rattle.std.proofs.Common.{◌≡◌, false, map, take}
use Rattle.std.specs.List.{list_any}
use Rattle.gx_model.specs.Texts.{same_bytes}
use Rattle.gx_bundled.proofs.lines.is_among.Given as goal

abbrev pub invariant-loop-one : goal.invariant-loop-one
invariant-loop-one g l = list_any (same_bytes l.name) (map (λ one. one.items) (take l.one-index l.names)) ≡ false
