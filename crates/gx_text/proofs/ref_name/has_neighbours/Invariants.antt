use Rattle.std.proofs.Common.{◌≡◌, ◌-◌, drop}
use Rattle.gx_model.specs.Texts.{has_pair}
use Rattle.gx_text.proofs.ref_name.has_neighbours.Given as goal

abbrev pub invariant-loop-i : goal.invariant-loop-i
invariant-loop-i l = has_pair l.first l.second (drop (l.i - 1) l.bytes) ≡ has_pair l.first l.second l.bytes
