use Rattle.std.proofs.Common.{◌≡◌, ◌+◌, ◌-◌, sym, ◌∙◌, arith, inl, inr}
use Rattle.gx_text.proofs.Neighbours.{has_pair_more, has_pair_end}
use Rattle.gx_text.proofs.ref_name.has_neighbours.Goals as goal
use Rattle.gx_text.proofs.ref_name.has_neighbours.Goals.{else-bytes-i-via-then-bytes-i+else-bytes-i-2, else-bytes-i-via-else-bytes-i}

pub loop-i-preserved : goal.loop-i-preserved
loop-i-preserved c =
    let i = c.loop-i.i in
    let bs = c.args.bytes.now in
    let e = has_pair_more c.args.first c.args.second bs i (omega arith) (omega arith) (elim c.else-bytes-i.branch [ else-bytes-i-via-then-bytes-i+else-bytes-i-2 w ↦ inr w.if-bytes-i-2.false | else-bytes-i-via-else-bytes-i w ↦ inl w.if-bytes-i.false ]) in
    let back : i + 1 - 1 ≡ i = omega arith in
    rw back (e ∙ c.loop-i.invariant)

pub returns : goal.returns
returns c = sym (sym c.loop-i.invariant ∙ has_pair_end c.args.first c.args.second c.args.bytes.now c.loop-i.i (omega arith) (omega arith))
