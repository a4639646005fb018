use Rattle.std.proofs.Common.{◌+◌, refl, sym, ◌∙◌}
use Rattle.gx_left_refs.proofs.DroppedLines.{left_in, left_out}
use Rattle.gx_left_refs.proofs.refs.lines_without.Goals as goal
use Rattle.gx_left_refs.proofs.refs.lines_without.Goals.{then-not-contains+in_ok-put_ref, else-not-contains}

pub loop-name-preserved : goal.loop-name-preserved
loop-name-preserved g c =
    let gone = c.args.gone.now in
    let refs = c.args.refs.now in
    let l = c.loop-name in
    elim c.if-not-contains.branch [
      | then-not-contains+in_ok-put_ref w ↦ rw w.left-is (left_in gone refs l.left.lines.items l.left.count l.name-index _ c.loop-name-test.true l.invariant (sym c.contains.ensures ∙ w.if-not-contains.true) _ _ w.in_ok-put_ref.ensures refl)
      | else-not-contains w ↦ rw w.left-is (left_out gone refs l.left.lines.items l.left.count l.name-index _ c.loop-name-test.true l.invariant (sym c.contains.ensures ∙ w.if-not-contains.false))
    ]
