use Rattle.std.proofs.Common.{sym, ◌∙◌}
use Rattle.std.specs.BTreeSet.{contains}
use Rattle.std.specs.Ordering.{nat_cmp}
use Rattle.gx_tips.specs.declared.tips.Tip.{Tip}
use Rattle.gx_tips.proofs.Lists.{one_kept, one_left_out}
use Rattle.gx_tips.proofs.spans.standing_at.Goals as goal
use Rattle.gx_tips.proofs.spans.standing_at.Goals.{then-contains+in_ok-push, else-contains}

pub loop-tip-preserved : goal.loop-tip-preserved
loop-tip-preserved g c = elim c.if-contains.branch [
  | then-contains+in_ok-push w ↦
      rw w.found-is
      (one_kept (λ (tip : Tip). contains nat_cmp c.args.places.now tip.place) c.args.refs.now c.loop-tip.tip-index _ c.loop-tip.found.items c.loop-tip-test.true c.loop-tip.invariant
      w.push.new.self.items (sym c.contains.ensures ∙ w.if-contains.true) w.in_ok-push.ensures.items)
  | else-contains w ↦
      rw w.found-is
      (one_left_out (λ (tip : Tip). contains nat_cmp c.args.places.now tip.place) c.args.refs.now c.loop-tip.tip-index _ c.loop-tip.found.items c.loop-tip-test.true c.loop-tip.invariant
      (sym c.contains.ensures ∙ w.if-contains.false))
]
