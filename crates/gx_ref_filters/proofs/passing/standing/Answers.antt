use Rattle.std.proofs.Common.{ap, sym, ◌∙◌}
use Rattle.std.specs.BTreeSet.{contains}
use Rattle.std.specs.Ordering.{nat_cmp}
use Rattle.gx_ref_filters.specs.Filters.{agrees}
use Rattle.gx_tips.specs.declared.tips.Tip.{Tip}
use Rattle.gx_tips.proofs.Lists.{one_kept, one_left_out}
use Rattle.gx_ref_filters.proofs.passing.standing.Goals as goal
use Rattle.gx_ref_filters.proofs.passing.standing.Goals.{then-agrees+in_ok-push, else-agrees}

pub loop-tip-preserved : goal.loop-tip-preserved
loop-tip-preserved g c = elim c.if-agrees.branch [
  | then-agrees+in_ok-push w ↦
      rw w.found-is
      (one_kept (λ (tip : Tip). agrees c.args.so (contains nat_cmp c.args.places.now tip.place)) c.args.refs.now c.loop-tip.tip-index _ c.loop-tip.found.items c.loop-tip-test.true c.loop-tip.invariant
      w.push.new.self.items (ap (agrees c.args.so) (sym c.contains.ensures) ∙ sym c.agrees.ensures ∙ w.if-agrees.true) w.in_ok-push.ensures.items)
  | else-agrees w ↦
      rw w.found-is
      (one_left_out (λ (tip : Tip). agrees c.args.so (contains nat_cmp c.args.places.now tip.place)) c.args.refs.now c.loop-tip.tip-index _ c.loop-tip.found.items c.loop-tip-test.true c.loop-tip.invariant
      (ap (agrees c.args.so) (sym c.contains.ensures) ∙ sym c.agrees.ensures ∙ w.if-agrees.false))
]
