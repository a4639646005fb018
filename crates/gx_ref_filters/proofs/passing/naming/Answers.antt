use Rattle.std.proofs.Common.{sym, ◌∙◌}
use Rattle.gx_ref_filters.specs.Filters.{is_or_names}
use Rattle.gx_tips.specs.declared.tips.Tip.{Tip}
use Rattle.gx_tips.proofs.Lists.{one_kept, one_left_out}
use Rattle.gx_ref_filters.proofs.passing.naming.Goals as goal
use Rattle.gx_ref_filters.proofs.passing.naming.Goals.{then-is_or_names+in_ok-push, else-is_or_names}

pub loop-tip-preserved : goal.loop-tip-preserved
loop-tip-preserved g c = elim c.if-is_or_names.branch [
  | then-is_or_names+in_ok-push w ↦
      rw w.found-is
      (one_kept (λ (tip : Tip). is_or_names c.args.object.now tip) c.args.refs.now c.loop-tip.tip-index _ c.loop-tip.found.items c.loop-tip-test.true c.loop-tip.invariant
      w.push.new.self.items (sym c.is_or_names.ensures ∙ w.if-is_or_names.true) w.in_ok-push.ensures.items)
  | else-is_or_names w ↦
      rw w.found-is
      (one_left_out (λ (tip : Tip). is_or_names c.args.object.now tip) c.args.refs.now c.loop-tip.tip-index _ c.loop-tip.found.items c.loop-tip-test.true c.loop-tip.invariant
      (sym c.is_or_names.ensures ∙ w.if-is_or_names.false))
]
