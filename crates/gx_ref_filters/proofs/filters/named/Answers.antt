use Rattle.std.proofs.Common.{sym, ◌∙◌}
use Rattle.gx_text.specs.Lent.{lent_texts}
use Rattle.gx_ref_filters.specs.Patterns.{is_named}
use Rattle.gx_tips.specs.declared.tips.Tip.{Tip}
use Rattle.gx_tips.proofs.Lists.{one_kept, one_left_out}
use Rattle.gx_ref_filters.proofs.filters.named.Goals as goal
use Rattle.gx_ref_filters.proofs.filters.named.Goals.{then-is_named+in_ok-push, else-is_named}

pub loop-tip-preserved : goal.loop-tip-preserved
loop-tip-preserved g c = elim c.if-is_named.branch [
  | then-is_named+in_ok-push w ↦
      rw w.found-is
      (one_kept (λ (tip : Tip). is_named (lent_texts c.args.patterns.now) tip.name.now) c.args.refs.now c.loop-tip.tip-index _ c.loop-tip.found.items c.loop-tip-test.true c.loop-tip.invariant
      w.push.new.self.items (sym c.is_named.ensures ∙ w.if-is_named.true) w.in_ok-push.ensures.items)
  | else-is_named w ↦
      rw w.found-is
      (one_left_out (λ (tip : Tip). is_named (lent_texts c.args.patterns.now) tip.name.now) c.args.refs.now c.loop-tip.tip-index _ c.loop-tip.found.items c.loop-tip-test.true c.loop-tip.invariant
      (sym c.is_named.ensures ∙ w.if-is_named.false))
]
