use Rattle.gx_tips.proofs.Places.{has_more}
use Rattle.gx_tips.proofs.spans.places_of.Goals as goal

pub loop-tip-preserved : goal.loop-tip-preserved
loop-tip-preserved g c = has_more c.args.refs.now c.loop-tip.tip-index _ c.loop-tip.places c.insert.new.self c.loop-tip-test.true c.in_ok-insert.ensures.updates.0 c.loop-tip.invariant
