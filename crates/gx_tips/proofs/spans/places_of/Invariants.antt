use Rattle.std.proofs.Common.{take}
use Rattle.gx_tips.proofs.Places.{HasPlaces}
use Rattle.gx_tips.proofs.spans.places_of.Given as goal

abbrev pub invariant-loop-tip : goal.invariant-loop-tip
invariant-loop-tip g l = HasPlaces l.places (take l.tip-index l.refs)
