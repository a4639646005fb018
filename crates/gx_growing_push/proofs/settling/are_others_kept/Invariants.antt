use Rattle.gx_growing_push.proofs.KeptRefs.{AreSameLeft}
use Rattle.gx_growing_push.proofs.settling.are_others_kept.Given as goal

abbrev pub invariant-loop-held : goal.invariant-loop-held
invariant-loop-held g l = AreSameLeft l.names l.before l.after l.place l.held-index
