use Rattle.gx_changes.proofs.SentRefs.{FirstRefs}
use Rattle.gx_changes.proofs.refs.write_refs.Given as goal

abbrev pub invariant-loop-tip : goal.invariant-loop-tip
invariant-loop-tip g l = FirstRefs (g.O.Objects.name_of l.objects) l.refs l.fn.written (g.O.Objects.told l.objects) l.tip-index l.written
