use Rattle.gx_ref_lines.specs.Refs.{shown_refs}
use Rattle.gx_bundled.proofs.NamedRefs.{NoneBefore}
use Rattle.gx_bundled.proofs.named.first_of.Given as goal

abbrev pub invariant-loop-name : goal.invariant-loop-name
invariant-loop-name g l = NoneBefore (shown_refs l.held.refs.items) (λ one. one.items) l.names l.name-index
