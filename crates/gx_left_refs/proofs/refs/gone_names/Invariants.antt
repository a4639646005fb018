use Rattle.gx_ref_lines.specs.Refs.{shown_refs}
use Rattle.gx_left_refs.proofs.DroppedLines.{AreGone}
use Rattle.gx_left_refs.proofs.refs.gone_names.Given as goal

abbrev pub invariant-loop-place : goal.invariant-loop-place
invariant-loop-place g l = AreGone (shown_refs l.held.refs.items) l.gone l.names l.place
