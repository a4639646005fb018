use Rattle.std.specs.List.{AllByRecursion}
use Rattle.gx_push.proofs.ReadLines.{AreRead}
use Rattle.gx_push.specs.Wants.{ref_of, shown_want, shown_wants, want_of}
use Rattle.gx_ref_lines.specs.Refs.{shown_refs}
use Rattle.gx_growing_push.specs.Wanting.{IsFree}
use Rattle.gx_growing_push.proofs.wants.wants_of.Given as goal

abbrev pub invariant-loop-line : goal.invariant-loop-line
invariant-loop-line g l =
    AreRead {A = g.row.A.Denot} ref_of (want_of (shown_refs l.held.refs.items)) shown_want l.lines l.list.items l.names l.line-index
    × AllByRecursion IsFree (shown_wants l.list.items)
