use Rattle.std.proofs.Common.{length}
use Rattle.gx_object.proofs.Tails.{IsAhead}
use Rattle.gx_object.proofs.tail.split_tail.Given as goal

abbrev pub invariant-loop-line : goal.invariant-loop-line
invariant-loop-line l = IsAhead l.bytes l.rest

abbrev pub decreases-loop-line : goal.decreases-loop-line
decreases-loop-line l = length l.rest
