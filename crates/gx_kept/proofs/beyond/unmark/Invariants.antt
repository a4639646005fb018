use Rattle.std.proofs.Common.{◌≡◌, length}
use Rattle.gx_kept.proofs.MarkedBeyond.{DoneBefore}
use Rattle.gx_kept.proofs.beyond.unmark.Given as goal

abbrev pub invariant-loop-number : goal.invariant-loop-number
invariant-loop-number l = (length l.marks ≡ length l.fn.marks) × DoneBefore l.fn.marks l.others l.number l.marks
