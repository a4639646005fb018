use Rattle.std.proofs.Common.{◌≡◌, length}
use Rattle.gx_print.specs.Messages.{behind_blank}
use Rattle.gx_print.proofs.messages.MessageLines.pass_blank.Given as goal

abbrev pub invariant-loop-line : goal.invariant-loop-line
invariant-loop-line l = behind_blank l.self ≡ behind_blank l.fn.self

abbrev pub decreases-loop-line : goal.decreases-loop-line
decreases-loop-line l = length l.self
