use Rattle.std.proofs.Common.{◌≡◌, length}
use Rattle.gx_print.specs.Messages.{trimmed}
use Rattle.gx_print.proofs.messages.trimmed.Given as goal

abbrev pub invariant-loop-last : goal.invariant-loop-last
invariant-loop-last l = trimmed l.rest ≡ trimmed l.text

abbrev pub decreases-loop-last : goal.decreases-loop-last
decreases-loop-last l = length l.rest
