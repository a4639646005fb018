use Rattle.std.proofs.Common.{◌≡◌, ◌-◌, length}
use Rattle.gx_export.proofs.lines.Lines.pass.Given as goal

abbrev pub invariant-loop-self : goal.invariant-loop-self
invariant-loop-self g l = l.self ≡ record l.fn.self { next = l.self.next }

abbrev pub decreases-loop-self : goal.decreases-loop-self
decreases-loop-self g l = length l.self.left.items - l.self.next
