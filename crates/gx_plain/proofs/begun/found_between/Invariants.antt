use Rattle.std.proofs.Common.{◌≡◌, ◌≤◌, drop, length, map}
use Rattle.gx_store.specs.Prefixes.{found_between}
use Rattle.gx_plain.proofs.begun.found_between.Given as goal

abbrev pub invariant-loop-number : goal.invariant-loop-number
invariant-loop-number g l = record { within : l.number ≤ length l.listing; found : l.found ≡ found_between l.ends (map (λ one. one.0) (drop l.number l.listing)) }

abbrev pub decreases-loop-number : goal.decreases-loop-number
decreases-loop-number g l = l.number
