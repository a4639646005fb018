use Rattle.std.proofs.Common.{◌≡◌}
use Rattle.gx_repo.specs.Checking.{fault_behind}
use Rattle.gx_repo.proofs.checking.fault_behind.Given as goal

abbrev pub invariant-loop : goal.invariant-loop
invariant-loop l = fault_behind l.reader.entries ≡ fault_behind l.fn.reader.entries

abbrev pub decreases-loop : goal.decreases-loop
decreases-loop l = l.reader.most
