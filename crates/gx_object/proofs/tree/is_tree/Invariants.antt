use Rattle.std.proofs.Common.{◌≡◌}
use Rattle.std.specs.Option.{is_some}
use Rattle.gx_object.specs.Trees.{is_tree}
use Rattle.gx_object.proofs.tree.is_tree.Given as goal

abbrev pub invariant-loop : goal.invariant-loop
invariant-loop l = is_some l.reader.entries ≡ is_tree l.body

abbrev pub decreases-loop : goal.decreases-loop
decreases-loop l = l.reader.most
