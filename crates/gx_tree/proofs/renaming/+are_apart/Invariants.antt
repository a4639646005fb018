use Rattle.std.proofs.Common.{◌-◌, length}
use Rattle.gx_tree.proofs.renaming.+are_apart.Given as goal

abbrev pub decreases-are_apart : goal.decreases-are_apart
decreases-are_apart g l = length l.from.now - l.depth
