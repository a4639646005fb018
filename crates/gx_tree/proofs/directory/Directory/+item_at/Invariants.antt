use Rattle.std.proofs.Common.{◌-◌, length}
use Rattle.gx_tree.proofs.directory.Directory.+item_at.Given as goal

abbrev pub decreases-item_at : goal.decreases-item_at
decreases-item_at g l = length l.path.now - l.depth
