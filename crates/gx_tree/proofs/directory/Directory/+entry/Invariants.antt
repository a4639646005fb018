use Rattle.std.proofs.Common.{◌-◌, length}
use Rattle.gx_tree.proofs.directory.Directory.+entry.Given as goal

abbrev pub decreases-entry : goal.decreases-entry
decreases-entry g l = length l.path.now - l.depth
