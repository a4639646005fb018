use Rattle.std.proofs.Common.{◌-◌, ◌+◌, ◌*◌, length}
use Rattle.gx_tree.proofs.+give.Given as goal

abbrev pub decreases-directory::Directory::give : goal.decreases-directory::Directory::give
decreases-directory::Directory::give g l = 8 * (length l.path.now - l.depth) + 5

abbrev pub decreases-moving::give_in : goal.decreases-moving::give_in
decreases-moving::give_in g l = 8 * (length l.path.now - l.depth) + 4

abbrev pub decreases-moving::give_among : goal.decreases-moving::give_among
decreases-moving::give_among g l = 8 * (length l.path.now - l.depth) + 3

abbrev pub decreases-moving::give_at : goal.decreases-moving::give_at
decreases-moving::give_at g l = 8 * (length l.path.now - l.depth) + 2

abbrev pub decreases-directory::Item::give : goal.decreases-directory::Item::give
decreases-directory::Item::give g l = 8 * (length l.path.now - l.depth) + 6
