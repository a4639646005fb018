use Rattle.std.proofs.Common.{◌-◌, ◌+◌, ◌*◌, length}
use Rattle.gx_tree.proofs.+remove.Given as goal

abbrev pub decreases-directory::Directory::remove : goal.decreases-directory::Directory::remove
decreases-directory::Directory::remove g l = 8 * (length l.path.now - l.depth) + 5

abbrev pub decreases-removing::remove_in : goal.decreases-removing::remove_in
decreases-removing::remove_in g l = 8 * (length l.path.now - l.depth) + 4

abbrev pub decreases-removing::remove_among : goal.decreases-removing::remove_among
decreases-removing::remove_among g l = 8 * (length l.path.now - l.depth) + 3

abbrev pub decreases-removing::remove_at : goal.decreases-removing::remove_at
decreases-removing::remove_at g l = 8 * (length l.path.now - l.depth) + 2

abbrev pub decreases-directory::Item::remove : goal.decreases-directory::Item::remove
decreases-directory::Item::remove g l = 8 * (length l.path.now - l.depth) + 6
