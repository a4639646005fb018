use Rattle.std.proofs.Common.{◌-◌, ◌+◌, ◌*◌, length}
use Rattle.gx_tree.proofs.+rename.Given as goal

abbrev pub decreases-directory::Directory::rename : goal.decreases-directory::Directory::rename
decreases-directory::Directory::rename g l = 8 * (length l.from.now - l.depth) + 5

abbrev pub decreases-renaming::rename_in : goal.decreases-renaming::rename_in
decreases-renaming::rename_in g l = 8 * (length l.from.now - l.depth) + 4

abbrev pub decreases-renaming::rename_among : goal.decreases-renaming::rename_among
decreases-renaming::rename_among g l = 8 * (length l.from.now - l.depth) + 3

abbrev pub decreases-renaming::rename_at : goal.decreases-renaming::rename_at
decreases-renaming::rename_at g l = 8 * (length l.from.now - l.depth) + 2

abbrev pub decreases-directory::Item::rename : goal.decreases-directory::Item::rename
decreases-directory::Item::rename g l = 8 * (length l.from.now - l.depth) + 6
