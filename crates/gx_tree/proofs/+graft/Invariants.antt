use Rattle.std.proofs.Common.{◌-◌, ◌+◌, ◌*◌, length}
use Rattle.gx_tree.proofs.+graft.Given as goal

abbrev pub decreases-directory::Directory::graft : goal.decreases-directory::Directory::graft
decreases-directory::Directory::graft g l = 8 * (length l.path.now - l.depth) + 5

abbrev pub decreases-grafting::graft_in : goal.decreases-grafting::graft_in
decreases-grafting::graft_in g l = 8 * (length l.path.now - l.depth) + 4

abbrev pub decreases-grafting::graft_among : goal.decreases-grafting::graft_among
decreases-grafting::graft_among g l = 8 * (length l.path.now - l.depth) + 3

abbrev pub decreases-grafting::graft_at : goal.decreases-grafting::graft_at
decreases-grafting::graft_at g l = 8 * (length l.path.now - l.depth) + 2

abbrev pub decreases-directory::Item::graft : goal.decreases-directory::Item::graft
decreases-directory::Item::graft g l = 8 * (length l.path.now - l.depth) + 6

abbrev pub decreases-grafting::new_item : goal.decreases-grafting::new_item
decreases-grafting::new_item g l = 8 * (length l.path.now - l.depth) + 1

abbrev pub decreases-directory::Directory::of_item : goal.decreases-directory::Directory::of_item
decreases-directory::Directory::of_item g l = 8 * (length l.path.now - l.depth) + 6
