use Rattle.std.proofs.Common.{◌≡◌, ◌+◌, ◌*◌, ◌++◌, drop}
use Rattle.gx_tree.specs.Homes.{AreAtHome}
use Rattle.gx_tree.specs.Nodes.{components, files}
use Rattle.gx_tree.specs.Views.{shown_entries, RememberAll}
use Rattle.gx_tree.specs.Writes.{Extends}
use Rattle.gx_tree.proofs.Measures.{item_measure}
use Rattle.gx_tree.proofs.WrittenRecords.{IsWriting}
use Rattle.gx_tree.proofs.+write.Given as goal

abbrev pub invariant-writing::write_entries-loop-entry : goal.invariant-writing::write_entries-loop-entry
invariant-writing::write_entries-loop-entry g l =
    Extends l.initial.store l.store
    × IsWriting (g.N.Namer.name_of l.initial.store.0) l.entries l.entry-index l.initial.store.1 l.store.1
    × (shown_entries l.named.items ++ shown_entries (drop l.entry-index l.entries) ≡ shown_entries l.entries)
    × AreAtHome (g.N.Namer.name_of l.initial.store.0) l.store.1 l.named.items
    × RememberAll l.named.items

abbrev pub decreases-directory::Directory::written : goal.decreases-directory::Directory::written
decreases-directory::Directory::written g l = 4 * components l.self.now.files + 3

abbrev pub decreases-directory::Item::written : goal.decreases-directory::Item::written
decreases-directory::Item::written g l = item_measure l.self.now

abbrev pub decreases-writing::write_entries : goal.decreases-writing::write_entries
decreases-writing::write_entries g l = 4 * components (files (shown_entries l.entries.now)) + 1

abbrev pub decreases-writing::written_entries : goal.decreases-writing::written_entries
decreases-writing::written_entries g l = 4 * components (files (shown_entries l.entries.now.value.items)) + 2
