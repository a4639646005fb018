use Rattle.std.proofs.Common.{◌≡◌, ◌++◌, drop}
use Rattle.gx_tree.specs.Homes.{AreAtHome, Both, Keeps}
use Rattle.gx_tree.specs.Views.{shown_entries}
use Rattle.gx_tree.proofs.directory.share_into.Given as goal

abbrev pub invariant-loop-entry : goal.invariant-loop-entry
invariant-loop-entry g l = (shown_entries l.shared.items ++ shown_entries (drop l.entry-index l.entries) ≡ shown_entries l.initial.shared.items ++ shown_entries l.entries) × Keeps (Both AreAtHome AreAtHome) AreAtHome (l.initial.shared.items, l.entries) l.shared.items
