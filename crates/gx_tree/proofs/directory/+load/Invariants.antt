use Rattle.std.proofs.Common.{◌+◌, ◌*◌}
use Rattle.gx_model.specs.Histories.Files.{FileMap}
use Rattle.gx_model.specs.Texts.{Bytes}
use Rattle.std.specs.List.{AllByRecursion}
use Rattle.gx_tree.specs.Homes.{AreAtHome}
use Rattle.gx_model.specs.Objects.NameMaps.{IsHeldTree}
use Rattle.gx_tree.specs.Loaded.{AreLoaded}
use Rattle.gx_tree.specs.Views.{shown_entries, Remembers}
use Rattle.gx_tree.proofs.HeldLevels.{IsLoading}
use Rattle.gx_tree.proofs.LevelsOf.{level_of}
use Rattle.gx_tree.proofs.directory.+load.Given as goal

abbrev pub decreases-Directory::load : goal.decreases-Directory::load
decreases-Directory::load g l = 2 * l.room + 1

abbrev pub decreases-Item::load : goal.decreases-Item::load
decreases-Item::load g l = 2 * l.room

abbrev pub invariant-Directory::load-loop-entry : goal.invariant-Directory::load-loop-entry
invariant-Directory::load-loop-entry g l = ((f : FileMap Bytes) → IsHeldTree (g.N.Namer.name_of l.store.0) l.store.1 l.name.bytes f → IsLoading (g.N.Namer.name_of l.store.0) (level_of f) l.entry-iterator (shown_entries l.entries.items)) × AreAtHome (g.N.Namer.name_of l.store.0) l.store.1 l.entries.items × AllByRecursion (λ e. Remembers e.item) l.entries.items × AreLoaded (g.N.Namer.name_of l.store.0) l.store.1 l.loaded
