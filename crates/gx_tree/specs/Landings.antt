-- An item that is put into a directory.
use Rattle.std.specs.Prelude.{◌<◌, drop, length}
use Rattle.gx_tree.specs.Edits.{Grafts}
use Rattle.gx_tree.specs.Named.{NamedTree}
use Rattle.gx_tree.specs.Nodes.{IsKept}
use Rattle.gx_tree.specs.Views.{shown_item}
use Rattle.gx_tree.specs.declared.moving.Landing.{Landing}

-- it may stand in a directory at the rest of its path, which isn't the directory itself
abbrev pub CanLand : {A : Type 0} → Landing A → Type 0
CanLand l = (l.depth < length l.path.now) × IsKept (shown_item l.item.now)

-- it stands there, in place of what was in line with it
abbrev pub Lands : {A : Type 0} → Landing A → NamedTree → NamedTree → Type 0
Lands l old new = Grafts (drop l.depth l.path.now) (shown_item l.item.now) old new
