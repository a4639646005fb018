use Rattle.std.proofs.Common.{◌+◌, ◌*◌, List}
use Rattle.gx_model.specs.Histories.Files.{FileMap}
use Rattle.gx_model.specs.Objects.NameMaps.{IsHeldTree}
use Rattle.gx_model.specs.Texts.{Bytes}
use Rattle.gx_model.specs.Histories.Values.{Value}
use Rattle.gx_tree.proofs.LevelsOf.{level_of}
use Rattle.gx_export.specs.FileTexts.{AreKept}
use Rattle.gx_export.specs.Marks.{HasWritten}
use Rattle.gx_export.proofs.Gathering.{IsWalking}
use Rattle.gx_export.proofs.trees.+gather.Given as goal

abbrev pub decreases-add_tree : goal.decreases-add_tree
decreases-add_tree g l = 3 * l.room + 2

abbrev pub decreases-add_entries : goal.decreases-add_entries
decreases-add_entries g l = 3 * l.room + 1

abbrev pub decreases-add_entry : goal.decreases-add_entry
decreases-add_entry g l = 3 * l.room

abbrev pub invariant-add_entries-loop-entry : goal.invariant-add_entries-loop-entry
invariant-add_entries-loop-entry g l = (ws : List Value) (f : FileMap Bytes) → HasWritten l.repo.1 ws l.fn.written → AreKept (g.N.Namer.name_of l.repo.0) l.repo.1 ws l.fn.lines → IsHeldTree (g.N.Namer.name_of l.repo.0) l.repo.1.records l.tree.bytes f
    → IsWalking (g.N.Namer.name_of l.repo.0) l.repo.1 ws l.front (level_of f) l.entry-iterator l.fn.written l.written l.fn.lines l.lines
