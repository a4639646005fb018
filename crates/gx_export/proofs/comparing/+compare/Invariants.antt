use Rattle.std.proofs.Common.{◌+◌, ◌*◌, List}
use Rattle.gx_model.specs.Histories.Files.{FileMap}
use Rattle.gx_model.specs.Histories.Values.{Value}
use Rattle.gx_model.specs.Texts.{Bytes}
use Rattle.gx_tree.proofs.LevelsOf.{level_of}
use Rattle.gx_export.specs.Compared.{IsBelowIf}
use Rattle.gx_export.specs.FileTexts.{AreKept}
use Rattle.gx_export.specs.Marks.{HasWritten}
use Rattle.gx_export.specs.Pairs.{side_by_side}
use Rattle.gx_object.specs.Parts.{bytes_if}
use Rattle.gx_export.proofs.PassedPairs.{IsPassing}
use Rattle.gx_export.proofs.SideBySide.{kept_order}
use Rattle.gx_export.proofs.comparing.+compare.Given as goal

abbrev pub decreases-compare_trees : goal.decreases-compare_trees
decreases-compare_trees g l = 2 * l.room + 1

abbrev pub decreases-compare_pair : goal.decreases-compare_pair
decreases-compare_pair g l = 2 * l.room

abbrev pub invariant-compare_trees-loop-pair : goal.invariant-compare_trees-loop-pair
invariant-compare_trees-loop-pair g l =
    (ws : List Value) (f h : FileMap Bytes) → HasWritten l.repo.1 ws l.fn.written → IsBelowIf (g.N.Namer.name_of l.repo.0) l.repo.1 l.room l.front (bytes_if l.fn.old) f → IsBelowIf (g.N.Namer.name_of l.repo.0) l.repo.1 l.room l.front (bytes_if l.fn.new) h
    → AreKept (g.N.Namer.name_of l.repo.0) l.repo.1 ws l.fn.changes.files
    → IsPassing (g.N.Namer.name_of l.repo.0) l.repo.1 ws l.front (side_by_side kept_order (level_of f) (level_of h)) l.pair-iterator l.fn.written l.written l.fn.changes l.changes
