use Rattle.std.proofs.Common.{◌≡◌, map, take}
use Rattle.gx_tree.specs.Lists.{shown_listed}
use Rattle.gx_tree.specs.Named.{KeepsHome, no_files}
use Rattle.gx_tree.proofs.path_tree.PathTree.without_names.Given as goal

abbrev pub invariant-loop-file : goal.invariant-loop-file
invariant-loop-file g l = (l.tree.files ≡ take l.file-index (map shown_listed l.file-items)) × KeepsHome no_files l.tree
