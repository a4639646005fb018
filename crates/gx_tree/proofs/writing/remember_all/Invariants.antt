use Rattle.std.proofs.Common.{take}
use Rattle.gx_tree.specs.Views.{RememberAll}
use Rattle.gx_tree.proofs.writing.remember_all.Given as goal

abbrev pub invariant-loop-entry : goal.invariant-loop-entry
invariant-loop-entry g l = RememberAll (take l.entry-index l.entries)
