use Rattle.std.proofs.Common.{List, length, ◌++◌}
use Rattle.gx_model.specs.Texts.{Bytes}
use Rattle.gx_look.specs.Refs.{AreLeft, AreLines}
use Rattle.gx_look.proofs.refs.find_from.Given as goal

abbrev pub invariant-loop-line : goal.invariant-loop-line
invariant-loop-line l = (refs : List (Bytes × Bytes)) → AreLines l.lines refs → AreLeft (l.before ++ l.word ++ l.after) l.rest refs

abbrev pub decreases-loop-line : goal.decreases-loop-line
decreases-loop-line l = length l.rest
