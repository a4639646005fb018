use Rattle.std.proofs.Common.{◌≡◌, ◌++◌, drop}
use Rattle.gx_text.specs.TreePaths.{slashes}
use Rattle.gx_text.proofs.path.ends_of.Given as goal

abbrev pub invariant-loop-place : goal.invariant-loop-place
invariant-loop-place g l = l.ends.items ++ slashes l.place (drop l.place l.text) ≡ slashes 0 l.text
