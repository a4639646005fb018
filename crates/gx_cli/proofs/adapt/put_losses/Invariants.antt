use Rattle.std.proofs.Common.{◌≡◌, ◌++◌, drop}
use Rattle.gx_cli.specs.Adapting.{lost_text}
use Rattle.gx_cli.specs.Gathering.{texts_of}
use Rattle.gx_cli.proofs.adapt.put_losses.Given as goal

abbrev pub invariant-loop-line : goal.invariant-loop-line
invariant-loop-line g l = l.told.items ++ lost_text (texts_of (drop l.line-index l.lines)) ≡ l.fn.told.items ++ lost_text (texts_of l.lines)
