use Rattle.std.proofs.Common.{◌∙◌}
use Rattle.gx_look.proofs.CheckedRefs.{less_so}
use Rattle.gx_look.proofs.refs.is_after.Goals as goal

pub returns-in-Some : goal.returns-in-Some
returns-in-Some c = rw c.in-Some.is (c.lt.ensures ∙ less_so c.in-Some.last.now c.args.name.now)
