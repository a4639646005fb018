use Rattle.std.proofs.Common.{sym, ◌∙◌}
use Rattle.gx_look.proofs.refs.find.Goals as goal

pub returns : goal.returns
returns c = λ refs h. let l = c.near-rest.ensures refs h in c.find_from.ensures l.left l.lines ∙ sym l.same
