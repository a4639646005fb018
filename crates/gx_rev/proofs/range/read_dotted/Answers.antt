use Rattle.std.proofs.Common.{sym, subst}
use Rattle.gx_rev.specs.Ranges.{ReadsRange}
use Rattle.gx_rev.proofs.WordShapes.{three_dots, two_dots}
use Rattle.gx_rev.proofs.range.read_dotted.Goals as goal

pub returns-in-Some : goal.returns-in-Some
returns-in-Some g c =
    subst (ReadsRange c.read_pair.result) (sym (three_dots c.args.right.now c.in-Some.right.now c.args.left.now c.in-Some.ensures.cases.0 c.in-Some.ensures.cases.1)) c.read_pair.ensures

pub returns-in-None : goal.returns-in-None
returns-in-None g c =
    subst (ReadsRange c.read_pair-in-None.result) (sym (two_dots c.args.right.now c.args.left.now c.in-None.ensures.cases)) c.read_pair-in-None.ensures
