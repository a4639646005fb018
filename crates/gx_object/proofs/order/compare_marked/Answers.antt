use Rattle.gx_object.proofs.Fronts.{fronts_tell, rests_tell}
use Rattle.gx_object.proofs.order.compare_marked.Goals as goal

pub returns-in-Equal : goal.returns-in-Equal
returns-in-Equal c =
    rests_tell c.args.first.now c.args.first_mark.now c.args.second.now c.args.second_mark.now c.min-both.result c.cmp.result c.compare_rests.result c.min-both.ensures c.cmp.ensures c.in-Equal.is c.compare_rests.ensures

pub returns-in_default : goal.returns-in_default
returns-in_default c =
    fronts_tell c.args.first.now c.args.first_mark.now c.args.second.now c.args.second_mark.now c.min-both.result c.cmp.result c.min-both.ensures c.cmp.ensures c.in_default.not-Equal
