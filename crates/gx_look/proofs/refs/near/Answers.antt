use Rattle.std.proofs.Common.{◌++◌}
use Rattle.gx_look.proofs.RefsInOrder.{all_left, more_left}
use Rattle.gx_look.proofs.refs.near.Goals as goal

pub loop-width-init : goal.loop-width-init
loop-width-init c = all_left c.args.lines.now (c.args.before.now ++ c.args.word.now ++ c.args.after.now)

pub loop-width-preserved : goal.loop-width-preserved
loop-width-preserved c =
    more_left c.args.lines.now c.loop-width.rest.now c.behind-rest.result.now (c.args.before.now ++ c.args.word.now ++ c.args.after.now) c.loop-width.invariant c.behind-rest.ensures
