use Rattle.gx_command.proofs.LastItems.{tells_behind}
use Rattle.gx_command.proofs.PassedItems.{explains_left}
use Rattle.gx_command.proofs.ahead.Ahead.count_behind.Goals as goal

pub returns : goal.returns
returns g c = record {
  tells = tells_behind _ _ _ _ (rw c.if-not-branch.false at c.in_ok-pass_commands.ensures.passes) c.in_ok-count_left.ensures.counts;
  explains = explains_left _ _ _ _ (rw c.if-not-branch.false at c.in_ok-pass_commands.ensures.explains) c.in_ok-count_left.ensures.explains;
}
