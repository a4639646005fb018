use Rattle.std.proofs.Common.{subst}
use Rattle.gx_command.specs.Behind.{TellsLeft}
use Rattle.gx_command.proofs.PassedItems.{behind_all, of_fresh}
use Rattle.gx_command.proofs.behind.items_behind.Goals as goal

pub returns : goal.returns
returns g c =
    let told = subst (λ old. TellsLeft c.args.commands old c.count_behind.result) c.new-ahead.ensures.comes c.count_behind.ensures.tells in
    behind_all _ _ _ told (of_fresh _ _ _ c.new-ahead.ensures.held c.new-ahead.ensures.explains c.count_behind.ensures.explains)
