use Rattle.std.proofs.Common.{◌∙◌}
use Rattle.gx_model.proofs.Records.HeldObjects.{is_shown}
use Rattle.gx_repo.proofs.WantingTrees.{without_entries}
use Rattle.gx_repo.proofs.wanting.is_without_entries.Goals as goal

pub returns-in-Some : goal.returns-in-Some
returns-in-Some g c =
    let rs = c.args.store.now.1 in
    let n = c.args.name.now.bytes in
    c.is_empty.ensures ∙ without_entries rs n c.in-Some.body.now c.in-Some.field-0-0 (is_shown rs n c.in-Some.field-0-0 c.in-Some.body.now c.in-Some.ensures)
