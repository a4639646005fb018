use Rattle.std.proofs.Common.{sym, ap, ◌∙◌}
use Rattle.gx_model.specs.declared.objects.Kind.TheVariants as kinds
use Rattle.gx_model.specs.Records.RecordFaults.{is_held}
use Rattle.gx_repo.proofs.ContentFaults.{dangling_passed, not_canonical, tag_dangling, tag_fine, told_bad}
use Rattle.gx_repo.proofs.checking.check_tag.Goals as goal

pub returns-in_default-clause-fault : goal.returns-in_default-clause-fault
returns-in_default-clause-fault g c =
    not_canonical c.args.store.now.1 kinds.Tag c.args.body.now (told_bad c.bodies_are_read.ensures kinds.Tag c.args.body.now (λ p. c.in_default.ensures.only p.0 p.1))

pub returns-in_err-place_of-clause-fault : goal.returns-in_err-place_of-clause-fault
returns-in_err-place_of-clause-fault g c =
    dangling_passed c.args.store.now.1 kinds.Tag c.args.body.now c.from_residual.result c.in_err-place_of.field-0.0 c.from_residual.ensures.1 c.in_err-place_of.ensures.fault
    (tag_dangling c.bodies_are_read.ensures c.args.store.now.1 c.args.body.now c.in-Ok.tag c.in-Ok.ensures.found (ap (is_held c.args.store.now.1 kinds.Commit) (sym c.object.ensures) ∙ c.in_err-place_of.ensures.dangling))

pub returns-clause-ok : goal.returns-clause-ok
returns-clause-ok g c =
    tag_fine c.bodies_are_read.ensures c.args.store.now.1 c.args.body.now c.in-Ok.tag c.in-Ok.ensures.found (ap (is_held c.args.store.now.1 kinds.Commit) (sym c.object.ensures) ∙ c.in_ok-place_of.ensures.held)
