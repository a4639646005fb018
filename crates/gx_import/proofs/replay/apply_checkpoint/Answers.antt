use Rattle.std.proofs.Common.{length, refl, ap, ◌∙◌}
use Rattle.std.proofs.lemmas.Result.{err_from_is_err_and}
use Rattle.gx_import.proofs.replay.apply_checkpoint.Goals as goal

pub publish-requires-clause-stands : goal.publish-requires-clause-stands
publish-requires-clause-stands g c = c.requires.stands

pub returns-clause-next : goal.returns-clause-next
returns-clause-next g c = record { count = refl; records = c.len-checkpoints.ensures.count ∙ ap (λ z. length z.1) c.store.ensures.held; targets = c.store.ensures.sound.held }

pub returns-clause-published : goal.returns-clause-published
returns-clause-published g c = c.in_ok-publish.ensures.published

pub returns-clause-homes : goal.returns-clause-homes
returns-clause-homes g c = c.in_ok-publish.ensures.homes

pub returns-in_err-publish-clause-published : goal.returns-in_err-publish-clause-published
returns-in_err-publish-clause-published g c =
    let p = err_from_is_err_and c.from_residual.result c.from_residual.ensures.1 in
    rw (p.1, p.2) c.in_err-publish.ensures.published

pub returns-clause-loss : goal.returns-clause-loss
returns-clause-loss g c = c.in_ok-publish.ensures.loss

pub returns-in_err-publish-clause-loss : goal.returns-in_err-publish-clause-loss
returns-in_err-publish-clause-loss g c =
    let p = err_from_is_err_and c.from_residual.result c.from_residual.ensures.1 in
    rw (p.1, p.2) c.in_err-publish.ensures.loss
