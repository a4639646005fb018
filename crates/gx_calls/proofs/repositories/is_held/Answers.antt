use Rattle.std.proofs.Common.{rules, ◌≡◌, subst}
use Rattle.gx_model.specs.Records.Sound.{Holds}
use Rattle.gx_model.proofs.Records.HeldObjects.{held_shown, is_shown}
use Rattle.gx_calls.proofs.repositories.is_held.Goals as goal

pub returns : goal.returns
returns g c = λ same.
    let rs = c.args.repo.now.1.records in
    let n = c.args.name.now.bytes in
    let shown = rw c.store.ensures.held at c.in-Some.ensures in
    let kind : c.in-Some.held ≡ c.args.kind = search rules in
    subst (λ k. Holds rs k n) kind (held_shown rs n c.in-Some.held c.in-Some._body.now (is_shown rs n c.in-Some.held c.in-Some._body.now shown))
