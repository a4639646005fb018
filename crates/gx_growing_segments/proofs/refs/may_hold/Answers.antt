use Rattle.std.proofs.Common.{sym, ap, subst, ◌∙◌}
use Rattle.gx_model.specs.Stores.StoreReading.{is_target, is_target_of_kind}
use Rattle.gx_model.proofs.Records.HeldObjects.{IsShown, is_shown, tag_shown}
use Rattle.gx_repo.specs.Refs.{HasTagParts}
use Rattle.gx_growing_segments.proofs.refs.may_hold.Goals as goal

pub returns-in-Some : goal.returns-in-Some
returns-in-Some g c =
    let r = c.args.repo.now.1 in
    let named = c.args.target.now.bytes in
    let body = c.in-Some.body.now in
    let seen = is_shown r.records named c.in-Some.kind body (rw c.store.ensures.held at c.in-Some.ensures) in
    let tagged : HasTagParts c.in-Some.kind body = λ k. tag_shown (g.N.Namer.name_of c.args.repo.now.0) (g.met.N.Namer.is_namer c.args.repo.now.0) r c.store.ensures.sound named body (subst (λ k. IsShown r.records named k body) k seen) in
    c.is_target.ensures tagged
    ∙ (λ i. is_target_of_kind c.args.name.now (sym seen.of_kind i) (sym seen.of_body i))
    ∙ ap (is_target c.args.name.now) (sym seen.found)
