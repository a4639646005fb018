use Rattle.std.proofs.Common.{◌≡◌, ◌∙◌, Some, false, subst, sym, true}
use Rattle.std.specs.Option.{option_map}
use Rattle.gx_model.specs.Histories.{object_of}
use Rattle.gx_model.specs.Records.Growth.{record_named}
use Rattle.gx_model.proofs.Records.HeldObjects.{IsShown, is_shown, tag_shown}
use Rattle.gx_repo.specs.Refs.{HasTagParts, shown_update}
use Rattle.gx_salvage_refs.proofs.KeptRefs.{set_as_target}
use Rattle.gx_salvage_refs.proofs.refs.loss_of.Goals as goal

pub returns-then-is_target-clause-kept : goal.returns-then-is_target-clause-kept
returns-then-is_target-clause-kept g c =
    let rs = c.args.repo.now.1.records in
    let ref = shown_update c.args.change.now in
    let kind = c.in-Some.kind in
    let body = c.in-Some.body.now in
    let shown = is_shown rs ref.1 kind body (subst (λ v. Some (kind, body) ≡ option_map object_of (record_named v.1 ref.1)) c.store.ensures.held c.in-Some.ensures) in
    let tagged : HasTagParts kind body = λ k. tag_shown (g.N.Namer.name_of c.args.repo.now.0) (g.met.N.Namer.is_namer c.args.repo.now.0) c.args.repo.now.1 c.store.ensures.sound ref.1 body (subst (λ k. IsShown rs ref.1 k body) k shown) in
    set_as_target rs ref c.requires.name kind body true shown (sym (c.is_target.ensures tagged) ∙ c.if-is_target.true)

pub returns-clause-lost : goal.returns-clause-lost
returns-clause-lost g c =
    let rs = c.args.repo.now.1.records in
    let ref = shown_update c.args.change.now in
    let kind = c.in-Some.kind in
    let body = c.in-Some.body.now in
    let shown = is_shown rs ref.1 kind body (subst (λ v. Some (kind, body) ≡ option_map object_of (record_named v.1 ref.1)) c.store.ensures.held c.in-Some.ensures) in
    let tagged : HasTagParts kind body = λ k. tag_shown (g.N.Namer.name_of c.args.repo.now.0) (g.met.N.Namer.is_namer c.args.repo.now.0) c.args.repo.now.1 c.store.ensures.sound ref.1 body (subst (λ k. IsShown rs ref.1 k body) k shown) in
    set_as_target rs ref c.requires.name kind body false shown (sym (c.is_target.ensures tagged) ∙ c.if-is_target.false)
