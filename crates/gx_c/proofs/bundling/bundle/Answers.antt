use Rattle.std.proofs.Common.{ap, map, subst, sym, ◌∙◌}
use Rattle.std.specs.Prelude.{not}
use Rattle.std.proofs.lemmas.List.{length-map}
use Rattle.std.specs.List.{flat_map}
use Rattle.gx_model.specs.Stores.StoreText.{stored_ref}
use Rattle.gx_bundled.specs.Named.{told_refs}
use Rattle.gx_rev.specs.Views.{shown_range}
use Rattle.gx_c.specs.Bundles.{AnswersBundleSo}
use Rattle.gx_c.proofs.ToldBundles.{from_told, is_none_mapped, is_some, refused}
use Rattle.gx_c.proofs.bundling.bundle.Goals as goal

pub returns-in-Ok : goal.returns-in-Ok
returns-in-Ok g c =
    let name = g.N.Namer.name_of c.args.repo.now.0 in
    let r = c.args.repo.now.1 in
    let words = map (shown_range {A = g.row.A.Denot}) c.args.words.now in
    let head = c.args.head.now in
    let all = c.is_empty.ensures ∙ is_none_mapped (shown_range {A = g.row.A.Denot}) c.args.words.now in
    let with_head = ap not c.is_empty-2.ensures ∙ is_some head in
    let refs = c.in-Ok.ensures.refs ∙ (λ i. flat_map stored_ref (told_refs (all i) (with_head i) words r.refs)) in
    let counted = sym (length-map c.args.words.now (shown_range {A = g.row.A.Denot})) in
    from_told name r words head c.in-Ok.told _ refs counted c.in-Ok.ensures.excluded c.bundle_told.result.why c.bundle_told.result c.bundle_told.ensures

pub returns-in-Err : goal.returns-in-Err
returns-in-Err g c =
    let name = g.N.Namer.name_of c.args.repo.now.0 in
    let r = c.args.repo.now.1 in
    let words = map (shown_range {A = g.row.A.Denot}) c.args.words.now in
    let head = c.args.head.now in
    let told = refused name r words head c.in-Err.fault.kind c.in-Err.fault.word c.refused.result c.in-Err.ensures.excluded c.refused.ensures.bytes c.refused.ensures.number in
    subst (λ why. AnswersBundleSo name r words head why c.refused.result) (sym (c.refused.ensures.why ∙ c.why_of.ensures)) told
