use Rattle.std.proofs.Common.{IfErr, refl, sym, ap, subst, ◌∙◌}
use Rattle.gx_model.specs.declared.objects.Kind.TheVariants as kinds
use Rattle.gx_model.specs.Records.RecordFaults.{content_fault}
use Rattle.gx_repo.specs.Checking.{MayRefuse}
use Rattle.gx_repo.proofs.ContentFaults.{may_refuse, nothing_against}
use Rattle.gx_repo.proofs.checking.checked_room.Goals as goal

pub returns-in-Blob-clause-ok : goal.returns-in-Blob-clause-ok
returns-in-Blob-clause-ok g c =
    let rs = c.args.store.now.1 in
    let body = c.args.body.now in
    ap (λ k. content_fault rs k body) c.in-Blob.is ∙ nothing_against rs kinds.Blob body refl refl refl

pub returns-in-Commit-clause-fault : goal.returns-in-Commit-clause-fault
returns-in-Commit-clause-fault g c =
    let rs = c.args.store.now.1 in
    let body = c.args.body.now in
    subst (λ k. IfErr c.check_commit.result (MayRefuse rs k body)) (sym c.in-Commit.is) (may_refuse rs kinds.Commit body c.check_commit.result c.check_commit.ensures.fault)

pub returns-in-Tag-clause-fault : goal.returns-in-Tag-clause-fault
returns-in-Tag-clause-fault g c =
    let rs = c.args.store.now.1 in
    let body = c.args.body.now in
    subst (λ k. IfErr c.check_tag.result (MayRefuse rs k body)) (sym c.in-Tag.is) (may_refuse rs kinds.Tag body c.check_tag.result c.check_tag.ensures.fault)
