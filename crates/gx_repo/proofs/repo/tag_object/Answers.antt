use Rattle.std.proofs.Common.{◌≡◌, sym, ap, ◌∙◌}
use Rattle.gx_model.specs.Objects.{TagParts as Parts}
use Rattle.gx_model.proofs.ObjectTexts.BodiesReadBack.{tag_read}
use Rattle.gx_repo.proofs.repo.tag_object.Goals as goal

pub returns-in-Ok : goal.returns-in-Ok
returns-in-Ok c = λ parts is.
    let body = c.args.body.now in
    let same : c.in-Ok.tag.object ≡ parts.object = ap (λ (q : Parts). q.object) (sym (tag_read c.in-Ok.tag body c.in-Ok.ensures.found) ∙ tag_read parts body is) in
    cc
