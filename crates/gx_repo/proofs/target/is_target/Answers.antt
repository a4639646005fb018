use Rattle.std.proofs.Common.{sym, ap, ◌∙◌}
use Rattle.gx_model.specs.Objects.{TagParts as Parts}
use Rattle.gx_model.specs.Texts.RefNames.{tag_ref}
use Rattle.gx_model.specs.Stores.StoreReading.{is_target_of_kind}
use Rattle.gx_model.specs.Texts.{same_bytes}
use Rattle.gx_model.proofs.ObjectTexts.BodiesReadBack.{tag_read}
use Rattle.gx_repo.proofs.target.is_target.Goals as goal

pub returns-in-Tag : goal.returns-in-Tag
returns-in-Tag c = λ is.
    let p = is c.in-Tag.is in
    c.is_own_ref.ensures p.0 p.1
    ∙ ap (λ (q : Parts). same_bytes c.args.name.now (tag_ref q.name)) (sym (tag_read p.0 c.args.body.now p.1))
    ∙ ap (λ k. is_target_of_kind c.args.name.now k c.args.body.now) (sym c.in-Tag.is)
