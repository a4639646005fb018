use Rattle.std.proofs.Common.{[], ◌∷◌, ◌∙◌, ap, sym, subst}
use Rattle.gx_model.proofs.ObjectTexts.BodiesReadBack.{tag_read}
use Rattle.gx_repo.specs.Pruning.{MarksNames}
use Rattle.gx_repo.proofs.pruning.mark_tagged.Goals as goal

pub returns : goal.returns
returns g c =
    let read = tag_read c.in-Ok.tag c.args.body.now c.in-Ok.ensures.found in
    subst (λ n. MarksNames c.args.store.now.1 (n ∷ []) c.args.marks.now c.mark.new.marks) (c.object.ensures ∙ ap (λ p. p.object) (sym read)) c.mark.ensures
