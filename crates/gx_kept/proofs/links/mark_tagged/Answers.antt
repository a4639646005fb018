use Rattle.std.proofs.Common.{[], ◌∷◌, ◌∙◌, ap, sym, subst}
use Rattle.gx_model.specs.declared.objects.Kind.TheVariants as kinds
use Rattle.gx_model.proofs.ObjectTexts.BodiesReadBack.{tag_read}
use Rattle.gx_kept.specs.Marking.{MarksListed}
use Rattle.gx_kept.proofs.SetMarks.{one_refuses}
use Rattle.gx_kept.proofs.links.mark_tagged.Goals as goal

pub returns-in_default-clause-refused : goal.returns-in_default-clause-refused
returns-in_default-clause-refused g c = λ body below. c.in_default.ensures.only body.0 body.1

pub returns-clause-marks : goal.returns-clause-marks
returns-clause-marks g c =
    let same = c.object.ensures ∙ ap (λ p. p.object) (sym (tag_read c.in-Ok.tag c.args.body.now c.in-Ok.ensures.found)) in
    subst (λ n. MarksListed c.args.listing.now (n ∷ []) c.args.marks.now c.mark_below.new.marks c.mark_below.result) same c.mark_below.ensures.marks

pub returns-clause-refused : goal.returns-clause-refused
returns-clause-refused g c =
    let same = ap (λ p. p.object) (tag_read c.in-Ok.tag c.args.body.now c.in-Ok.ensures.found) ∙ sym c.object.ensures in
    one_refuses c.args.listing.now c.args.limit kinds.Tag c.args.body.now c.object.result.bytes c.mark_below.result (ap (λ n. n ∷ []) same) c.mark_below.ensures.refused
