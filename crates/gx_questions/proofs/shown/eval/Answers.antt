use Rattle.std.proofs.Common.{Ok, subst}
use Rattle.std.proofs.lemmas.Result.{err_from_is_err_and}
use Rattle.gx_model.specs.Revisions.Denotation.{shown_at}
use Rattle.gx_rev.specs.Answers.{shown_by}
use Rattle.gx_rev.specs.Objects.{value_at}
use Rattle.gx_rev.specs.declared.shown.Shown.TheVariants.{Object}
use Rattle.gx_questions.specs.Answers.{Answers}
use Rattle.gx_questions.proofs.Denoted.{kind_named, none_shown, shows, shows_none}
use Rattle.gx_questions.proofs.shown.eval.Goals as goal

pub returns-in_err-object-clause-shown : goal.returns-in_err-object-clause-shown
returns-in_err-object-clause-shown g c =
    let p = err_from_is_err_and c.from_residual.result c.from_residual.ensures.1 in
    rw (p.1, p.2) (shows_none (g.O.Objects.name_of c.args.objects.now) (g.O.Objects.told c.args.objects.now) c.args.revision.now _ c.in_err-object.ensures.value)

pub returns-in_ok-kind_of-in-None-clause-shown : goal.returns-in_ok-kind_of-in-None-clause-shown
returns-in_ok-kind_of-in-None-clause-shown g c =
    shows (g.O.Objects.name_of c.args.objects.now) (g.O.Objects.told c.args.objects.now) c.args.revision.now c.in_ok-object.object (Ok (Object c.in_ok-kind_of-in-None.field-0 c.in_ok-object.object)) c.in_ok-object.ensures.value
    (none_shown (g.O.Objects.told c.args.objects.now) c.in_ok-object.object c.args.revision.now.path (rw c.in-None.is at c.path.ensures))

pub returns-in_ok-kind_of-in-None-clause-named : goal.returns-in_ok-kind_of-in-None-clause-named
returns-in_ok-kind_of-in-None-clause-named g c =
    kind_named (g.O.Objects.name_of c.args.objects.now) c.sound_if_told.ensures.namer (g.O.Objects.told c.args.objects.now) c.in_ok-object.object _ c.sound_if_told.ensures.sound c.in_ok-object.ensures.held c.in_ok-kind_of-in-None.ensures.kind

pub returns-in-Some-clause-shown : goal.returns-in-Some-clause-shown
returns-in-Some-clause-shown g c =
    shows (g.O.Objects.name_of c.args.objects.now) (g.O.Objects.told c.args.objects.now) c.args.revision.now c.in_ok-object.object c.show_path.result c.in_ok-object.ensures.value
    (subst (λ p. Answers (g.O.Objects.told c.args.objects.now) shown_by (λ r. shown_at (value_at r c.in_ok-object.object) p) c.show_path.result) (rw c.in-Some.is at c.path.ensures) c.show_path.ensures.shown)
