use Rattle.std.proofs.Common.{◌≡◌, Ok, subst}
use Rattle.std.specs.Prelude.{IfSome}
use Rattle.std.proofs.lemmas.Result.{err_from_is_err_and}
use Rattle.gx_model.specs.Records.HistoryOf.{history_of}
use Rattle.gx_model.specs.Revisions.Denotation.{all_suffixed, base_value}
use Rattle.gx_rev.specs.Objects.{value_at}
use Rattle.gx_questions.specs.Answers.{Answers, Refuses}
use Rattle.gx_questions.proofs.Told.{fails_first, goes_on}
use Rattle.gx_questions.proofs.shown.eval_front.Goals as goal

pub returns-in_err-base-clause-value : goal.returns-in_err-base-clause-value
returns-in_err-base-clause-value g c =
    let p = err_from_is_err_and c.from_residual.result c.from_residual.ensures.1 in
    let name = (g.O.Objects.name_of c.args.objects.now) in
    rw (p.1, p.2) (fails_first (g.O.Objects.told c.args.objects.now) (λ r. base_value name (history_of r) c.args.revision.now.base) (λ r v. all_suffixed v c.args.revision.now.suffixes) c.in_err-base.field-0.0
    (subst (λ b. Refuses (g.O.Objects.told c.args.objects.now) (λ r. base_value name (history_of r) b) c.in_err-base.field-0.0) c.base.ensures c.in_err-base.ensures.value))

pub returns-clause-value : goal.returns-clause-value
returns-clause-value g c =
    let name = (g.O.Objects.name_of c.args.objects.now) in
    goes_on (g.O.Objects.told c.args.objects.now) value_at (λ r. base_value name (history_of r) c.args.revision.now.base) c.in_ok-base.base value_at (λ r v. all_suffixed v c.args.revision.now.suffixes) c.eval_all.result
    (subst (λ b. IfSome (g.O.Objects.told c.args.objects.now) (λ r. base_value name (history_of r) b ≡ Ok (value_at r c.in_ok-base.base))) c.base.ensures c.in_ok-base.ensures.value)
    (subst (λ ss. Answers (g.O.Objects.told c.args.objects.now) value_at (λ r. all_suffixed (value_at r c.in_ok-base.base) ss) c.eval_all.result) c.suffixes.ensures c.eval_all.ensures.value)
