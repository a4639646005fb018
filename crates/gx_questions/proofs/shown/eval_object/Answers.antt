use Rattle.std.proofs.Common.{Ok, Err}
use Rattle.std.proofs.lemmas.Result.{err_from_is_err_and}
use Rattle.gx_rev.specs.declared.fault.RevFault.TheVariants.{WrongKind}
use Rattle.gx_questions.specs.declared.fault.AskFault.TheVariants.{Revision}
use Rattle.gx_questions.proofs.Denoted.{gives_none, gives_value, no_value, none_value, object_value, path_fails}
use Rattle.gx_questions.proofs.shown.eval_object.Goals as goal

pub returns-in_err-object-clause-value : goal.returns-in_err-object-clause-value
returns-in_err-object-clause-value g c =
    let p = err_from_is_err_and c.from_residual.result c.from_residual.ensures.1 in
    rw (p.1, p.2) (gives_none (g.O.Objects.name_of c.args.objects.now) (g.O.Objects.told c.args.objects.now) c.args.revision.now _ c.in_err-object.ensures.value)

pub returns-in_default-clause-value : goal.returns-in_default-clause-value
returns-in_default-clause-value g c =
    gives_value (g.O.Objects.name_of c.args.objects.now) (g.O.Objects.told c.args.objects.now) c.args.revision.now c.in_ok-object.object (Ok c.in_ok-object.object) c.in_ok-object.ensures.value (none_value (g.O.Objects.told c.args.objects.now) c.in_ok-object.object c.args.revision.now.path (rw c.in_default.is at c.path.ensures))

pub returns-in_err-name-clause-value : goal.returns-in_err-name-clause-value
returns-in_err-name-clause-value g c =
    let p = err_from_is_err_and c.from_residual-in_err-name.result c.from_residual-in_err-name.ensures.1 in
    rw (p.1, p.2) (gives_value (g.O.Objects.name_of c.args.objects.now) (g.O.Objects.told c.args.objects.now) c.args.revision.now c.in_ok-object.object (Err _) c.in_ok-object.ensures.value (path_fails (g.O.Objects.told c.args.objects.now) c.in_ok-object.object c.args.revision.now.path _ _ (rw c.in-Some.is at c.path.ensures) c.in_err-name.ensures.shown))

pub returns-in-Object-clause-value : goal.returns-in-Object-clause-value
returns-in-Object-clause-value g c =
    gives_value (g.O.Objects.name_of c.args.objects.now) (g.O.Objects.told c.args.objects.now) c.args.revision.now c.in_ok-object.object (Ok c.in-Object.name) c.in_ok-object.ensures.value
    (object_value (g.O.Objects.told c.args.objects.now) c.in_ok-object.object c.in-Object.name c.args.revision.now.path _ _ _ (rw c.in-Some.is at c.path.ensures) c.in-Object.is c.in_ok-name.ensures.shown)

pub returns-in-Submodule-clause-value : goal.returns-in-Submodule-clause-value
returns-in-Submodule-clause-value g c =
    gives_value (g.O.Objects.name_of c.args.objects.now) (g.O.Objects.told c.args.objects.now) c.args.revision.now c.in_ok-object.object (Err (Revision WrongKind)) c.in_ok-object.ensures.value
    (no_value (g.O.Objects.told c.args.objects.now) c.in_ok-object.object _ c.args.revision.now.path _ _ (rw c.in-Some.is at c.path.ensures) c.in-Submodule.is c.in_ok-name.ensures.shown)
