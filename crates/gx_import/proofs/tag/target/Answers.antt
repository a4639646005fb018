use Rattle.std.proofs.lemmas.Result.{err_from_is_err_and}
use Rattle.gx_command.specs.Views.{shown_commit_ish}
use Rattle.gx_import.proofs.TagTargets.{target_named, target_refused}
use Rattle.gx_import.proofs.tag.target.Goals as goal

pub returns-in_err-object_named : goal.returns-in_err-object_named
returns-in_err-object_named g c = λ s h.
    let p = err_from_is_err_and c.from_residual.result c.from_residual.ensures.1 in
    rw (p.1, p.2) (target_refused (g.N.Namer.name_of c.args.repo.now.0) s (shown_commit_ish c.args.from.now) c.in_err-object_named.field-0.0 (c.in_err-object_named.ensures s h))

pub returns : goal.returns
returns g c = λ s h.
    let k = c.in_ok-object_named.ensures s h in
    target_named (g.N.Namer.name_of c.args.repo.now.0) s.history.values s (shown_commit_ish c.args.from.now) k.0 k.1 c.in_ok-object_named.field-0 k.2 c.name_of_kind.result c.name_of_kind.ensures
