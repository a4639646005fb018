use Rattle.std.proofs.Common.{sym, subst, ◌∙◌}
use Rattle.gx_model.specs.Laws.RepositoryLaws.{values_of}
use Rattle.gx_import.specs.Objects.{IsCommitOf}
use Rattle.gx_import.specs.Rows.{AreBoth}
use Rattle.gx_import.proofs.ForwardBranches.{movable_at}
use Rattle.gx_import.proofs.publishing.append_branch.Goals as goal

pub returns-then-is_at-clause-forward : goal.returns-then-is_at-clause-forward
returns-then-is_at-clause-forward g c = λ made h.
    let name = g.N.Namer.name_of c.args.repo.now.0 in
    let r = c.args.repo.now.1 in
    let commit = subst (AreBoth (IsCommitOf name (values_of r)) made) c.in-Some.is h in
    sym (movable_at name (g.met.N.Namer.is_namer c.args.repo.now.0) r c.sound.ensures c.args.tables.now.is_forced made c.in-Some.target c.args.object commit (sym c.is_at.ensures ∙ c.if-is_at.true))
