use Rattle.std.proofs.Common.{sym, subst}
use Rattle.std.specs.Map.{lookup}
use Rattle.gx_model.specs.Texts.{same_bytes}
use Rattle.gx_import.specs.Rows.{AreBoth}
use Rattle.gx_import.specs.Standing.{IsTip}
use Rattle.gx_import.proofs.NamedCommits.{none_found}
use Rattle.gx_import.proofs.RelatedRows.{related_found}
use Rattle.gx_import.proofs.Parents.{own_found}
use Rattle.gx_import.proofs.commit.own_commit.Goals as goal

pub returns-in-Some : goal.returns-in-Some
returns-in-Some g c = λ s h.
    let name = g.N.Namer.name_of c.args.repo.now.0 in
    let b = c.args.branch.now in
    own_found name s.history.values (lookup (same_bytes b) s.branches) c.in-Some.tip.now
    (subst (AreBoth (IsTip name s.history.values) (lookup (same_bytes b) s.branches)) (sym c.in-Some.ensures) (related_found (IsTip name s.history.values) (same_bytes b) s.branches c.args.tables.now.branches h.branches))

pub returns-in-None : goal.returns-in-None
returns-in-None g c = λ s h.
    let name = g.N.Namer.name_of c.args.repo.now.0 in
    let b = c.args.branch.now in
    let none = none_found name g.row.A.Denot s.history.values (lookup (same_bytes b) s.branches)
    (subst (AreBoth (IsTip name s.history.values) (lookup (same_bytes b) s.branches)) (sym c.in-None.ensures) (related_found (IsTip name s.history.values) (same_bytes b) s.branches c.args.tables.now.branches h.branches)) in
    rw none tt
