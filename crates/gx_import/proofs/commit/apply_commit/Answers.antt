use Rattle.std.proofs.Common.{sym, subst}
use Rattle.std.proofs.lemmas.Result.{err_from_is_err_and}
use Rattle.gx_command.specs.Views.{commit_parts, shown_commit}
use Rattle.gx_import.specs.Calls.{AreParentsOf, Makes}
use Rattle.gx_import.proofs.AskedReferences.{merge_vain, parent_vain}
use Rattle.gx_import.proofs.MadeCommits.{first_refused, others_refused}
use Rattle.gx_import.proofs.ToldCommits.{merged_told, parent_told}
use Rattle.gx_import.proofs.commit.apply_commit.Goals as goal

pub returns-in-Err-clause-steps : goal.returns-in-Err-clause-steps
returns-in-Err-clause-steps g c = λ s h.
    let name = g.N.Namer.name_of c.args.repo.now.0 in
    first_refused name s (commit_parts c.args.commit) {Z = Unit {0}} _ (λ u x. Unit {0}) c.in-Err.kind (c.in-Err.ensures s h)

pub returns-in-Err-clause-told : goal.returns-in-Err-clause-told
returns-in-Err-clause-told g c = λ s h.
    let name = g.N.Namer.name_of c.args.repo.now.0 in
    parent_told name s (commit_parts c.args.commit) c.args.told.now c.requires.blank c.in-Err.kind (c.in-Err.ensures s h)

pub returns-in-Err-clause-asked : goal.returns-in-Err-clause-asked
returns-in-Err-clause-asked g c = λ s h.
    let name = g.N.Namer.name_of c.args.repo.now.0 in
    parent_vain name s (commit_parts c.args.commit) c.in-Err.kind c.of_line.result c.of_line.ensures (c.in-Err.ensures s h)

pub returns-in_err-parents-clause-steps : goal.returns-in_err-parents-clause-steps
returns-in_err-parents-clause-steps g c = λ s h.
    let name = g.N.Namer.name_of c.args.repo.now.0 in
    let p = err_from_is_err_and c.from_residual.result c.from_residual.ensures.1 in
    let k = c.in-Ok.ensures s h in
    rw (p.1, p.2) (others_refused name s (commit_parts c.args.commit) k.0 k.1 {Z = Unit {0}} _ (λ u x. Unit {0}) c.in_err-parents.field-0.0 (c.in_err-parents.ensures.names s k.0 h k.2))

pub returns-in_err-parents-clause-told : goal.returns-in_err-parents-clause-told
returns-in_err-parents-clause-told g c = λ s h.
    let name = g.N.Namer.name_of c.args.repo.now.0 in
    let p = err_from_is_err_and c.from_residual.result c.from_residual.ensures.1 in
    let k = c.in-Ok.ensures s h in
    rw (p.1, p.2) (merged_told name s (commit_parts c.args.commit) c.args.told.now c.requires.blank c.in_err-parents.field-0.0 (c.in_err-parents.ensures.names s k.0 h k.2))

pub returns-in_err-parents-clause-asked : goal.returns-in_err-parents-clause-asked
returns-in_err-parents-clause-asked g c = λ s h.
    let name = g.N.Namer.name_of c.args.repo.now.0 in
    let p = err_from_is_err_and c.from_residual.result c.from_residual.ensures.1 in
    let k = c.in-Ok.ensures s h in
    rw (p.1, p.2) (merge_vain name s (commit_parts c.args.commit) k.0 k.1 c.in_err-parents.field-0.0 c.parents.new.asked (c.in_err-parents.ensures.asked s h))

pub make_commit-requires-clause-parents : goal.make_commit-requires-clause-parents
make_commit-requires-clause-parents g c =
    subst (λ z. AreParentsOf g.N.Namer.name_of c.args.repo.now c.args.tables.now z c.in-Ok.first c.as_slice.result.now) (sym c.in_ok-parents.ensures.kept) (λ s h.
    let k = c.in-Ok.ensures s h in
    let l = c.in_ok-parents.ensures.names s k.0 h k.2 in
    rw c.as_slice.ensures.value (k.0, l.0, k.1, l.1, k.2, l.2))

pub returns-clause-steps : goal.returns-clause-steps
returns-clause-steps g c =
    subst (λ z. Makes g.N.Namer.name_of c.args.repo.now c.make_commit.new.repo c.args.tables.now c.make_commit.new.tables (shown_commit z) c.make_commit.result) c.in_ok-parents.ensures.kept c.make_commit.ensures.steps

pub returns-clause-told : goal.returns-clause-told
returns-clause-told g c = rw c.in_ok-parents.ensures.kept at c.make_commit.ensures.told

pub returns-clause-asked : goal.returns-clause-asked
returns-clause-asked g c = rw c.in_ok-parents.ensures.kept at c.make_commit.ensures.asked
