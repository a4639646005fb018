use Rattle.std.proofs.Common.{[], Ok}
use Rattle.std.proofs.lemmas.Result.{err_from_is_err_and}
use Rattle.gx_model.specs.Changes.{all_changes, commits_with_changes}
use Rattle.gx_model.specs.Laws.RepositoryLaws.{values_of}
use Rattle.gx_export.specs.Branches.{picked, refs_of}
use Rattle.gx_export.specs.ChangedParts.{opening}
use Rattle.gx_export.specs.Texts.{items_of}
use Rattle.gx_export.proofs.Numbering.{adds_bytes, adds_later}
use Rattle.gx_export.proofs.Writing.{items_sooner}
use Rattle.gx_export.proofs.exporting_changes.write_front.Goals as goal

pub returns-in_err-write_opening : goal.returns-in_err-write_opening
returns-in_err-write_opening g c =
    let r = c.args.repo.now.1 in
    let p = err_from_is_err_and c.from_residual.result c.from_residual.ensures.1 in
    rw (p.1, p.2)
    (λ test e. items_sooner c.args.written.now.output c.write_opening.new.output (opening c.args.closed) (items_of (commits_with_changes (g.N.Namer.name_of c.args.repo.now.0) (refs_of r c.args.branches.now) [] (picked test (values_of r)))) c.in_err-write_opening.field-0.0 c.in_err-write_opening.ensures.text)

pub write_commits-requires-clause-written : goal.write_commits-requires-clause-written
write_commits-requires-clause-written g c =
    (adds_bytes c.args.repo.now.1 [] (opening c.args.closed) c.args.written.now c.write_opening.new.output (Ok tt) c.requires.written c.in_ok-write_opening.ensures.text).0

pub returns : goal.returns
returns g c = λ test e.
    let r = c.args.repo.now.1 in
    let cs = picked test (values_of r) in
    let first = adds_bytes r [] (opening c.args.closed) c.args.written.now c.write_opening.new.output (Ok tt) c.requires.written c.in_ok-write_opening.ensures.text in
    adds_later r [] (all_changes cs) (opening c.args.closed) (items_of (commits_with_changes (g.N.Namer.name_of c.args.repo.now.0) (refs_of r c.args.branches.now) [] cs)) c.args.written.now (record c.args.written.now { output = c.write_opening.new.output }) c.write_commits.new.written c.write_commits.result first (c.write_commits.ensures test e)
