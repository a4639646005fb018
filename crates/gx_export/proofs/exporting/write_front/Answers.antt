use Rattle.std.proofs.Common.{[], Ok}
use Rattle.std.proofs.lemmas.Result.{err_from_is_err_and}
use Rattle.gx_model.specs.Export.{all_written, reached_commits}
use Rattle.gx_model.specs.Records.HistoryOf.{history_of}
use Rattle.gx_export.proofs.CommitLists.{commits_items}
use Rattle.gx_export.proofs.ExportTexts.{first_items}
use Rattle.gx_export.proofs.Numbering.{adds_bytes, adds_later}
use Rattle.gx_export.proofs.Writing.{items_sooner}
use Rattle.gx_export.proofs.exporting.write_front.Goals as goal

pub returns-in_err-write : goal.returns-in_err-write
returns-in_err-write g c =
    let p = err_from_is_err_and c.from_residual.result c.from_residual.ensures.1 in
    rw (p.1, p.2) (items_sooner c.args.written.now.output c.write.new.self first_items (commits_items [] (reached_commits (history_of c.args.repo.now.1))) c.in_err-write.field-0.0 c.in_err-write.ensures.text)

pub write_commits-requires : goal.write_commits-requires
write_commits-requires g c =
    let next = (adds_bytes c.args.repo.now.1 [] first_items c.args.written.now c.write.new.self (Ok tt) c.requires.written c.in_ok-write.ensures.text).0 in
    record { reached = c.requires.reached; written = next }

pub returns : goal.returns
returns g c =
    let r = c.args.repo.now.1 in
    let cs = reached_commits (history_of r) in
    let first = adds_bytes r [] first_items c.args.written.now c.write.new.self (Ok tt) c.requires.written c.in_ok-write.ensures.text in
    adds_later r [] (all_written cs) first_items (commits_items [] cs) c.args.written.now (record c.args.written.now { output = c.write.new.self }) c.write_commits.new.written c.write_commits.result first c.write_commits.ensures
