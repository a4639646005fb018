use Rattle.std.proofs.lemmas.Result.{err_from_is_err_and}
use Rattle.gx_changes.proofs.Texts.{behind_told, commits_stop_told, opening_stops, still_none}
use Rattle.gx_changes.proofs.sending.write_text.Goals as goal

pub returns-in_err-write_opening-clause-adds : goal.returns-in_err-write_opening-clause-adds
returns-in_err-write_opening-clause-adds g c =
    let o = c.args.objects.now in
    let p = err_from_is_err_and c.from_residual.result c.from_residual.ensures.1 in
    rw (p.1, p.2) (opening_stops (g.O.Objects.name_of o) c.args.closed c.args.commits.now c.args.refs.now c.args.written.now c.args.branches.now c.requires.written c.write_opening.new.output (g.O.Objects.told o) c.in_err-write_opening.field-0.0 c.in_err-write_opening.ensures.text)

pub write_commits-requires-clause-written : goal.write_commits-requires-clause-written
write_commits-requires-clause-written g c =
    let o = c.args.objects.now in
    still_none (g.O.Objects.name_of o) c.args.closed c.args.commits.now c.args.refs.now c.args.written.now c.args.branches.now c.requires.written c.write_opening.new.output c.in_ok-write_opening.ensures.text (g.O.Objects.told o)

pub returns-in_err-write_commits-clause-adds : goal.returns-in_err-write_commits-clause-adds
returns-in_err-write_commits-clause-adds g c =
    let o = c.args.objects.now in
    let p = err_from_is_err_and c.from_residual-in_err-write_commits.result c.from_residual-in_err-write_commits.ensures.1 in
    rw (p.1, p.2) (commits_stop_told (g.O.Objects.name_of o) c.args.closed c.args.commits.now c.args.refs.now c.args.written.now c.args.branches.now c.requires.written c.write_opening.new.output c.in_ok-write_opening.ensures.text (g.O.Objects.told o) c.write_commits.new.written
    c.in_err-write_commits.field-0.0 c.requires.branches c.in_err-write_commits.ensures.adds)

pub returns-clause-adds : goal.returns-clause-adds
returns-clause-adds g c =
    let o = c.args.objects.now in
    behind_told (g.O.Objects.name_of o) c.args.closed c.args.commits.now c.args.refs.now c.args.written.now c.args.branches.now c.requires.written c.write_opening.new.output c.in_ok-write_opening.ensures.text (g.O.Objects.told o) c.write_commits.new.written c.write_behind.new.written c.write_behind.result c.requires.branches
    c.in_ok-write_commits.ensures.adds c.write_behind.ensures.adds
