use Rattle.std.proofs.Common.{[], ◌+◌, ◌++◌, drop, get_or, map, subst, Err}
use Rattle.std.specs.List.{flat_map}
use Rattle.std.proofs.lemmas.Result.{err_from_is_err_and}
use Rattle.gx_rev.specs.Objects.{commit_at}
use Rattle.gx_model.specs.Texts.Sinks.{Took}
use Rattle.gx_print.specs.Logs.{entry_of, next_entry}
use Rattle.gx_cli.specs.Sending.{PrintsText}
use Rattle.gx_model.proofs.Texts.SentTexts.{IsLeft, less_left}
use Rattle.gx_cli.proofs.SentLines.{cut_short, lines_at}
use Rattle.gx_cli.proofs.log.formats.print_others.Goals as goal

pub returns-in_err-print_commit : goal.returns-in_err-print_commit
returns-in_err-print_commit g c =
    let p = err_from_is_err_and c.from_residual.result c.from_residual.ensures.1 in
    let at = commit_at c.args.repo.now.1 in
    let line = next_entry (g.N.Namer.name_of c.args.repo.now.0) c.args.options in
    let names = c.args.names.now in
    let i = c.loop-name.name-index in
    let was = g.W.Sink.taken c.args.sink.now in
    let mid = g.W.Sink.taken c.loop-name.sink in
    let whole = flat_map line (map at names) in
    let sent = subst (IsLeft whole was mid) (lines_at at line names i (record { bytes = [] }) c.loop-name-test.true) c.loop-name.invariant in
    let now = g.W.Sink.taken c.print_commit.new.sink in
    let entry = entry_of (g.N.Namer.name_of c.args.repo.now.0) c.args.options (at (get_or names i (record { bytes = [] }))) in
    let fault = c.in_err-print_commit.field-0.0 in
    let cut = subst (λ between. PrintsText (between ++ entry) mid now (Err fault)) c.gap.ensures c.in_err-print_commit.ensures in
    rw (p.1, p.2) (cut_short was mid now whole _ (flat_map line (map at (drop (i + 1) names))) fault sent cut)

pub loop-name-preserved : goal.loop-name-preserved
loop-name-preserved g c =
    let at = commit_at c.args.repo.now.1 in
    let line = next_entry (g.N.Namer.name_of c.args.repo.now.0) c.args.options in
    let names = c.args.names.now in
    let i = c.loop-name.name-index in
    let was = g.W.Sink.taken c.args.sink.now in
    let mid = g.W.Sink.taken c.loop-name.sink in
    let whole = flat_map line (map at names) in
    let sent = subst (IsLeft whole was mid) (lines_at at line names i (record { bytes = [] }) c.loop-name-test.true) c.loop-name.invariant in
    let now = g.W.Sink.taken c.print_commit.new.sink in
    let entry = entry_of (g.N.Namer.name_of c.args.repo.now.0) c.args.options (at (get_or names i (record { bytes = [] }))) in
    let took = subst (λ between. Took mid now (between ++ entry)) c.gap.ensures c.in_ok-print_commit.ensures in
    less_left whole was mid now _ (flat_map line (map at (drop (i + 1) names))) sent took
