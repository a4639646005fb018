use Rattle.std.proofs.Common.{ap, map, subst}
use Rattle.std.specs.List.{AllByRecursion, flat_map}
use Rattle.std.proofs.lemmas.Result.{err_from_is_err_and}
use Rattle.gx_model.specs.declared.objects.Kind.TheVariants as kinds
use Rattle.gx_rev.specs.Objects.{IsHeldAs, commit_at}
use Rattle.gx_print.specs.Logs.{entries_text, entry_of, gap, next_entry}
use Rattle.gx_model.proofs.Texts.SentTexts.{IsLeft, all_left, less_left}
use Rattle.gx_cli.proofs.CommitEntries.{no_entries}
use Rattle.gx_cli.proofs.SentLines.{cut_short, last_sent}
use Rattle.gx_cli.proofs.log.formats.print_commits.Goals as goal

pub returns-in_default : goal.returns-in_default
returns-in_default g c =
    let name = g.N.Namer.name_of c.args.repo.now.0 in
    no_entries (entry_of name c.args.options) (gap c.args.options.format) (commit_at c.args.repo.now.1) c.args.names.now (g.W.Sink.taken c.args.sink.now) c.in_default.ensures.cases

pub print_commit-requires : goal.print_commit-requires
print_commit-requires g c = (subst (AllByRecursion (IsHeldAs kinds.Commit c.args.repo.now.1)) c.in-Some.ensures.cases.0 c.requires).0

pub print_others-requires : goal.print_others-requires
print_others-requires g c = (subst (AllByRecursion (IsHeldAs kinds.Commit c.args.repo.now.1)) c.in-Some.ensures.cases.0 c.requires).1

pub returns-in_err-print_commit : goal.returns-in_err-print_commit
returns-in_err-print_commit g c =
    let p = err_from_is_err_and c.from_residual.result c.from_residual.ensures.1 in
    let name = g.N.Namer.name_of c.args.repo.now.0 in
    let o = c.args.options in
    let at = commit_at c.args.repo.now.1 in
    let was = g.W.Sink.taken c.args.sink.now in
    let whole = entries_text name o (map at c.args.names.now) in
    let rest = flat_map (next_entry name o) (map at c.in-Some.others.now) in
    let start = subst (IsLeft whole was was) (ap (λ names. entries_text name o (map at names)) c.in-Some.ensures.cases.0) (all_left whole was) in
    rw (p.1, p.2) (cut_short was was (g.W.Sink.taken c.print_commit.new.sink) whole (entry_of name o (at c.in-Some.first.now)) rest c.in_err-print_commit.field-0.0 start c.in_err-print_commit.ensures)

pub returns : goal.returns
returns g c =
    let name = g.N.Namer.name_of c.args.repo.now.0 in
    let o = c.args.options in
    let at = commit_at c.args.repo.now.1 in
    let was = g.W.Sink.taken c.args.sink.now in
    let mid = g.W.Sink.taken c.print_commit.new.sink in
    let whole = entries_text name o (map at c.args.names.now) in
    let rest = flat_map (next_entry name o) (map at c.in-Some.others.now) in
    let start = subst (IsLeft whole was was) (ap (λ names. entries_text name o (map at names)) c.in-Some.ensures.cases.0) (all_left whole was) in
    last_sent was mid (g.W.Sink.taken c.print_others.new.sink) whole rest c.print_others.result (less_left whole was was mid (entry_of name o (at c.in-Some.first.now)) rest start c.in_ok-print_commit.ensures) c.print_others.ensures
