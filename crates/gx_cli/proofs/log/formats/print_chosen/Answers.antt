use Rattle.std.proofs.Common.{ap, length, map, subst, sym, ◌∙◌}
use Rattle.std.specs.Prelude.{if◌then◌else◌}
use Rattle.std.proofs.lemmas.List.{length-map}
use Rattle.gx_rev.specs.Objects.{commit_at}
use Rattle.gx_print.specs.Logs.{count_text, entries_text}
use Rattle.gx_cli.specs.Sending.{PrintsText}
use Rattle.gx_cli.proofs.log.formats.print_chosen.Goals as goal

pub returns-then-options : goal.returns-then-options
returns-then-options g c =
    let name = g.N.Namer.name_of c.args.repo.now.0 in
    let o = c.args.options in
    let commits = map (commit_at c.args.repo.now.1) c.args.names.now in
    let many = ap (λ n. count_text n) (sym (length-map c.args.names.now (commit_at c.args.repo.now.1))) in
    let whole = sym (ap (λ b. if b then count_text (length commits) else entries_text name o commits) c.if-options.true) in
    subst (λ text. PrintsText text (g.W.Sink.taken c.args.sink.now) (g.W.Sink.taken c.print_count.new.sink) c.print_count.result) (many ∙ whole) c.print_count.ensures

pub returns-else-options : goal.returns-else-options
returns-else-options g c =
    let name = g.N.Namer.name_of c.args.repo.now.0 in
    let o = c.args.options in
    let commits = map (commit_at c.args.repo.now.1) c.args.names.now in
    let whole = sym (ap (λ b. if b then count_text (length commits) else entries_text name o commits) c.if-options.false) in
    subst (λ text. PrintsText text (g.W.Sink.taken c.args.sink.now) (g.W.Sink.taken c.print_commits.new.sink) c.print_commits.result) whole c.print_commits.ensures
