use Rattle.std.proofs.Common.{ap, Ok}
use Rattle.gx_model.specs.Faults.{◌>>=◌}
use Rattle.gx_model.specs.Records.HistoryOf.{history_of}
use Rattle.gx_rev.specs.Objects.{files_at}
use Rattle.gx_print.specs.Listings.{tree_lines}
use Rattle.gx_print.specs.Stored.{files_of_word, list_lines, only_word}
use Rattle.gx_cli.proofs.Pieces.{shows_prints}
use Rattle.gx_cli.proofs.RefusedWords.{only_refused}
use Rattle.gx_cli.proofs.SentLines.{given_text}
use Rattle.gx_cli.proofs.ls.list.Goals as goal

pub returns-in-Err : goal.returns-in-Err
returns-in-Err g c =
    let name = g.N.Namer.name_of c.args.repo.now.0 in
    rw c.refused.ensures (only_refused (files_of_word name (history_of c.args.repo.now.1) c.args.word.now) (list_lines name c.args.recursive) (g.W.Sink.taken c.args.sink.now) c.in-Err.kind c.in-Err.ensures.files)

pub returns-then-recursive : goal.returns-then-recursive
returns-then-recursive g c =
    let name = g.N.Namer.name_of c.args.repo.now.0 in
    let files = files_at c.args.repo.now.1 c.in-Ok.tree in
    let given = ap (λ r. only_word (r >>= λ fs. Ok (list_lines name c.args.recursive fs))) c.in-Ok.ensures.files in
    let was = g.W.Sink.taken c.args.sink.now in
    let now = g.W.Sink.taken c.print_files.new.sink in
    given_text _ (list_lines name c.args.recursive files) was now c.print_files.result given (rw c.if-recursive.true c.print_files.ensures)

pub returns-else-recursive : goal.returns-else-recursive
returns-else-recursive g c =
    let name = g.N.Namer.name_of c.args.repo.now.0 in
    let files = files_at c.args.repo.now.1 c.in-Ok.tree in
    let given = ap (λ r. only_word (r >>= λ fs. Ok (list_lines name c.args.recursive fs))) c.in-Ok.ensures.files in
    let was = g.W.Sink.taken c.args.sink.now in
    let now = g.W.Sink.taken c.print_entries.new.sink in
    let printed = shows_prints (tree_lines name files) was now c.print_entries.result c.print_entries.ensures in
    given_text _ (list_lines name c.args.recursive files) was now c.print_entries.result given (rw c.if-recursive.false printed)
