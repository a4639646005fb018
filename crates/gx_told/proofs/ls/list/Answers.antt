use Rattle.gx_model.specs.Records.HistoryOf.{history_of}
use Rattle.gx_rev.specs.Objects.{files_at}
use Rattle.gx_print.specs.Stored.{files_of_word, list_lines}
use Rattle.gx_told.proofs.Prints.{only_given, only_refused}
use Rattle.gx_told.proofs.ls.list.Goals as goal

pub returns : goal.returns
returns g c =
    let told = g.O.Objects.told c.args.objects.now in
    let name = g.O.Objects.name_of c.args.objects.now in
    rw c.refused.ensures (only_refused told (λ r. files_of_word name (history_of r) c.args.word.now) (λ r. list_lines name c.args.recursive) (g.W.Sink.taken c.args.sink.now) c.in-Err.fault c.in-Err.ensures.files)

pub returns-then-recursive : goal.returns-then-recursive
returns-then-recursive g c =
    let told = g.O.Objects.told c.args.objects.now in
    let name = g.O.Objects.name_of c.args.objects.now in
    let was = g.W.Sink.taken c.args.sink.now in
    let now = g.W.Sink.taken c.print_files.new.sink in
    only_given told (λ r. files_of_word name (history_of r) c.args.word.now) (λ r. files_at r c.in-Ok.tree) (λ r. list_lines name c.args.recursive) was now c.print_files.result c.in-Ok.ensures.files (rw c.if-recursive.true c.print_files.ensures)

pub returns-in-Ok : goal.returns-in-Ok
returns-in-Ok g c =
    let told = g.O.Objects.told c.args.objects.now in
    let name = g.O.Objects.name_of c.args.objects.now in
    let was = g.W.Sink.taken c.args.sink.now in
    let now = g.W.Sink.taken c.print_entries.new.sink in
    only_given told (λ r. files_of_word name (history_of r) c.args.word.now) (λ r. files_at r c.in-Ok.tree) (λ r. list_lines name c.args.recursive) was now c.print_entries.result c.in-Ok.ensures.files (rw c.if-recursive.false c.print_entries.ensures)
