use Rattle.std.proofs.Common.{Ok, Err, subst, sym}
use Rattle.gx_model.specs.Histories.{Records}
use Rattle.gx_model.specs.Records.HistoryOf.{history_of}
use Rattle.gx_archive.specs.Archives.{archive_of}
use Rattle.gx_archive.specs.Asked.{DeliversAsked}
use Rattle.gx_print.specs.Stored.{only_word}
use Rattle.gx_told.specs.Printing.{Prints}
use Rattle.gx_told.proofs.ArchivedWords.{archive_printed}
use Rattle.gx_told.proofs.Tellings.{map_told}
use Rattle.gx_told.proofs.archive.archive_revision.Goals as goal

pub returns-in-Ok : goal.returns-in-Ok
returns-in-Ok g c =
    let it = c.args.objects.now in
    let told = g.O.Objects.told it in
    let was = g.W.Sink.taken c.args.sink.now in
    let now = g.W.Sink.taken c.archive_of_objects.new.sink in
    let given = λ (r : Records). archive_of (g.O.Objects.name_of it) (history_of r) c.args.revision.now c.args.prefix.now in
    map_told told (λ r. DeliversAsked (given r) was now (Ok c.in-Ok.field-0)) (λ r. Prints (only_word (given r)) was now (Ok c.in-Ok.field-0)) (λ r h. archive_printed (given r) was now (Ok c.in-Ok.field-0) h) c.in-Ok.ensures

pub returns-in-Err : goal.returns-in-Err
returns-in-Err g c =
    let it = c.args.objects.now in
    let told = g.O.Objects.told it in
    let was = g.W.Sink.taken c.args.sink.now in
    let now = g.W.Sink.taken c.archive_of_objects.new.sink in
    let given = λ (r : Records). archive_of (g.O.Objects.name_of it) (history_of r) c.args.revision.now c.args.prefix.now in
    map_told told (λ r. DeliversAsked (given r) was now (Err c.in-Err.fault)) (λ r. Prints (only_word (given r)) was now (Err c.from.result))
    (λ r h. subst (λ fault. Prints (only_word (given r)) was now (Err fault)) (sym c.from.ensures) (archive_printed (given r) was now (Err c.in-Err.fault) h)) c.in-Err.ensures
