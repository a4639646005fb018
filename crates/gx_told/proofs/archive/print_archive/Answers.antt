use Rattle.std.proofs.Common.{Err, ap, subst, sym}
use Rattle.gx_model.specs.Faults.{◌>>=◌}
use Rattle.gx_model.specs.Records.HistoryOf.{history_of}
use Rattle.gx_model.specs.Revisions.{revision_of}
use Rattle.gx_archive.specs.Archives.{archive_of}
use Rattle.gx_print.specs.Stored.{only_word}
use Rattle.gx_told.specs.Archiving.{tar_text}
use Rattle.gx_told.specs.Printing.{Prints}
use Rattle.gx_told.proofs.ArchivedWords.{unread_word}
use Rattle.gx_told.proofs.Tellings.{each_told, map_told}
use Rattle.gx_told.proofs.archive.print_archive.Goals as goal

pub returns-in-Ok : goal.returns-in-Ok
returns-in-Ok g c =
    let it = c.args.objects.now in
    let name = g.O.Objects.name_of it in
    let prefix = c.args.prefix.now in
    let was = g.W.Sink.taken c.args.sink.now in
    let now = g.W.Sink.taken c.archive_revision.new.sink in
    let answer = c.archive_revision.result in
    map_told (g.O.Objects.told it) (λ r. Prints (only_word (archive_of name (history_of r) c.in-Ok.revision prefix)) was now answer) (λ r. Prints (tar_text name prefix (history_of r) c.args.word.now) was now answer)
    (λ r h. subst (λ read. Prints (only_word (read >>= λ revision. archive_of name (history_of r) revision prefix)) was now answer) (sym c.in-Ok.ensures.revision) h) c.archive_revision.ensures

pub returns-in-Err : goal.returns-in-Err
returns-in-Err g c =
    let it = c.args.objects.now in
    let name = g.O.Objects.name_of it in
    let was = g.W.Sink.taken c.args.sink.now in
    rw (c.refused.ensures, c.from.ensures) (each_told (g.O.Objects.told it) (λ r. Prints (tar_text name c.args.prefix.now (history_of r) c.args.word.now) was was (Err _))
    (λ r. unread_word (revision_of c.args.word.now) (λ revision. archive_of name (history_of r) revision c.args.prefix.now) was c.in-Err.kind c.in-Err.ensures.revision))
