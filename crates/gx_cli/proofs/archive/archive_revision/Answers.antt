use Rattle.std.proofs.Common.{Ok, Err, subst, sym}
use Rattle.gx_model.specs.Records.HistoryOf.{history_of}
use Rattle.gx_archive.specs.Archives.{archive_of}
use Rattle.gx_cli.specs.Answers.{Prints}
use Rattle.gx_print.specs.Stored.{only_word}
use Rattle.gx_cli.proofs.ArchivedWords.{archive_printed}
use Rattle.gx_cli.proofs.archive.archive_revision.Goals as goal

pub returns-in-Ok : goal.returns-in-Ok
returns-in-Ok g c =
    let r = c.args.repo.now in
    archive_printed (archive_of (g.N.Namer.name_of r.0) (history_of r.1) c.args.revision.now c.args.prefix.now) (g.W.Sink.taken c.args.sink.now) (g.W.Sink.taken c.archive.new.sink) (Ok c.in-Ok.field-0) c.in-Ok.ensures

pub returns-in-Err : goal.returns-in-Err
returns-in-Err g c =
    let r = c.args.repo.now in
    let was = g.W.Sink.taken c.args.sink.now in
    let now = g.W.Sink.taken c.archive.new.sink in
    let given = archive_of (g.N.Namer.name_of r.0) (history_of r.1) c.args.revision.now c.args.prefix.now in
    subst (λ fault. Prints (only_word given) was now (Err fault)) (sym c.from.ensures) (archive_printed given was now (Err c.in-Err.fault) c.in-Err.ensures)
