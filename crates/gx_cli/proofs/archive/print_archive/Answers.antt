use Rattle.std.proofs.Common.{ap, subst, sym}
use Rattle.gx_model.specs.Faults.{◌>>=◌}
use Rattle.gx_model.specs.Records.HistoryOf.{history_of}
use Rattle.gx_model.specs.Revisions.{revision_of}
use Rattle.gx_archive.specs.Archives.{archive_of}
use Rattle.gx_cli.specs.Answers.{Prints}
use Rattle.gx_print.specs.Stored.{only_word}
use Rattle.gx_cli.proofs.ArchivedWords.{unread_word}
use Rattle.gx_cli.proofs.archive.print_archive.Goals as goal

pub returns-in-Ok : goal.returns-in-Ok
returns-in-Ok g c =
    let r = c.args.repo.now in
    let given = ap (λ read. only_word (read >>= λ revision. archive_of (g.N.Namer.name_of r.0) (history_of r.1) revision c.args.prefix.now)) c.in-Ok.ensures.revision in
    subst (λ text. Prints text (g.W.Sink.taken c.args.sink.now) (g.W.Sink.taken c.archive_revision.new.sink) c.archive_revision.result) (sym given) c.archive_revision.ensures

pub returns-in-Err : goal.returns-in-Err
returns-in-Err g c =
    let r = c.args.repo.now in
    rw c.refused.ensures (unread_word (revision_of c.args.word.now) (λ revision. archive_of (g.N.Namer.name_of r.0) (history_of r.1) revision c.args.prefix.now) (g.W.Sink.taken c.args.sink.now) c.in-Err.kind c.in-Err.ensures.revision)
