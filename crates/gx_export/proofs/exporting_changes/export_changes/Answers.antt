use Rattle.std.proofs.Common.{◌∙◌}
use Rattle.std.proofs.lemmas.Result.{err_from_is_err_and}
use Rattle.gx_model.specs.Export.{items_text, reached_commits}
use Rattle.gx_model.specs.Records.HistoryOf.{history_of}
use Rattle.gx_rev.specs.Reached.{is_wanted}
use Rattle.gx_export.specs.ChangedParts.{sending_front}
use Rattle.gx_export.proofs.ChangesTexts.{whole_sent}
use Rattle.gx_export.proofs.Writing.{nothing_yet}
use Rattle.gx_export.proofs.exporting_changes.export_changes.Goals as goal

pub returns-in_err-reached : goal.returns-in_err-reached
returns-in_err-reached g c =
    let p = err_from_is_err_and c.from_residual.result c.from_residual.ensures.1 in
    let h = history_of c.args.repo.now.1 in
    rw (p.1, p.2) (nothing_yet (g.W.Sink.taken c.args.sink.now) (items_text (sending_front (g.N.Namer.name_of c.args.repo.now.0) c.args.closed (reached_commits h) h.refs)))

pub write_sent-requires-clause-sent : goal.write_sent-requires-clause-sent
write_sent-requires-clause-sent g c = (is_wanted c.args.repo.now.1, c.deref.ensures.value ∙ c.in_ok-reached.ensures)

pub write_sent-requires-clause-set : goal.write_sent-requires-clause-set
write_sent-requires-clause-set g c = (is_wanted c.args.repo.now.1, c.deref-2.ensures.value ∙ c.in_ok-reached.ensures)

pub returns : goal.returns
returns g c =
    let r = c.args.repo.now.1 in
    whole_sent (g.N.Namer.name_of c.args.repo.now.0) c.args.closed r (g.W.Sink.taken c.args.sink.now) (g.W.Sink.taken c.write_sent.new.sink) c.write_sent.result
    (c.write_sent.ensures (is_wanted r) (is_wanted r) (c.deref.ensures.value ∙ c.in_ok-reached.ensures) (c.deref-2.ensures.value ∙ c.in_ok-reached.ensures))
