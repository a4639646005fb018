use Rattle.std.proofs.Common.{◌∙◌, ap, length, subst, rules}
use Rattle.std.proofs.lemmas.Result.{err_from_is_err_and}
use Rattle.gx_model.specs.Records.HistoryOf.{history_of}
use Rattle.gx_model.proofs.Records.Standing.{as_many}
use Rattle.gx_model.specs.Export.{reached_commits}
use Rattle.gx_rev.specs.Reached.{is_wanted}
use Rattle.gx_export.specs.Exports.{SendsExport, commits_text}
use Rattle.gx_export.proofs.Numbering.{none_written}
use Rattle.gx_export.proofs.SayableCommits.{said, unsaid}
use Rattle.gx_export.proofs.Writing.{nothing_yet}
use Rattle.gx_export.proofs.exporting.export.Goals as goal

pub returns-in_err-reached : goal.returns-in_err-reached
returns-in_err-reached g c =
    let p = err_from_is_err_and c.from_residual.result c.from_residual.ensures.1 in
    rw (p.1, p.2) (nothing_yet (g.W.Sink.taken c.args.sink.now) (commits_text (history_of c.args.repo.now.1)))

pub check_sayable-requires : goal.check_sayable-requires
check_sayable-requires g c = (is_wanted c.args.repo.now.1, c.deref.ensures.value ∙ c.in_ok-reached.ensures)

pub returns-in_err-check_sayable : goal.returns-in_err-check_sayable
returns-in_err-check_sayable g c =
    let r = c.args.repo.now.1 in
    let p = err_from_is_err_and c.from_residual-in_err-check_sayable.result c.from_residual-in_err-check_sayable.ensures.1 in
    rw (p.1, p.2) (unsaid (reached_commits (history_of r)) (SendsExport r) (g.W.Sink.taken c.args.sink.now) c.in_err-check_sayable.field-0.0
    (c.in_err-check_sayable.ensures (is_wanted r) (c.deref.ensures.value ∙ c.in_ok-reached.ensures)))

pub returns-in_err-marks : goal.returns-in_err-marks
returns-in_err-marks g c =
    let p = err_from_is_err_and c.from_residual-in_err-marks.result c.from_residual-in_err-marks.ensures.1 in
    rw (p.1, p.2) (nothing_yet (g.W.Sink.taken c.args.sink.now) (commits_text (history_of c.args.repo.now.1)))

pub write_text-result-requires-clause-begins : goal.write_text-result-requires-clause-begins
write_text-result-requires-clause-begins g c =
    let r = c.args.repo.now.1 in
    let new = c.new-written.ensures in
    let long = c.len.ensures.count ∙ ap (λ s. length s.1) c.store.ensures.held ∙ as_many (g.N.Namer.name_of c.args.repo.now.0) (g.met.N.Namer.is_namer c.args.repo.now.0) r c.store.ensures.sound in
    record { reached = c.deref-2.ensures.value ∙ c.in_ok-reached.ensures; written = none_written r c.len.result c.new-written.result long new.bytes new.count (ap (λ m. m.items) new.marks ∙ c.in_ok-marks.ensures.items_if_clones_equal (λ y e. e)) }

pub returns : goal.returns
returns g c =
    let r = c.args.repo.now.1 in
    let was = g.W.Sink.taken c.args.sink.now in
    let now = c.write_text-result.new.written.output.taken in
    let sent = subst (λ t. SendsExport r t now c.write_text-result.result) c.new-written.ensures.taken c.write_text-result.ensures.text in
    let alone = c.in_ok-check_sayable.ensures (is_wanted r) (c.deref.ensures.value ∙ c.in_ok-reached.ensures) in
    let out = said (reached_commits (history_of r)) (SendsExport r) was now c.write_text-result.result (λ k. k) alone sent in
    let left = c.into_sink.ensures.taken in
    search (rules, out, left)
