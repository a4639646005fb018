use Rattle.std.proofs.Common.{◌∙◌, ap, length, subst, rules}
use Rattle.std.proofs.lemmas.Result.{err_from_is_err_and}
use Rattle.std.specs.List.{filter}
use Rattle.std.proofs.lemmas.List.{length-map}
use Rattle.gx_model.specs.Histories.Marks.{holds}
use Rattle.gx_model.specs.Laws.RepositoryLaws.{values_of}
use Rattle.gx_model.specs.Records.HistoryOf.{history_of}
use Rattle.gx_model.specs.Replay.{peeled_at}
use Rattle.gx_model.proofs.Records.Standing.{as_many}
use Rattle.gx_export.specs.Branches.{picked, targets}
use Rattle.gx_export.specs.ChangedParts.{DeliversText, sending_front}
use Rattle.gx_model.specs.Export.{items_text}
use Rattle.gx_export.proofs.Numbering.{none_written}
use Rattle.gx_export.proofs.SayableCommits.{said, unsaid}
use Rattle.gx_export.proofs.SentMarks.{told_left}
use Rattle.gx_export.proofs.Writing.{nothing_yet}
use Rattle.gx_export.proofs.exporting_changes.write_sent.Goals as goal

pub returns-in_err-check_sayable : goal.returns-in_err-check_sayable
returns-in_err-check_sayable g c =
    let p = err_from_is_err_and c.from_residual.result c.from_residual.ensures.1 in
    let r = c.args.repo.now.1 in
    rw (p.1, p.2) (λ test wanted e f.
    let sent = picked test (values_of r) in
    let refs = filter (λ ref. wanted (peeled_at ref.1)) (history_of r).refs in
    unsaid sent (DeliversText (g.N.Namer.name_of c.args.repo.now.0) c.args.closed sent refs) (g.W.Sink.taken c.args.sink.now) c.in_err-check_sayable.field-0.0 (c.in_err-check_sayable.ensures test e))

pub returns-in_err-branches : goal.returns-in_err-branches
returns-in_err-branches g c =
    let p = err_from_is_err_and c.from_residual-in_err-branches.result c.from_residual-in_err-branches.ensures.1 in
    let r = c.args.repo.now.1 in
    rw (p.1, p.2)
    (λ test wanted e f. nothing_yet (g.W.Sink.taken c.args.sink.now) (items_text (sending_front (g.N.Namer.name_of c.args.repo.now.0) c.args.closed (picked test (values_of r)) (filter (λ ref. wanted (peeled_at ref.1)) (history_of r).refs))))

pub returns-in_err-marks : goal.returns-in_err-marks
returns-in_err-marks g c =
    let p = err_from_is_err_and c.from_residual-in_err-marks.result c.from_residual-in_err-marks.ensures.1 in
    let r = c.args.repo.now.1 in
    rw (p.1, p.2)
    (λ test wanted e f. nothing_yet (g.W.Sink.taken c.args.sink.now) (items_text (sending_front (g.N.Namer.name_of c.args.repo.now.0) c.args.closed (picked test (values_of r)) (filter (λ ref. wanted (peeled_at ref.1)) (history_of r).refs))))

pub new-requires : goal.new-requires
new-requires g c = let s = c.requires.set in ap length s.1 ∙ length-map (values_of c.args.repo.now.1) (holds s.0)

pub write_text-result-requires-clause-branches : goal.write_text-result-requires-clause-branches
write_text-result-requires-clause-branches g c = c.in_ok-branches.ensures.found

pub write_text-result-requires-clause-written : goal.write_text-result-requires-clause-written
write_text-result-requires-clause-written g c =
    let r = c.args.repo.now.1 in
    let new = c.new-written.ensures in
    let long = c.len.ensures.count ∙ ap (λ s. length s.1) c.store.ensures.held ∙ as_many (g.N.Namer.name_of c.args.repo.now.0) (g.met.N.Namer.is_namer c.args.repo.now.0) r c.store.ensures.sound in
    none_written r c.len.result c.new-written.result long new.bytes new.count (ap (λ m. m.items) new.marks ∙ c.in_ok-marks.ensures.items_if_clones_equal (λ y e. e))

pub returns : goal.returns
returns g c = λ test wanted e f.
    let r = c.args.repo.now.1 in
    let commits = picked test (values_of r) in
    let sends = DeliversText (g.N.Namer.name_of c.args.repo.now.0) c.args.closed commits in
    let set = ap (targets r) (c.in_ok-branches.ensures.refs wanted f) ∙ told_left r wanted r.refs in
    let refs = filter (λ ref. wanted (peeled_at ref.1)) (history_of r).refs in
    let was = c.new-written.result.output.taken in
    let now = c.write_text-result.new.written.output.taken in
    let result = c.write_text-result.result in
    let done = subst (λ rs. sends rs was now result) set (c.write_text-result.ensures.text test e) in
    let sent = subst (λ t. sends refs t now result) c.new-written.ensures.taken done in
    let out = said commits (sends refs) (g.W.Sink.taken c.args.sink.now) now result (λ k. k) (c.in_ok-check_sayable.ensures test e) sent in
    let left = c.into_sink.ensures.taken in
    search (rules, out, left)
