use Rattle.std.proofs.Common.{◌≡◌, ◌∙◌, ap, length, not, ◌&&◌, ◌||◌, Ok, Err, arith}
use Rattle.std.proofs.lemmas.List.{length-map, with_items_is}
use Rattle.std.proofs.lemmas.Result.{err_from_is_err_and}
use Rattle.gx_model.specs.Histories.Marks.{holds}
use Rattle.gx_model.specs.Laws.RangeLaws.{is_excluded}
use Rattle.gx_model.specs.Laws.RepositoryLaws.{values_of}
use Rattle.gx_model.specs.Records.HistoryOf.{history_of}
use Rattle.gx_rev.specs.Walking.{is_included}
use Rattle.gx_export.proofs.ChangesTexts.{range_sent}
use Rattle.gx_export.proofs.SentMarks.{either_marks, without_marks}
use Rattle.gx_export.proofs.exporting_changes.export_range.Goals as goal

pub write_sent-requires-clause-sent : goal.write_sent-requires-clause-sent
write_sent-requires-clause-sent g c =
    let r = c.args.repo.now.1 in
    let vs = values_of r in
    let w = c.in_ok-sent.ensures.marks in
    let P = is_included w.0 in
    let Q = is_excluded w.0 in
    let e = c.deref_mut.ensures.value ∙ w.2 in
    let f = c.deref_mut-2.ensures.value ∙ w.3 in
    let long : length c.part.new.sent ≡ c.in_ok-sent.sent.len = omega (arith, c.part.auto.sent, ap length c.deref_mut.ensures.value, c.in_ok-sent.sent.ok) in
    let sent = c.deref.ensures.value ∙ with_items_is c.in_ok-sent.sent c.part.new.sent long ∙ without_marks vs P Q c.deref_mut.result.now c.deref_mut-2.result.now e f c.part.new.sent c.part.auto.sent c.part.ensures.sent in
    (λ made. P made && not (Q made), sent)

pub write_sent-requires-clause-set : goal.write_sent-requires-clause-set
write_sent-requires-clause-set g c =
    let r = c.args.repo.now.1 in
    let vs = values_of r in
    let w = c.in_ok-sent.ensures.marks in
    let P = is_included w.0 in
    let Q = is_excluded w.0 in
    let e = c.deref_mut.ensures.value ∙ w.2 in
    let f = c.deref_mut-2.ensures.value ∙ w.3 in
    let wide : length c.part.new.set ≡ c.in_ok-sent.set.len = omega (arith, c.part.auto.set, ap length c.deref_mut-2.ensures.value, c.in_ok-sent.set.ok) in
    let many : length c.deref_mut.result.now ≡ length vs = ap length e ∙ length-map vs (holds P) in
    let others : length c.deref_mut-2.result.now ≡ length vs = ap length f ∙ length-map vs (holds Q) in
    let equal : length c.part.new.set ≡ length c.deref_mut.result.now = omega (arith, c.part.auto.set, many, others) in
    let set = c.deref-2.ensures.value ∙ with_items_is c.in_ok-sent.set c.part.new.set wide ∙ either_marks vs P Q c.deref_mut.result.now c.deref_mut-2.result.now e f c.part.new.set equal c.part.ensures.set in
    (λ made. P made || Q made, set)

pub returns-in_err-write_sent-clause-range : goal.returns-in_err-write_sent-clause-range
returns-in_err-write_sent-clause-range g c =
    let r = c.args.repo.now.1 in
    let vs = values_of r in
    let w = c.in_ok-sent.ensures.marks in
    let P = is_included w.0 in
    let Q = is_excluded w.0 in
    let e = c.deref_mut.ensures.value ∙ w.2 in
    let f = c.deref_mut-2.ensures.value ∙ w.3 in
    let long : length c.part.new.sent ≡ c.in_ok-sent.sent.len = omega (arith, c.part.auto.sent, ap length c.deref_mut.ensures.value, c.in_ok-sent.sent.ok) in
    let sent = c.deref.ensures.value ∙ with_items_is c.in_ok-sent.sent c.part.new.sent long ∙ without_marks vs P Q c.deref_mut.result.now c.deref_mut-2.result.now e f c.part.new.sent c.part.auto.sent c.part.ensures.sent in
    let wide : length c.part.new.set ≡ c.in_ok-sent.set.len = omega (arith, c.part.auto.set, ap length c.deref_mut-2.ensures.value, c.in_ok-sent.set.ok) in
    let many : length c.deref_mut.result.now ≡ length vs = ap length e ∙ length-map vs (holds P) in
    let others : length c.deref_mut-2.result.now ≡ length vs = ap length f ∙ length-map vs (holds Q) in
    let equal : length c.part.new.set ≡ length c.deref_mut.result.now = omega (arith, c.part.auto.set, many, others) in
    let set = c.deref-2.ensures.value ∙ with_items_is c.in_ok-sent.set c.part.new.set wide ∙ either_marks vs P Q c.deref_mut.result.now c.deref_mut-2.result.now e f c.part.new.set equal c.part.ensures.set in
    let fault = c.in_err-write_sent.field-0.0 in
    let p = err_from_is_err_and c.from_residual-in_err-write_sent.result c.from_residual-in_err-write_sent.ensures.1 in
    let stop = c.in_err-write_sent.ensures (λ made. P made && not (Q made)) (λ made. P made || Q made) sent set in
    rw (p.1, p.2) (w.0, w.1, range_sent (g.N.Namer.name_of c.args.repo.now.0) c.args.closed (history_of r) w.0 (g.W.Sink.taken c.args.sink.now) (g.W.Sink.taken c.write_sent.new.sink) (Err fault) stop)

pub returns-clause-range : goal.returns-clause-range
returns-clause-range g c =
    let r = c.args.repo.now.1 in
    let vs = values_of r in
    let w = c.in_ok-sent.ensures.marks in
    let P = is_included w.0 in
    let Q = is_excluded w.0 in
    let e = c.deref_mut.ensures.value ∙ w.2 in
    let f = c.deref_mut-2.ensures.value ∙ w.3 in
    let long : length c.part.new.sent ≡ c.in_ok-sent.sent.len = omega (arith, c.part.auto.sent, ap length c.deref_mut.ensures.value, c.in_ok-sent.sent.ok) in
    let sent = c.deref.ensures.value ∙ with_items_is c.in_ok-sent.sent c.part.new.sent long ∙ without_marks vs P Q c.deref_mut.result.now c.deref_mut-2.result.now e f c.part.new.sent c.part.auto.sent c.part.ensures.sent in
    let wide : length c.part.new.set ≡ c.in_ok-sent.set.len = omega (arith, c.part.auto.set, ap length c.deref_mut-2.ensures.value, c.in_ok-sent.set.ok) in
    let many : length c.deref_mut.result.now ≡ length vs = ap length e ∙ length-map vs (holds P) in
    let others : length c.deref_mut-2.result.now ≡ length vs = ap length f ∙ length-map vs (holds Q) in
    let equal : length c.part.new.set ≡ length c.deref_mut.result.now = omega (arith, c.part.auto.set, many, others) in
    let set = c.deref-2.ensures.value ∙ with_items_is c.in_ok-sent.set c.part.new.set wide ∙ either_marks vs P Q c.deref_mut.result.now c.deref_mut-2.result.now e f c.part.new.set equal c.part.ensures.set in
    let done = c.in_ok-write_sent.ensures (λ made. P made && not (Q made)) (λ made. P made || Q made) sent set in
    (w.0, w.1, range_sent (g.N.Namer.name_of c.args.repo.now.0) c.args.closed (history_of r) w.0 (g.W.Sink.taken c.args.sink.now) (g.W.Sink.taken c.write_sent.new.sink) (Ok tt) done)
