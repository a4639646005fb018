use Rattle.std.proofs.Common.{codes, [], ◌∷◌, ◌++◌, Err}
use Rattle.std.proofs.lemmas.Result.{err_from_is_err_and}
use Rattle.gx_model.proofs.Texts.SentTexts.{took_both}
use Rattle.gx_import.proofs.ProgressTexts.{writes_later, writes_sooner}
use Rattle.gx_import.proofs.replay.apply_progress.Goals as goal

pub returns-in_err-write : goal.returns-in_err-write
returns-in_err-write g c =
    let p = err_from_is_err_and c.from_residual.result c.from_residual.ensures.1 in
    let taken = g.W.Sink.taken in
    rw (p.1, p.2) (writes_sooner (taken c.args.sink.now) (taken c.write.new.sink) (codes "progress ") (c.args.text.now ++ 10 ∷ []) c.in_err-write.field-0.0 c.in_err-write.ensures)

pub returns-in_err-write-2 : goal.returns-in_err-write-2
returns-in_err-write-2 g c =
    let p = err_from_is_err_and c.from_residual-in_err-write-2.result c.from_residual-in_err-write-2.ensures.1 in
    let taken = g.W.Sink.taken in
    let k = writes_sooner (taken c.write.new.sink) (taken c.write-2.new.sink) c.args.text.now (10 ∷ []) c.in_err-write-2.field-0.0 c.in_err-write-2.ensures in
    rw (p.1, p.2) (writes_later (taken c.args.sink.now) (taken c.write.new.sink) (taken c.write-2.new.sink) (codes "progress ") (c.args.text.now ++ 10 ∷ []) (Err c.in_err-write-2.field-0.0) c.in_ok-write.ensures k)

pub returns : goal.returns
returns g c =
    let taken = g.W.Sink.taken in
    let k = took_both (taken c.args.sink.now) (taken c.write.new.sink) (taken c.write-2.new.sink) (codes "progress ") c.args.text.now c.in_ok-write.ensures c.in_ok-write-2.ensures in
    writes_later (taken c.args.sink.now) (taken c.write-2.new.sink) (taken c.write-3.new.sink) (codes "progress " ++ c.args.text.now) (10 ∷ []) c.write-3.result k c.write-3.ensures
