use Rattle.std.proofs.Common.{Bor, ◌+◌, [], drop, get_or}
use Rattle.std.specs.List.{flat_map}
use Rattle.std.proofs.lemmas.List.{drop_more}
use Rattle.std.proofs.lemmas.Result.{err_from_is_err_and}
use Rattle.gx_model.specs.Texts.{Bytes}
use Rattle.gx_model.proofs.Texts.SentTexts.{left_fails, less_left}
use Rattle.gx_marks.proofs.SentMarks.{next_left}
use Rattle.gx_marks.proofs.writing.send_all.Goals as goal

pub loop-part-preserved : goal.loop-part-preserved
loop-part-preserved g c =
    let text = λ (part : Bor Bytes). part.now in
    let parts = c.args.parts.now in
    let place = c.loop-part.part-index in
    let part = get_or parts place (record { ref_ptr = (0, 0); now = [] }) in
    let was = g.W.Sink.taken c.args.sink.now in
    let mid = g.W.Sink.taken c.loop-part.sink in
    let left = next_left text (flat_map text parts) was mid parts place part (drop_more parts place (record { ref_ptr = (0, 0); now = [] }) c.loop-part-test.true) c.loop-part.invariant in
    less_left (flat_map text parts) was mid (g.W.Sink.taken c.send_text.new.sink) part.now (flat_map text (drop (place + 1) parts)) left c.in_ok-send_text.ensures

pub returns-in_err-send_text : goal.returns-in_err-send_text
returns-in_err-send_text g c =
    let p = err_from_is_err_and c.from_residual.result c.from_residual.ensures.1 in
    let text = λ (part : Bor Bytes). part.now in
    let parts = c.args.parts.now in
    let place = c.loop-part.part-index in
    let part = get_or parts place (record { ref_ptr = (0, 0); now = [] }) in
    let was = g.W.Sink.taken c.args.sink.now in
    let mid = g.W.Sink.taken c.loop-part.sink in
    let left = next_left text (flat_map text parts) was mid parts place part (drop_more parts place (record { ref_ptr = (0, 0); now = [] }) c.loop-part-test.true) c.loop-part.invariant in
    rw p.1 (left_fails (flat_map text parts) was mid (g.W.Sink.taken c.send_text.new.sink) part.now (flat_map text (drop (place + 1) parts)) left c.in_err-send_text.ensures)
