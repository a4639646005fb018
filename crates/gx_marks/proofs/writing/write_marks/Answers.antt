use Rattle.std.proofs.Common.{◌+◌, [], drop, get_or, subst}
use Rattle.std.proofs.lemmas.List.{drop_more}
use Rattle.std.proofs.lemmas.Result.{err_from_is_err_and}
use Rattle.gx_model.proofs.Texts.SentTexts.{IsLeft, left_fails, less_left}
use Rattle.gx_marks.specs.Marks.{mark_line, marks_text}
use Rattle.gx_marks.specs.Shown.{shown_mark, shown_marks}
use Rattle.gx_marks.specs.declared.mark.Mark.{Mark}
use Rattle.gx_marks.proofs.writing.write_marks.Goals as goal

-- what a slice has past its end
abbrev past : Mark
past = record { number = 0; name = record { bytes = [] } }

pub loop-mark-preserved : goal.loop-mark-preserved
loop-mark-preserved g c =
    let marks = c.args.marks.now in
    let place = c.loop-mark.mark-index in
    let mark = get_or marks place past in
    let was = g.W.Sink.taken c.args.sink.now in
    let mid = g.W.Sink.taken c.loop-mark.sink in
    let whole = marks_text (shown_marks marks) in
    let left = subst (λ ms. IsLeft whole was mid (marks_text (shown_marks ms))) (drop_more marks place past c.loop-mark-test.true) c.loop-mark.invariant in
    less_left whole was mid (g.W.Sink.taken c.write_mark.new.sink) (mark_line (shown_mark mark)) (marks_text (shown_marks (drop (place + 1) marks))) left c.in_ok-write_mark.ensures

pub returns-in_err-write_mark : goal.returns-in_err-write_mark
returns-in_err-write_mark g c =
    let p = err_from_is_err_and c.from_residual.result c.from_residual.ensures.1 in
    let marks = c.args.marks.now in
    let place = c.loop-mark.mark-index in
    let mark = get_or marks place past in
    let was = g.W.Sink.taken c.args.sink.now in
    let mid = g.W.Sink.taken c.loop-mark.sink in
    let whole = marks_text (shown_marks marks) in
    let left = subst (λ ms. IsLeft whole was mid (marks_text (shown_marks ms))) (drop_more marks place past c.loop-mark-test.true) c.loop-mark.invariant in
    rw p.1 (left_fails whole was mid (g.W.Sink.taken c.write_mark.new.sink) (mark_line (shown_mark mark)) (marks_text (shown_marks (drop (place + 1) marks))) left c.in_err-write_mark.ensures)
