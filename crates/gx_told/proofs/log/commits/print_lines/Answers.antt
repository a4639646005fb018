use Rattle.std.proofs.Common.{Err, [], drop, get_or, subst, ◌+◌, ◌∙◌}
use Rattle.std.proofs.lemmas.List.{drop_more}
use Rattle.std.proofs.lemmas.Result.{err_from_is_err_and}
use Rattle.gx_model.specs.Texts.Sinks.{Took}
use Rattle.gx_model.proofs.Texts.SentTexts.{IsLeft, less_left}
use Rattle.gx_told.specs.Logging.{name_line, name_lines}
use Rattle.gx_told.specs.Printing.{PrintsText}
use Rattle.gx_told.proofs.Pieces.{cut_short}
use Rattle.gx_told.proofs.Prints.{sent_prints}
use Rattle.gx_told.proofs.log.commits.print_lines.Goals as goal

pub loop-name-preserved : goal.loop-name-preserved
loop-name-preserved g c =
    let names = c.args.names.now in
    let i = c.loop-name.name-index in
    let was = g.W.Sink.taken c.args.sink.now in
    let mid = g.W.Sink.taken c.loop-name.sink in
    let now = g.W.Sink.taken c.put_text.new.sink in
    let called = (get_or names i (record { bytes = [] })).bytes in
    let left = subst (λ ns. IsLeft (name_lines names) was mid (name_lines ns)) (drop_more names i (record { bytes = [] }) c.loop-name-test.true) c.loop-name.invariant in
    less_left (name_lines names) was mid now (name_line called) (name_lines (drop (i + 1) names)) left (subst (Took mid now) (c.as_slice.ensures ∙ c.name_line.ensures) c.in_ok-put_text.ensures)

pub returns-in_err-put_text : goal.returns-in_err-put_text
returns-in_err-put_text g c =
    let p = err_from_is_err_and c.from_residual.result c.from_residual.ensures.1 in
    let names = c.args.names.now in
    let i = c.loop-name.name-index in
    let was = g.W.Sink.taken c.args.sink.now in
    let mid = g.W.Sink.taken c.loop-name.sink in
    let now = g.W.Sink.taken c.put_text.new.sink in
    let called = (get_or names i (record { bytes = [] })).bytes in
    let left = subst (λ ns. IsLeft (name_lines names) was mid (name_lines ns)) (drop_more names i (record { bytes = [] }) c.loop-name-test.true) c.loop-name.invariant in
    let fault = c.in_err-put_text.field-0.0 in
    let sent = sent_prints c.as_slice.result.now mid now (Err fault) c.in_err-put_text.ensures in
    rw (p.1, p.2) (cut_short was mid now (name_lines names) (name_line called) (name_lines (drop (i + 1) names)) fault left (subst (λ text. PrintsText text mid now (Err fault)) (c.as_slice.ensures ∙ c.name_line.ensures) sent))
