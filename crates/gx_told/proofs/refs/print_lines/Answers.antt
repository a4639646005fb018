use Rattle.std.proofs.Common.{◌≤◌, ap, arith, length, map, subst, ◌∙◌}
use Rattle.std.proofs.lemmas.Result.{err_from_is_err_and}
use Rattle.gx_tips.specs.Tips.{shown_tip}
use Rattle.gx_told.specs.Filtering.{shown_text}
use Rattle.gx_told.specs.Printing.{PrintsText}
use Rattle.gx_told.proofs.FilteredRefs.{all_lines, one_line}
use Rattle.gx_told.proofs.Prints.{none_sent, sent_prints}
use Rattle.gx_told.proofs.refs.print_lines.Goals as goal

pub loop-tip-preserved : goal.loop-tip-preserved
loop-tip-preserved g c =
    let l = c.loop-tip in
    one_line c.args.refs.now l.tip-index _ l.text.items c.put_ref.new.lines.items c.loop-tip-test.true l.invariant c.in_ok-put_ref.ensures

pub returns : goal.returns
returns g c =
    let l = c.loop-tip in
    let refs = c.args.refs.now in
    let past : length refs ≤ l.tip-index = omega (arith, c.loop-tip-test.false) in
    let text = c.as_slice.ensures.value ∙ l.invariant ∙ ap (λ xs. shown_text (map shown_tip xs)) (all_lines refs l.tip-index past) in
    let was = g.W.Sink.taken c.args.sink.now in
    let now = g.W.Sink.taken c.put_text.new.sink in
    subst (λ t. PrintsText t was now c.put_text.result) text (sent_prints c.as_slice.result.now was now c.put_text.result c.put_text.ensures)

pub returns-in_err-put_ref : goal.returns-in_err-put_ref
returns-in_err-put_ref g c =
    let p = err_from_is_err_and c.from_residual.result c.from_residual.ensures.1 in
    rw (p.1, p.2) (none_sent (shown_text (map shown_tip c.args.refs.now)) (g.W.Sink.taken c.args.sink.now))
