use Rattle.std.proofs.Common.{◌++◌, ap, subst, ◌∙◌}
use Rattle.std.proofs.lemmas.Result.{err_from_is_err_and}
use Rattle.gx_print.specs.Logs.{count_text}
use Rattle.gx_cli.specs.Sending.{PrintsText}
use Rattle.gx_cli.proofs.CommitEntries.{none_printed}
use Rattle.gx_cli.proofs.Pieces.{sent_prints}
use Rattle.gx_cli.proofs.log.formats.print_count.Goals as goal

pub returns-in_err-put_count : goal.returns-in_err-put_count
returns-in_err-put_count g c =
    let p = err_from_is_err_and c.from_residual.result c.from_residual.ensures.1 in
    rw (p.1, p.2) (none_printed (count_text c.args.count) (g.W.Sink.taken c.args.sink.now))

pub returns : goal.returns
returns g c =
    let was = g.W.Sink.taken c.args.sink.now in
    let now = g.W.Sink.taken c.put_text.new.sink in
    let text = c.as_slice.ensures.value ∙ c.in_ok-put_count.ensures ∙ ap (λ front. front ++ count_text c.args.count) c.new-text.ensures.items in
    subst (λ made. PrintsText made was now c.put_text.result) text (sent_prints c.as_slice.result.now was now c.put_text.result c.put_text.ensures)
