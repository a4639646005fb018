use Rattle.std.proofs.Common.{◌++◌, ◌∙◌, Err, ap, subst}
use Rattle.std.specs.Prelude.{IfSome}
use Rattle.std.proofs.lemmas.Result.{err_from_is_err_and}
use Rattle.gx_print.specs.Logs.{count_text}
use Rattle.gx_told.specs.Choosing.{AreSoMany}
use Rattle.gx_told.specs.Printing.{PrintsText}
use Rattle.gx_told.specs.declared.fault.ToldFault.TheVariants.{OutOfMemory}
use Rattle.gx_told.proofs.Prints.{none_sent, sent_prints}
use Rattle.gx_told.proofs.WalkedCommits.{chosen_stops, count_printed}
use Rattle.gx_told.proofs.log.walks.print_count.Goals as goal

pub returns-in_err-count : goal.returns-in_err-count
returns-in_err-count g c =
    let p = err_from_is_err_and c.from_residual.result c.from_residual.ensures.1 in
    let o = c.args.objects.now in
    rw (p.1, p.2) (chosen_stops (g.O.Objects.name_of o) c.args.options (g.O.Objects.stands o) c.args.walk.now (g.W.Sink.taken c.args.sink.now) (g.O.Objects.told o) c.in_err-count.field-0.0 c.in_err-count.ensures.fault)

pub returns-in_err-put_count : goal.returns-in_err-put_count
returns-in_err-put_count g c =
    let p = err_from_is_err_and c.from_residual-in_err-put_count.result c.from_residual-in_err-put_count.ensures.1 in
    let o = c.args.objects.now in
    let name = g.O.Objects.name_of o in
    let many = subst (λ choice. IfSome (g.O.Objects.told o) (λ r. AreSoMany name (g.O.Objects.stands o) c.args.walk.now choice r c.in_ok-count.count)) c.of.ensures c.in_ok-count.ensures.count in
    let was = g.W.Sink.taken c.args.sink.now in
    rw (p.1, p.2) (count_printed (g.O.Objects.name_of o) c.args.options (g.O.Objects.stands o) c.args.walk.now was c.requires.count (g.O.Objects.told o) c.in_ok-count.count was (Err OutOfMemory) many (none_sent (count_text c.in_ok-count.count) was))

pub returns : goal.returns
returns g c =
    let o = c.args.objects.now in
    let name = g.O.Objects.name_of o in
    let many = subst (λ choice. IfSome (g.O.Objects.told o) (λ r. AreSoMany name (g.O.Objects.stands o) c.args.walk.now choice r c.in_ok-count.count)) c.of.ensures c.in_ok-count.ensures.count in
    let was = g.W.Sink.taken c.args.sink.now in
    let now = g.W.Sink.taken c.put_text.new.sink in
    let answer = c.put_text.result in
    let text = c.as_slice.ensures.value ∙ c.in_ok-put_count.ensures ∙ ap (λ front. front ++ count_text c.in_ok-count.count) c.new-text.ensures.items in
    count_printed (g.O.Objects.name_of o) c.args.options (g.O.Objects.stands o) c.args.walk.now was c.requires.count (g.O.Objects.told o) c.in_ok-count.count now answer many
    (subst (λ made. PrintsText made was now answer) text (sent_prints c.as_slice.result.now was now answer c.put_text.ensures))
