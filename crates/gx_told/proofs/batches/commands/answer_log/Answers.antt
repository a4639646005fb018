use Rattle.std.proofs.Common.{List, Some, ap, subst, ◌∙◌}
use Rattle.std.specs.Prelude.{codes}
use Rattle.gx_model.specs.Histories.{Records}
use Rattle.gx_model.specs.Records.HistoryOf.{history_of}
use Rattle.gx_model.specs.Texts.{Bytes}
use Rattle.gx_batch.specs.Answers.{reason}
use Rattle.gx_text.specs.Lent.{lent_texts}
use Rattle.gx_print.specs.Asking.{answered_by, no_options}
use Rattle.gx_print.specs.Logs.{log_text}
use Rattle.gx_print.specs.Stored.{Printed}
use Rattle.gx_print.specs.Words.{words_in}
use Rattle.gx_told.specs.Batching.{SendsAnswer}
use Rattle.gx_told.specs.Printing.{Prints}
use Rattle.gx_told.proofs.Tellings.{map_told}
use Rattle.gx_told.proofs.batches.commands.answer_log.Goals as goal

pub returns : goal.returns
returns g c =
    let told = g.O.Objects.told c.args.objects.now in
    let name = g.O.Objects.name_of c.args.objects.now in
    let was = g.W.Sink.taken c.args.sink.now in
    let now = g.W.Sink.taken c.send_printed.new.sink in
    let answer = c.send_printed.result in
    let words = lent_texts c.as_slice-words.result.now in
    let given : Records → List Bytes → Printed = λ r ws. log_text name no_options (history_of r) ws in
    map_told told (λ r. Prints (given r words) (Some c.new-made.result) (Some c.log-printed.new.sink) c.log-printed.result)
    (λ r. SendsAnswer (answered_by reason (codes "log") (words_in c.args.rest.now) (given r (words_in c.args.rest.now))) was now answer)
    (λ r h.
    let printed = subst (λ empty. Prints (given r words) (Some empty) (Some c.log-printed.new.sink) c.log-printed.result) c.new-made.ensures h in
    subst (λ ws. SendsAnswer (answered_by reason (codes "log") ws (given r ws)) was now answer) (ap lent_texts c.as_slice-words.ensures.value ∙ c.in_ok-words.ensures) (c.send_printed.ensures (given r words) printed)) c.log-printed.ensures
