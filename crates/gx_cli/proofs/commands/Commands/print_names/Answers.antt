use Rattle.std.proofs.Common.{List, Some, ap, subst, ◌∙◌}
use Rattle.std.specs.Prelude.{codes}
use Rattle.gx_model.specs.Records.HistoryOf.{history_of}
use Rattle.gx_model.specs.Texts.{Bytes}
use Rattle.gx_batch.specs.Batches.{Sent}
use Rattle.gx_text.specs.Lent.{lent_texts}
use Rattle.gx_cli.specs.Answers.{Prints}
use Rattle.gx_cli.specs.Commanding.{answered}
use Rattle.gx_print.specs.Stored.{Printed, names_text}
use Rattle.gx_cli.proofs.commands.Commands.print_names.Goals as goal

pub returns : goal.returns
returns g c =
    let r = c.args.self.now.repo.now in
    let given : List Bytes → Printed = λ ws. names_text (g.N.Namer.name_of r.0) (history_of r.1) ws in
    let printed = subst (λ empty. Prints (given (lent_texts c.as_slice-words.result.now)) (Some empty) (Some c.print_names-printed.new.sink) c.print_names-printed.result) c.new-made.ensures c.print_names-printed.ensures in
    subst (λ ws. Sent (answered (codes "rev-parse") ws (given ws)) (g.W.Sink.taken c.args.sink.now) (g.W.Sink.taken c.send_printed.new.sink) c.send_printed.result) (ap lent_texts c.as_slice-words.ensures.value ∙ c.in_ok-words.ensures)
    (c.send_printed.ensures (given (lent_texts c.as_slice-words.result.now)) printed)
