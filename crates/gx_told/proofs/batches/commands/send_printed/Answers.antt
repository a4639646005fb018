use Rattle.std.proofs.Common.{Err, Some, [], ap, subst, ◌∙◌}
use Rattle.gx_text.specs.Lent.{lent_texts}
use Rattle.gx_told.specs.Batching.{having_taken}
use Rattle.gx_told.specs.Printing.{Prints}
use Rattle.gx_told.proofs.AnsweredCommands.{text_answered, word_answered}
use Rattle.gx_told.proofs.batches.commands.send_printed.Goals as goal

pub returns-in-Ok : goal.returns-in-Ok
returns-in-Ok g c = λ given printed.
    text_answered c.args.command.now (lent_texts c.args.words.now) given (g.W.Sink.taken c.args.sink.now) (g.W.Sink.taken c.reply.new.sink) c.reply.result c.args.made c.deref.result.now c.in-Ok.field-0
    (subst (Prints given (Some (having_taken [])) (Some c.args.made)) c.in-Ok.is printed) (c.deref.ensures.value ∙ c.into_bytes.ensures) c.reply.ensures

pub returns-in-Err-Revision : goal.returns-in-Err-Revision
returns-in-Err-Revision g c = λ given printed.
    word_answered c.args.command.now (lent_texts c.args.words.now) given (g.W.Sink.taken c.args.sink.now) (g.W.Sink.taken c.send_line.new.sink) c.send_line.result (Some (having_taken [])) (Some c.args.made) c.in-Err-Revision.number c.in-Err-Revision.kind c.word_at.result.now c.reason_of.result.now
    (subst (Prints given (Some (having_taken [])) (Some c.args.made)) (c.in-Err-Revision.is ∙ ap Err (rw c.in-Err-Revision.is at c.in-Err-Revision.field-0-is)) printed) c.word_at.ensures c.reason_of.ensures c.send_line.ensures
