use Rattle.std.proofs.Common.{Ok, Err, sym, subst}
use Rattle.std.specs.Option.{option_map}
use Rattle.std.proofs.lemmas.Result.{err_from_is_err_and}
use Rattle.gx_model.specs.Texts.Sinks.{Took}
use Rattle.gx_stream.specs.Heard.{heard}
use Rattle.gx_batch.specs.Batches.{Sent}
use Rattle.gx_batch.specs.Reading.{Reads, shown_reader}
use Rattle.gx_batch.proofs.Answering.{Goes, answered, goes_on, not_begun, of_source, starts, unanswered, unread}
use Rattle.gx_batch.proofs.answerer.answer_lines.Goals as goal

pub returns-in_err-lines : goal.returns-in_err-lines
returns-in_err-lines g c =
    let p = err_from_is_err_and c.from_residual.result c.from_residual.ensures.1 in
    let answer = g.T.Answerer.answer_to c.args.answerer.now in
    let coming = g.R.Source.coming c.args.source in
    let was = g.W.Sink.taken c.args.sink.now in
    rw (p.1, p.2) (of_source answer c.args.ending coming was was _ (not_begun answer c.args.ending (option_map heard coming) was))

pub loop-buffer-init : goal.loop-buffer-init
loop-buffer-init g c =
    let answer = g.T.Answerer.answer_to c.args.answerer.now in
    let start = option_map heard (g.R.Source.coming c.args.source) in
    let was = g.W.Sink.taken c.args.sink.now in
    record {
      sound = c.in_ok-lines.ensures.sound;
      goes = subst (λ here. Goes answer c.args.ending start here was was) (sym c.in_ok-lines.ensures.seen) (starts answer c.args.ending start was);
    }

pub loop-buffer-preserved : goal.loop-buffer-preserved
loop-buffer-preserved g c =
    let answer = g.T.Answerer.answer_to c.args.answerer.now in
    let start = option_map heard (g.R.Source.coming c.args.source) in
    let here = shown_reader c.loop-buffer.lines (g.R.Source.coming c.loop-buffer.lines.source) in
    let next = shown_reader c.next.new.self (g.R.Source.coming c.next.new.self.source) in
    let line = c.next.new.line.items in
    let was = g.W.Sink.taken c.args.sink.now in
    let mid = g.W.Sink.taken c.loop-buffer.sink in
    let now = g.W.Sink.taken c.answer.new.sink in
    let read = subst (λ more. Reads c.args.ending here next line (Ok more)) c.if-branch.true c.in_ok-next.ensures.reads in
    record {
      sound = c.next.ensures.sound;
      goes = goes_on answer c.args.ending start here next was mid now line c.loop-buffer.invariant.goes read (subst (λ bs. Took mid now (answer bs)) c.deref.ensures.value c.in_ok-answer.ensures);
    }

pub returns-in_err-answer : goal.returns-in_err-answer
returns-in_err-answer g c =
    let p = err_from_is_err_and c.from_residual-in_err-answer.result c.from_residual-in_err-answer.ensures.1 in
    let answer = g.T.Answerer.answer_to c.args.answerer.now in
    let coming = g.R.Source.coming c.args.source in
    let start = option_map heard coming in
    let here = shown_reader c.loop-buffer.lines (g.R.Source.coming c.loop-buffer.lines.source) in
    let next = shown_reader c.next.new.self (g.R.Source.coming c.next.new.self.source) in
    let line = c.next.new.line.items in
    let was = g.W.Sink.taken c.args.sink.now in
    let mid = g.W.Sink.taken c.loop-buffer.sink in
    let now = g.W.Sink.taken c.answer.new.sink in
    let fault = c.in_err-answer.field-0.0 in
    let read = subst (λ more. Reads c.args.ending here next line (Ok more)) c.if-branch.true c.in_ok-next.ensures.reads in
    let sent = subst (λ bs. Sent (answer bs) mid now (Err fault)) c.deref.ensures.value c.in_err-answer.ensures in
    rw (p.1, p.2) (of_source answer c.args.ending coming was now (Err fault) (unanswered answer c.args.ending start here next was mid now line fault c.loop-buffer.invariant.goes read sent))

pub returns-in_err-next : goal.returns-in_err-next
returns-in_err-next g c =
    let p = err_from_is_err_and c.from_residual-in_err-next.result c.from_residual-in_err-next.ensures.1 in
    let answer = g.T.Answerer.answer_to c.args.answerer.now in
    let coming = g.R.Source.coming c.args.source in
    let here = shown_reader c.loop-buffer.lines (g.R.Source.coming c.loop-buffer.lines.source) in
    let next = shown_reader c.next.new.self (g.R.Source.coming c.next.new.self.source) in
    let was = g.W.Sink.taken c.args.sink.now in
    let now = g.W.Sink.taken c.loop-buffer.sink in
    let fault = c.in_err-next.field-0.0 in
    rw (p.1, p.2) (of_source answer c.args.ending coming was now (Err fault) (unread answer c.args.ending (option_map heard coming) here next was now c.next.new.line.items fault c.loop-buffer.invariant.goes c.in_err-next.ensures.reads))

pub returns : goal.returns
returns g c =
    let answer = g.T.Answerer.answer_to c.args.answerer.now in
    let coming = g.R.Source.coming c.args.source in
    let here = shown_reader c.loop-buffer.lines (g.R.Source.coming c.loop-buffer.lines.source) in
    let next = shown_reader c.next.new.self (g.R.Source.coming c.next.new.self.source) in
    let line = c.next.new.line.items in
    let was = g.W.Sink.taken c.args.sink.now in
    let now = g.W.Sink.taken c.loop-buffer.sink in
    let read = subst (λ more. Reads c.args.ending here next line (Ok more)) c.if-branch.false c.in_ok-next.ensures.reads in
    of_source answer c.args.ending coming was now (Ok tt) (answered answer c.args.ending (option_map heard coming) here next was now line c.loop-buffer.invariant.goes read)
