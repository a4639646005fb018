use Rattle.std.proofs.Common.{Ok, Err, sym, subst}
use Rattle.std.specs.Option.{option_map}
use Rattle.std.specs.Prelude.{IfSome}
use Rattle.std.proofs.lemmas.Result.{err_from_is_err_and}
use Rattle.gx_model.specs.Texts.Sinks.{Took}
use Rattle.gx_stream.specs.Heard.{heard}
use Rattle.gx_batch.specs.Reading.{Reads, shown_reader}
use Rattle.gx_batch.proofs.Answering.{Goes, answered, goes_on, not_begun, of_source, starts, unread}
use Rattle.gx_told.specs.Batching.{AnswersBatch, SendsAnswer, line_answer}
use Rattle.gx_told.proofs.AnsweredLines.{stopped_lines, unread_lines}
use Rattle.gx_told.proofs.Tellings.{both_told, each_told, map_told}
use Rattle.gx_told.proofs.batches.batch.Goals as goal

pub returns-in_err-lines : goal.returns-in_err-lines
returns-in_err-lines g c =
    let p = err_from_is_err_and c.from_residual.result c.from_residual.ensures.1 in
    let told = g.O.Objects.told c.args.objects.now in
    let name = g.O.Objects.name_of c.args.objects.now in
    let coming = g.R.Source.coming c.args.source in
    let was = g.W.Sink.taken c.args.sink.now in
    rw (p.1, p.2) (each_told told _ (λ r.
    let answer = line_answer name c.args.form c.args.format.now.parts.items r in
    of_source answer c.args.ending coming was was _ (not_begun answer c.args.ending (option_map heard coming) was)))

pub loop-buffer-init : goal.loop-buffer-init
loop-buffer-init g c =
    let told = g.O.Objects.told c.args.objects.now in
    let name = g.O.Objects.name_of c.args.objects.now in
    let start = option_map heard (g.R.Source.coming c.args.source) in
    let was = g.W.Sink.taken c.args.sink.now in
    record {
      sound = c.in_ok-lines.ensures.sound;
      goes = each_told told _ (λ r.
          let answer = line_answer name c.args.form c.args.format.now.parts.items r in
          subst (λ here. Goes answer c.args.ending start here was was) (sym c.in_ok-lines.ensures.seen) (starts answer c.args.ending start was));
    }

pub loop-buffer-preserved : goal.loop-buffer-preserved
loop-buffer-preserved g c =
    let told = g.O.Objects.told c.args.objects.now in
    let name = g.O.Objects.name_of c.args.objects.now in
    let ending = c.args.ending in
    let answer = line_answer name c.args.form c.args.format.now.parts.items in
    let start = option_map heard (g.R.Source.coming c.args.source) in
    let here = shown_reader c.loop-buffer.lines (g.R.Source.coming c.loop-buffer.lines.source) in
    let next = shown_reader c.next.new.self (g.R.Source.coming c.next.new.self.source) in
    let line = c.next.new.line.items in
    let was = g.W.Sink.taken c.args.sink.now in
    let mid = g.W.Sink.taken c.loop-buffer.sink in
    let now = g.W.Sink.taken c.answer_line.new.sink in
    let read = subst (λ more. Reads ending here next line (Ok more)) c.if-branch.true c.in_ok-next.ensures.reads in
    record {
      sound = c.next.ensures.sound;
      goes = both_told told (λ r. Goes (answer r) ending start here was mid) (λ r. Took mid now (answer r c.deref.result.now)) (λ r. Goes (answer r) ending start next was now)
          (λ r h k. goes_on (answer r) ending start here next was mid now line h read (subst (λ bs. Took mid now (answer r bs)) c.deref.ensures.value k)) c.loop-buffer.invariant.goes c.in_ok-answer_line.ensures;
    }

pub returns-in_err-answer_line : goal.returns-in_err-answer_line
returns-in_err-answer_line g c =
    let p = err_from_is_err_and c.from_residual-in_err-answer_line.result c.from_residual-in_err-answer_line.ensures.1 in
    let told = g.O.Objects.told c.args.objects.now in
    let name = g.O.Objects.name_of c.args.objects.now in
    let ending = c.args.ending in
    let answer = line_answer name c.args.form c.args.format.now.parts.items in
    let coming = g.R.Source.coming c.args.source in
    let start = option_map heard coming in
    let here = shown_reader c.loop-buffer.lines (g.R.Source.coming c.loop-buffer.lines.source) in
    let next = shown_reader c.next.new.self (g.R.Source.coming c.next.new.self.source) in
    let line = c.next.new.line.items in
    let was = g.W.Sink.taken c.args.sink.now in
    let mid = g.W.Sink.taken c.loop-buffer.sink in
    let now = g.W.Sink.taken c.answer_line.new.sink in
    let fault = c.in_err-answer_line.field-0.0 in
    let read = subst (λ more. Reads ending here next line (Ok more)) c.if-branch.true c.in_ok-next.ensures.reads in
    rw (p.1, p.2) (both_told told (λ r. Goes (answer r) ending start here was mid) (λ r. SendsAnswer (answer r c.deref.result.now) mid now (Err fault)) (λ r. AnswersBatch (answer r) ending coming was now (Err fault))
    (λ r h k. stopped_lines (answer r) ending coming here next was mid now line fault h read (subst (λ bs. SendsAnswer (answer r bs) mid now (Err fault)) c.deref.ensures.value k)) c.loop-buffer.invariant.goes c.in_err-answer_line.ensures)

pub returns-in_err-next : goal.returns-in_err-next
returns-in_err-next g c =
    let p = err_from_is_err_and c.from_residual-in_err-next.result c.from_residual-in_err-next.ensures.1 in
    let told = g.O.Objects.told c.args.objects.now in
    let name = g.O.Objects.name_of c.args.objects.now in
    let ending = c.args.ending in
    let answer = line_answer name c.args.form c.args.format.now.parts.items in
    let coming = g.R.Source.coming c.args.source in
    let here = shown_reader c.loop-buffer.lines (g.R.Source.coming c.loop-buffer.lines.source) in
    let next = shown_reader c.next.new.self (g.R.Source.coming c.next.new.self.source) in
    let was = g.W.Sink.taken c.args.sink.now in
    let now = g.W.Sink.taken c.loop-buffer.sink in
    let fault = c.in_err-next.field-0.0 in
    rw (p.1, p.2) (map_told told (λ r. Goes (answer r) ending (option_map heard coming) here was now) _
    (λ r h. unread_lines (answer r) ending coming was now fault (of_source (answer r) ending coming was now (Err fault) (unread (answer r) ending (option_map heard coming) here next was now c.next.new.line.items fault h c.in_err-next.ensures.reads))) c.loop-buffer.invariant.goes)

pub returns : goal.returns
returns g c =
    let told = g.O.Objects.told c.args.objects.now in
    let name = g.O.Objects.name_of c.args.objects.now in
    let ending = c.args.ending in
    let answer = line_answer name c.args.form c.args.format.now.parts.items in
    let coming = g.R.Source.coming c.args.source in
    let here = shown_reader c.loop-buffer.lines (g.R.Source.coming c.loop-buffer.lines.source) in
    let next = shown_reader c.next.new.self (g.R.Source.coming c.next.new.self.source) in
    let line = c.next.new.line.items in
    let was = g.W.Sink.taken c.args.sink.now in
    let now = g.W.Sink.taken c.loop-buffer.sink in
    let read = subst (λ more. Reads ending here next line (Ok more)) c.if-branch.false c.in_ok-next.ensures.reads in
    map_told told (λ r. Goes (answer r) ending (option_map heard coming) here was now) _
    (λ r h. of_source (answer r) ending coming was now (Ok tt) (answered (answer r) ending (option_map heard coming) here next was now line h read)) c.loop-buffer.invariant.goes
