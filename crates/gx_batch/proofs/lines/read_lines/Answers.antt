use Rattle.std.proofs.Common.{[], ◌∙◌, Ok, subst, sym}
use Rattle.std.specs.Option.{option_map}
use Rattle.std.proofs.lemmas.Result.{err_from_is_err_and}
use Rattle.gx_stream.specs.Heard.{heard}
use Rattle.gx_batch.specs.Batches.{texts_of}
use Rattle.gx_batch.specs.Reading.{Reads, shown_reader}
use Rattle.gx_batch.proofs.Answering.{ArePassed, none_passed, one_passed}
use Rattle.gx_batch.proofs.ReadLines.{lines_failed, lines_read, lines_unheld, texts_more, texts_none}
use Rattle.gx_batch.proofs.lines.read_lines.Goals as goal

pub returns-in_err-reader : goal.returns-in_err-reader
returns-in_err-reader g c =
    let p = err_from_is_err_and c.from_residual.result c.from_residual.ensures.1 in
    rw (p.1, p.2) (lines_unheld g.row.A.Denot c.args.ending (g.R.Source.coming c.args.source))

pub loop-line-init : goal.loop-line-init
loop-line-init g c =
    let ending = c.args.ending in
    let start = option_map heard (g.R.Source.coming c.args.source) in
    let here = shown_reader c.in_ok-reader.reader (g.R.Source.coming c.in_ok-reader.reader.source) in
    record {
      sound = c.in_ok-reader.ensures.sound;
      passed = subst (λ front. ArePassed ending front start here) (sym (texts_none c.new-lines.result c.new-lines.ensures.items)) (subst (ArePassed ending [] start) (sym c.in_ok-reader.ensures.seen) (none_passed ending start));
    }

pub returns-in_err-next : goal.returns-in_err-next
returns-in_err-next g c =
    let p = err_from_is_err_and c.from_residual-in_err-next.result c.from_residual-in_err-next.ensures.1 in
    let here = shown_reader c.loop-line.reader (g.R.Source.coming c.loop-line.reader.source) in
    let next = shown_reader c.next.new.self (g.R.Source.coming c.next.new.self.source) in
    rw (p.1, p.2) (lines_failed g.row.A.Denot c.args.ending (g.R.Source.coming c.args.source) here next c.next.new.line.items (texts_of c.loop-line.lines) c.in_err-next.field-0.0 c.loop-line.invariant.passed c.in_err-next.ensures.reads)

pub returns-in_err-from_slice : goal.returns-in_err-from_slice
returns-in_err-from_slice g c =
    let p = err_from_is_err_and c.from_residual-in_err-from_slice.result c.from_residual-in_err-from_slice.ensures.1 in
    rw (p.1, p.2) (lines_unheld g.row.A.Denot c.args.ending (g.R.Source.coming c.args.source))

pub returns-in_err-push : goal.returns-in_err-push
returns-in_err-push g c =
    let p = err_from_is_err_and c.from_residual-in_err-push.result c.from_residual-in_err-push.ensures.1 in
    rw (p.1, p.2) (lines_unheld g.row.A.Denot c.args.ending (g.R.Source.coming c.args.source))

pub loop-line-preserved : goal.loop-line-preserved
loop-line-preserved g c =
    let ending = c.args.ending in
    let start = option_map heard (g.R.Source.coming c.args.source) in
    let here = shown_reader c.loop-line.reader (g.R.Source.coming c.loop-line.reader.source) in
    let next = shown_reader c.next.new.self (g.R.Source.coming c.next.new.self.source) in
    let line = c.next.new.line.items in
    let front = texts_of c.loop-line.lines in
    let read = subst (λ more. Reads ending here next line (Ok more)) c.if-branch.true c.in_ok-next.ensures.reads in
    let texts = texts_more c.loop-line.lines c.push.new.self c.in_ok-from_slice.field-0 line (c.in_ok-from_slice.ensures.items ∙ c.deref.ensures.value) c.in_ok-push.ensures.items in
    record {
      sound = c.next.ensures.sound;
      passed = subst (λ ls. ArePassed ending ls start next) (sym texts) (one_passed ending start here next front line c.loop-line.invariant.passed read);
    }

pub returns : goal.returns
returns g c =
    let ending = c.args.ending in
    let here = shown_reader c.loop-line.reader (g.R.Source.coming c.loop-line.reader.source) in
    let next = shown_reader c.next.new.self (g.R.Source.coming c.next.new.self.source) in
    let line = c.next.new.line.items in
    let read = subst (λ more. Reads ending here next line (Ok more)) c.if-branch.false c.in_ok-next.ensures.reads in
    lines_read g.row.A.Denot ending (g.R.Source.coming c.args.source) here next line c.loop-line.lines c.loop-line.invariant.passed read
