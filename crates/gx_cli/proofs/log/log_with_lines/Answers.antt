use Rattle.std.proofs.Common.{◌++◌, map, subst, Err}
use Rattle.std.proofs.lemmas.Result.{err_from_is_err_and}
use Rattle.gx_model.specs.Records.HistoryOf.{history_of}
use Rattle.gx_cli.specs.Answers.{Prints}
use Rattle.gx_print.specs.Logs.{log_text}
use Rattle.gx_text.specs.Lent.{lent_texts}
use Rattle.gx_cli.proofs.LoggedLines.{logs_lines, logs_words, no_lines, source_read, source_unread}
use Rattle.gx_cli.proofs.log.log_with_lines.Goals as goal

pub returns-in_err-lines : goal.returns-in_err-lines
returns-in_err-lines g c =
    let p = err_from_is_err_and c.from_residual.result c.from_residual.ensures.1 in
    let name = g.N.Namer.name_of c.args.repo.now.0 in
    let r = c.args.repo.now.1 in
    let o = c.args.options in
    let words = lent_texts c.args.words.now in
    let coming = g.R.Source.coming c.args.source in
    let was = g.W.Sink.taken c.args.sink.now in
    let fault = c.in_err-lines.field-0.0 in
    rw (p.1, p.2) (logs_lines name o r o.stdin words coming was was (Err fault) c.if-options.true (source_unread name o r g.row.A.Denot words coming was fault c.in_err-lines.ensures))

pub returns-in_ok-lines : goal.returns-in_ok-lines
returns-in_ok-lines g c =
    let name = g.N.Namer.name_of c.args.repo.now.0 in
    let r = c.args.repo.now.1 in
    let o = c.args.options in
    let words = lent_texts c.args.words.now in
    let coming = g.R.Source.coming c.args.source in
    let was = g.W.Sink.taken c.args.sink.now in
    let now = g.W.Sink.taken c.log_words.new.sink in
    let answer = c.log_words.result in
    let printed = subst (λ lines. Prints (log_text name o (history_of r) (words ++ map (λ line. line.items) lines)) was now answer) c.as_slice.ensures.value c.log_words.ensures in
    logs_lines name o r o.stdin words coming was now answer c.if-options.true (source_read name o r words coming c.in_ok-lines.lines was now answer c.in_ok-lines.ensures printed)

pub returns-else-options : goal.returns-else-options
returns-else-options g c =
    let name = g.N.Namer.name_of c.args.repo.now.0 in
    let r = c.args.repo.now.1 in
    let o = c.args.options in
    let words = lent_texts c.args.words.now in
    let was = g.W.Sink.taken c.args.sink.now in
    let now = g.W.Sink.taken c.log_words-else-options.new.sink in
    let answer = c.log_words-else-options.result in
    logs_words name o r o.stdin words (g.R.Source.coming c.args.source) was now answer c.if-options.false (no_lines name o r words was now answer c.log_words-else-options.ensures)
