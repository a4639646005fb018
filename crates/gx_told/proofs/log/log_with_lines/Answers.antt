use Rattle.std.proofs.Common.{◌++◌, map, subst}
use Rattle.gx_model.specs.Records.HistoryOf.{history_of}
use Rattle.gx_print.specs.Logs.{log_text}
use Rattle.gx_text.specs.Lent.{lent_texts}
use Rattle.gx_told.specs.Logging.{LogsFrom}
use Rattle.gx_told.specs.Printing.{Prints}
use Rattle.gx_told.proofs.LoggedLines.{no_lines, source_read, source_unread}
use Rattle.gx_told.proofs.Tellings.{each_told, map_told}
use Rattle.gx_told.proofs.log.log_with_lines.Goals as goal

pub returns-in-Err : goal.returns-in-Err
returns-in-Err g c =
    let told = g.O.Objects.told c.args.objects.now in
    let name = g.O.Objects.name_of c.args.objects.now in
    let o = c.args.options in
    let words = lent_texts c.args.words.now in
    let coming = g.R.Source.coming c.args.source in
    let was = g.W.Sink.taken c.args.sink.now in
    rw c.from.ensures (each_told told _ (λ r. source_unread name o r g.row.A.Denot o.stdin words coming was c.in-Err.fault c.if-options.true c.in-Err.ensures))

pub returns-in-Ok : goal.returns-in-Ok
returns-in-Ok g c =
    let told = g.O.Objects.told c.args.objects.now in
    let name = g.O.Objects.name_of c.args.objects.now in
    let o = c.args.options in
    let words = lent_texts c.args.words.now in
    let coming = g.R.Source.coming c.args.source in
    let was = g.W.Sink.taken c.args.sink.now in
    let now = g.W.Sink.taken c.log_words.new.sink in
    let answer = c.log_words.result in
    map_told told (λ r. Prints (log_text name o (history_of r) (words ++ map (λ line. line.items) c.as_slice.result.now)) was now answer) (λ r. LogsFrom name o o.stdin r words coming was now answer)
    (λ r h. source_read name o r o.stdin words coming c.in-Ok.lines was now answer c.if-options.true c.in-Ok.ensures (subst (λ lines. Prints (log_text name o (history_of r) (words ++ map (λ line. line.items) lines)) was now answer) c.as_slice.ensures.value h))
    c.log_words.ensures

pub returns-else-options : goal.returns-else-options
returns-else-options g c =
    let told = g.O.Objects.told c.args.objects.now in
    let name = g.O.Objects.name_of c.args.objects.now in
    let o = c.args.options in
    let words = lent_texts c.args.words.now in
    let coming = g.R.Source.coming c.args.source in
    let was = g.W.Sink.taken c.args.sink.now in
    let now = g.W.Sink.taken c.log_words-else-options.new.sink in
    let answer = c.log_words-else-options.result in
    map_told told _ (λ r. LogsFrom name o o.stdin r words coming was now answer) (λ r h. no_lines name o r o.stdin words coming was now answer c.if-options.false h) c.log_words-else-options.ensures
