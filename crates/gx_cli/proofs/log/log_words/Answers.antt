use Rattle.std.proofs.Common.{◌++◌, ap, map, subst, ◌∙◌}
use Rattle.std.proofs.lemmas.Result.{err_from_is_err_and}
use Rattle.gx_model.specs.Records.HistoryOf.{history_of}
use Rattle.gx_cli.specs.Answers.{Prints}
use Rattle.gx_print.specs.Logs.{log_text}
use Rattle.gx_text.specs.Lent.{lent_texts}
use Rattle.gx_cli.proofs.LoggedLines.{nothing_out}
use Rattle.gx_cli.proofs.log.log_words.Goals as goal

pub returns-in_err-asked : goal.returns-in_err-asked
returns-in_err-asked g c =
    let p = err_from_is_err_and c.from_residual.result c.from_residual.ensures.1 in
    let words = lent_texts c.args.words.now ++ map (λ line. line.items) c.args.lines.now in
    rw (p.1, p.2) (nothing_out (log_text (g.N.Namer.name_of c.args.repo.now.0) c.args.options (history_of c.args.repo.now.1) words) (g.W.Sink.taken c.args.sink.now))

pub returns-in_err-add_lines : goal.returns-in_err-add_lines
returns-in_err-add_lines g c =
    let p = err_from_is_err_and c.from_residual-in_err-add_lines.result c.from_residual-in_err-add_lines.ensures.1 in
    let words = lent_texts c.args.words.now ++ map (λ line. line.items) c.args.lines.now in
    rw (p.1, p.2) (nothing_out (log_text (g.N.Namer.name_of c.args.repo.now.0) c.args.options (history_of c.args.repo.now.1) words) (g.W.Sink.taken c.args.sink.now))

pub returns : goal.returns
returns g c =
    let name = g.N.Namer.name_of c.args.repo.now.0 in
    let was = g.W.Sink.taken c.args.sink.now in
    let now = g.W.Sink.taken c.log.new.sink in
    let asked = ap lent_texts c.as_slice.ensures.value ∙ c.in_ok-add_lines.ensures ∙ ap (λ ts. ts ++ map (λ line. line.items) c.args.lines.now) c.in_ok-asked.ensures in
    subst (λ words. Prints (log_text name c.args.options (history_of c.args.repo.now.1) words) was now c.log.result) asked c.log.ensures
