use Rattle.std.proofs.Common.{◌++◌, ap, map, subst, ◌∙◌}
use Rattle.std.proofs.lemmas.Result.{err_from_is_err_and}
use Rattle.gx_model.specs.Records.HistoryOf.{history_of}
use Rattle.gx_print.specs.Logs.{log_text}
use Rattle.gx_text.specs.Lent.{lent_texts}
use Rattle.gx_told.specs.Printing.{Prints}
use Rattle.gx_told.proofs.Prints.{none_printed}
use Rattle.gx_told.proofs.Tellings.{each_told, map_told}
use Rattle.gx_told.proofs.log.log_words.Goals as goal

pub returns-in_err-asked : goal.returns-in_err-asked
returns-in_err-asked g c =
    let p = err_from_is_err_and c.from_residual.result c.from_residual.ensures.1 in
    let name = g.O.Objects.name_of c.args.objects.now in
    let words = lent_texts c.args.words.now ++ map (λ line. line.items) c.args.lines.now in
    rw (p.1, p.2) (each_told (g.O.Objects.told c.args.objects.now) _ (λ r. none_printed (log_text name c.args.options (history_of r) words) (g.W.Sink.taken c.args.sink.now)))

pub returns-in_err-add_lines : goal.returns-in_err-add_lines
returns-in_err-add_lines g c =
    let p = err_from_is_err_and c.from_residual-in_err-add_lines.result c.from_residual-in_err-add_lines.ensures.1 in
    let name = g.O.Objects.name_of c.args.objects.now in
    let words = lent_texts c.args.words.now ++ map (λ line. line.items) c.args.lines.now in
    rw (p.1, p.2) (each_told (g.O.Objects.told c.args.objects.now) _ (λ r. none_printed (log_text name c.args.options (history_of r) words) (g.W.Sink.taken c.args.sink.now)))

pub returns : goal.returns
returns g c =
    let told = g.O.Objects.told c.args.objects.now in
    let name = g.O.Objects.name_of c.args.objects.now in
    let was = g.W.Sink.taken c.args.sink.now in
    let now = g.W.Sink.taken c.log.new.sink in
    let asked = ap lent_texts c.as_slice.ensures.value ∙ c.in_ok-add_lines.ensures ∙ ap (λ ts. ts ++ map (λ line. line.items) c.args.lines.now) c.in_ok-asked.ensures in
    map_told told (λ r. Prints (log_text name c.args.options (history_of r) (lent_texts c.as_slice.result.now)) was now c.log.result) _
    (λ r h. subst (λ words. Prints (log_text name c.args.options (history_of r) words) was now c.log.result) asked h) c.log.ensures
