use Rattle.std.proofs.Common.{Ok, ap, map, subst, sym, ◌∙◌}
use Rattle.gx_model.specs.Faults.{◌>>=◌}
use Rattle.gx_model.specs.Records.HistoryOf.{history_of}
use Rattle.gx_model.specs.Revisions.{range_of}
use Rattle.gx_model.specs.Revisions.Ranges.{each_word}
use Rattle.gx_rev.specs.Views.{shown_range}
use Rattle.gx_text.specs.Lent.{lent_texts}
use Rattle.gx_print.specs.Logs.{chosen, commits_logged, commits_text, log_text}
use Rattle.gx_print.specs.Stored.{all_words}
use Rattle.gx_told.specs.Logging.{ranges_text}
use Rattle.gx_told.specs.Printing.{Prints}
use Rattle.gx_told.proofs.Prints.{unread_prints}
use Rattle.gx_told.proofs.Tellings.{each_told, map_told}
use Rattle.gx_told.proofs.log.log.Goals as goal

pub returns-in-Err : goal.returns-in-Err
returns-in-Err g c =
    let name = g.O.Objects.name_of c.args.objects.now in
    let o = c.args.options in
    let read = each_word range_of (lent_texts c.args.words.now) in
    rw c.unread.ensures (each_told (g.O.Objects.told c.args.objects.now) _ (λ r.
    unread_prints read (λ ws. commits_logged name (history_of r) o.all ws >>= λ commits. Ok (commits_text name o (chosen name o commits))) (g.W.Sink.taken c.args.sink.now) c.in-Err.fault.word c.in-Err.fault.kind c.in-Err.ensures))

pub returns-in-Ok : goal.returns-in-Ok
returns-in-Ok g c =
    let told = g.O.Objects.told c.args.objects.now in
    let name = g.O.Objects.name_of c.args.objects.now in
    let o = c.args.options in
    let was = g.W.Sink.taken c.args.sink.now in
    let now = g.W.Sink.taken c.log_ranges.new.sink in
    let answer = c.log_ranges.result in
    let read = c.in-Ok.ensures ∙ ap (λ ranges. Ok (map shown_range ranges)) (sym c.as_slice.ensures.value) in
    map_told told (λ r. Prints (ranges_text name o (history_of r) (map shown_range c.as_slice.result.now)) was now answer) (λ r. Prints (log_text name o (history_of r) (lent_texts c.args.words.now)) was now answer)
    (λ r h. subst (λ given. Prints given was now answer) (sym (ap (λ w. all_words (w >>= λ ws. commits_logged name (history_of r) o.all ws >>= λ commits. Ok (commits_text name o (chosen name o commits)))) read)) h)
    c.log_ranges.ensures
