use Rattle.std.proofs.Common.{◌≡◌, ◌∙◌, ap, sym, subst, Ok, Err}
use Rattle.std.specs.List.{flat_map}
use Rattle.std.proofs.lemmas.Result.{err_from_is_err_and}
use Rattle.gx_model.specs.Faults.{◌>>=◌}
use Rattle.gx_model.specs.Records.HistoryOf.{history_of}
use Rattle.gx_model.specs.Revisions.{revision_of}
use Rattle.gx_model.specs.Revisions.Denotation.{denoted}
use Rattle.gx_model.specs.Revisions.Ranges.{each_word}
use Rattle.gx_text.specs.Lent.{lent_texts}
use Rattle.gx_print.specs.Stored.{name_line, names_text}
use Rattle.gx_told.specs.Printing.{Prints, RefusesWord, lines_text}
use Rattle.gx_told.proofs.NamedLines.{names_read}
use Rattle.gx_told.proofs.Prints.{given_text, refusal_prints, sent_prints, unread_prints}
use Rattle.gx_told.proofs.Tellings.{each_told, map_told}
use Rattle.gx_told.proofs.rev_parse.print_names.Goals as goal

pub returns-in-Err : goal.returns-in-Err
returns-in-Err g c =
    let name = g.O.Objects.name_of c.args.objects.now in
    let was = g.W.Sink.taken c.args.sink.now in
    let read = each_word revision_of (lent_texts c.args.words.now) in
    rw c.unread.ensures (each_told (g.O.Objects.told c.args.objects.now) _ (λ r.
    unread_prints read (λ rs. each_word (denoted name (history_of r)) rs >>= λ shown. Ok (flat_map (name_line name) shown)) was c.in-Err.fault.word c.in-Err.fault.kind c.in-Err.ensures))

pub returns-in_err-put_names-in-Ok : goal.returns-in_err-put_names-in-Ok
returns-in_err-put_names-in-Ok g c =
    let p = err_from_is_err_and c.from_residual.result c.from_residual.ensures.1 in
    let told = g.O.Objects.told c.args.objects.now in
    let name = g.O.Objects.name_of c.args.objects.now in
    let was = g.W.Sink.taken c.args.sink.now in
    let words = lent_texts c.args.words.now in
    let asked = c.as_slice.result.now in
    let fault = c.in_err-put_names-in-Ok.field-0.0 in
    let read = c.in-Ok.ensures ∙ ap Ok (sym c.as_slice.ensures.value) in
    rw (p.1, p.2) (map_told told (λ r. RefusesWord fault (lines_text name (history_of r) asked)) (λ r. Prints (names_text name (history_of r) words) was was (Err fault))
    (λ r h. subst (λ given. Prints given was was (Err fault)) (sym (names_read name (history_of r) words asked read)) (refusal_prints (lines_text name (history_of r) asked) was fault h)) c.in_err-put_names-in-Ok.ensures)

pub returns-in_ok-put_names-in-Ok : goal.returns-in_ok-put_names-in-Ok
returns-in_ok-put_names-in-Ok g c =
    let told = g.O.Objects.told c.args.objects.now in
    let name = g.O.Objects.name_of c.args.objects.now in
    let was = g.W.Sink.taken c.args.sink.now in
    let now = g.W.Sink.taken c.put_text.new.sink in
    let answer = c.put_text.result in
    let words = lent_texts c.args.words.now in
    let asked = c.as_slice.result.now in
    let text = c.as_slice-in-Ok.result.now in
    let read = c.in-Ok.ensures ∙ ap Ok (sym c.as_slice.ensures.value) in
    map_told told (λ r. lines_text name (history_of r) asked ≡ Ok c.put_names.new.lines.items) (λ r. Prints (names_text name (history_of r) words) was now answer)
    (λ r h. given_text (names_text name (history_of r) words) text was now answer (names_read name (history_of r) words asked read ∙ h ∙ ap Ok (sym c.as_slice-in-Ok.ensures.value)) (sent_prints text was now answer c.put_text.ensures)) c.in_ok-put_names-in-Ok.ensures
