use Rattle.std.proofs.Common.{ap, subst, sym, ◌∙◌, Ok, Err}
use Rattle.std.specs.List.{flat_map}
use Rattle.std.proofs.lemmas.Result.{err_from_is_err_and}
use Rattle.gx_model.specs.Faults.{◌>>=◌}
use Rattle.gx_model.specs.Records.HistoryOf.{history_of}
use Rattle.gx_model.specs.Revisions.Denotation.{denoted}
use Rattle.gx_model.specs.Revisions.Ranges.{each_word}
use Rattle.gx_model.specs.Revisions.{revision_of}
use Rattle.gx_cli.specs.Answers.{Prints}
use Rattle.gx_print.specs.Stored.{all_words, name_line, shown_line}
use Rattle.gx_text.specs.Lent.{lent_texts}
use Rattle.gx_cli.proofs.RefusedWords.{first_refused, later_refused, refusal_printed}
use Rattle.gx_print.proofs.ReadSteps.{in_two, then_words}
use Rattle.gx_print.proofs.WordsRead.{lines_named}
use Rattle.gx_cli.proofs.rev_parse.print_names.Goals as goal

pub returns-in_err-revisions : goal.returns-in_err-revisions
returns-in_err-revisions g c =
    let p = err_from_is_err_and c.from_residual.result c.from_residual.ensures.1 in
    let name = g.N.Namer.name_of c.args.repo.now.0 in
    let was = g.W.Sink.taken c.args.sink.now in
    let read = each_word revision_of (lent_texts c.args.words.now) in
    let eval = each_word (denoted name (history_of c.args.repo.now.1)) in
    let lines = flat_map (name_line name) in
    let fault = c.in_err-revisions.field-0.0 in
    let refused = first_refused read eval fault c.in_err-revisions.ensures in
    rw (p.1, p.2) (subst (λ given. Prints given was was (Err fault)) (sym (in_two read eval lines)) (refusal_printed (all_words (read >>= eval)) lines was fault refused))

pub returns-in_err-eval_into : goal.returns-in_err-eval_into
returns-in_err-eval_into g c =
    let p = err_from_is_err_and c.from_residual-in_err-eval_into.result c.from_residual-in_err-eval_into.ensures.1 in
    let name = g.N.Namer.name_of c.args.repo.now.0 in
    let was = g.W.Sink.taken c.args.sink.now in
    let read = each_word revision_of (lent_texts c.args.words.now) in
    let eval = each_word (denoted name (history_of c.args.repo.now.1)) in
    let lines = flat_map (name_line name) in
    let fault = c.in_err-eval_into.field-0.0 in
    let done = c.in_ok-revisions.ensures ∙ ap Ok (sym c.deref.ensures.value) in
    let refused = later_refused read c.deref.result.now eval fault done c.in_err-eval_into.ensures.shown in
    rw (p.1, p.2) (subst (λ given. Prints given was was (Err fault)) (sym (in_two read eval lines)) (refusal_printed (all_words (read >>= eval)) lines was fault refused))

pub returns : goal.returns
returns g c =
    let name = g.N.Namer.name_of c.args.repo.now.0 in
    let r = c.args.repo.now.1 in
    let read = each_word revision_of (lent_texts c.args.words.now) in
    let eval = each_word (denoted name (history_of r)) in
    let lines = flat_map (name_line name) in
    let done = c.in_ok-revisions.ensures ∙ ap Ok (sym c.deref.ensures.value) in
    let shown = then_words read c.deref.result.now eval done ∙ c.in_ok-eval_into.ensures.shown in
    let given = in_two read eval lines ∙ ap (λ x. x >>= λ shown. Ok (lines shown)) shown in
    let text = ap (flat_map shown_line) c.deref-2.ensures.value ∙ lines_named name r c.eval_into.new.shown.items c.in_ok-eval_into.ensures.named in
    subst (λ given. Prints given (g.W.Sink.taken c.args.sink.now) (g.W.Sink.taken c.print_lines.new.sink) c.print_lines.result) (ap Ok text ∙ sym given) c.print_lines.ensures
