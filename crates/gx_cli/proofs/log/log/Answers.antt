use Rattle.std.proofs.Common.{List, ap, map, subst, sym, ◌∙◌, Ok, Err}
use Rattle.std.proofs.lemmas.Result.{err_from_is_err_and}
use Rattle.gx_model.specs.Faults.{◌>>=◌}
use Rattle.gx_model.specs.Histories.Values.{Commit}
use Rattle.gx_model.specs.Texts.{Bytes}
use Rattle.gx_model.specs.Records.HistoryOf.{history_of}
use Rattle.gx_model.specs.Revisions.Ranges.{each_word}
use Rattle.gx_model.specs.Revisions.{range_of}
use Rattle.gx_rev.specs.Objects.{commit_at}
use Rattle.gx_rev.specs.Views.{shown_range}
use Rattle.gx_cli.specs.Answers.{Prints}
use Rattle.gx_print.specs.Logs.{AreCommits, chosen, commits_logged, commits_text, log_text}
use Rattle.gx_cli.specs.Sending.{PrintsText}
use Rattle.gx_print.specs.Stored.{all_words}
use Rattle.gx_text.specs.Lent.{lent_texts}
use Rattle.gx_cli.specs.Words.{RefusesWord}
use Rattle.gx_cli.proofs.RefusedWords.{first_refused, later_refused, refusal_printed}
use Rattle.gx_print.proofs.ReadSteps.{in_two, then_words}
use Rattle.gx_cli.proofs.SentLines.{given_text}
use Rattle.gx_cli.proofs.LoggedLines.{nothing_out}
use Rattle.gx_cli.proofs.log.log.Goals as goal

pub returns-in_err-ranges : goal.returns-in_err-ranges
returns-in_err-ranges g c =
    let p = err_from_is_err_and c.from_residual.result c.from_residual.ensures.1 in
    let name = g.N.Namer.name_of c.args.repo.now.0 in
    let o = c.args.options in
    let words = lent_texts c.args.words.now in
    let was = g.W.Sink.taken c.args.sink.now in
    let read = each_word range_of words in
    let listed = commits_logged name (history_of c.args.repo.now.1) o.all in
    let text : List Commit → Bytes = λ commits. commits_text name o (chosen name o commits) in
    let fault = c.in_err-ranges.field-0.0 in
    rw (p.1, p.2) (subst (λ given. Prints given was was (Err fault)) (sym (in_two read listed text)) (refusal_printed (all_words (read >>= listed)) text was fault (first_refused read listed fault c.in_err-ranges.ensures)))

pub returns-in_err-names : goal.returns-in_err-names
returns-in_err-names g c =
    let p = err_from_is_err_and c.from_residual-in_err-names.result c.from_residual-in_err-names.ensures.1 in
    let name = g.N.Namer.name_of c.args.repo.now.0 in
    let h = history_of c.args.repo.now.1 in
    let o = c.args.options in
    let words = lent_texts c.args.words.now in
    let was = g.W.Sink.taken c.args.sink.now in
    let read = each_word range_of words in
    let listed = commits_logged name h o.all in
    let text : List Commit → Bytes = λ commits. commits_text name o (chosen name o commits) in
    let fault = c.in_err-names.field-0.0 in
    let ranges = map shown_range c.in_ok-ranges.ranges.items in
    let refused = subst (λ rs. RefusesWord fault (all_words (commits_logged name h o.all (map shown_range rs)))) c.as_slice.ensures.value c.in_err-names.ensures.commits in
    rw (p.1, p.2) (subst (λ given. Prints given was was (Err fault)) (sym (in_two read listed text)) (refusal_printed (all_words (read >>= listed)) text was fault (later_refused read ranges listed fault c.in_ok-ranges.ensures refused)))

pub returns-in_err-names-2 : goal.returns-in_err-names-2
returns-in_err-names-2 g c =
    let p = err_from_is_err_and c.from_residual-in_err-names-2.result c.from_residual-in_err-names-2.ensures.1 in
    rw (p.1, p.2) (nothing_out (log_text (g.N.Namer.name_of c.args.repo.now.0) c.args.options (history_of c.args.repo.now.1) (lent_texts c.args.words.now)) (g.W.Sink.taken c.args.sink.now))

pub names_chosen-requires : goal.names_chosen-requires
names_chosen-requires g c = subst (AreCommits c.args.repo.now.1) (sym c.as_slice-2.ensures.value) c.in_ok-names.ensures.held

pub print_chosen-requires : goal.print_chosen-requires
print_chosen-requires g c = subst (AreCommits c.args.repo.now.1) (sym c.as_slice-3.ensures.value) c.in_ok-names-2.ensures.1

pub returns : goal.returns
returns g c =
    let name = g.N.Namer.name_of c.args.repo.now.0 in
    let r = c.args.repo.now.1 in
    let h = history_of r in
    let o = c.args.options in
    let words = lent_texts c.args.words.now in
    let was = g.W.Sink.taken c.args.sink.now in
    let now = g.W.Sink.taken c.print_chosen.new.sink in
    let read = each_word range_of words in
    let listed = commits_logged name h o.all in
    let text : List Commit → Bytes = λ commits. commits_text name o (chosen name o commits) in
    let names = c.in_ok-names.names.items in
    let ranges = map shown_range c.in_ok-ranges.ranges.items in
    let told = (λ i. all_words (commits_logged name h o.all (map shown_range (sym c.as_slice.ensures.value i)))) ∙ c.in_ok-names.ensures.commits in
    let given = in_two read listed text ∙ ap (λ x. x >>= λ commits. Ok (text commits)) (then_words read ranges listed c.in_ok-ranges.ensures ∙ told) in
    let taken = ap (map (commit_at r)) c.as_slice-3.ensures.value ∙ c.in_ok-names-2.ensures.0 ∙ ap (λ ns. chosen name o (map (commit_at r) ns)) c.as_slice-2.ensures.value in
    given_text (log_text name o h words) (text (map (commit_at r) names)) was now c.print_chosen.result given (subst (λ t. PrintsText t was now c.print_chosen.result) (ap (commits_text name o) taken) c.print_chosen.ensures)
