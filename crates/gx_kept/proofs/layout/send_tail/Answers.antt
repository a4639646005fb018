use Rattle.std.proofs.Common.{◌++◌, ◌∷◌, ◌∙◌, [], ap, codes, subst}
use Rattle.std.specs.List.{flat_map}
use Rattle.std.proofs.lemmas.Result.{err_from_is_err_and}
use Rattle.gx_model.specs.Objects.{line}
use Rattle.gx_model.specs.Stores.StoreText.{stored_ref}
use Rattle.gx_model.specs.Texts.Numbers.{number_text}
use Rattle.gx_model.specs.Texts.Sinks.{FailedWithin, Took}
use Rattle.gx_model.proofs.Texts.SentTexts.{left_fails, less_left}
use Rattle.gx_file.proofs.SentTexts.{last_left}
use Rattle.gx_growing.specs.GrowingText.{tail_text}
use Rattle.gx_growing_file.specs.Sending.{runs_of}
use Rattle.gx_kept.proofs.TailLines.{count_part, line_count, refs_counted, refs_part, runs_part, tail_begun}
use Rattle.gx_kept.proofs.layout.send_tail.Goals as goal

pub returns-in_err-send_runs : goal.returns-in_err-send_runs
returns-in_err-send_runs g c =
    let p = err_from_is_err_and c.from_residual.result c.from_residual.ensures.1 in
    let runs = runs_of c.args.run in
    let was = g.W.Sink.taken c.args.sink.now in
    let first = g.W.Sink.taken c.send_runs.new.sink in
    rw p.1 (λ refs are spelled. left_fails (tail_text runs refs) was was first (runs_part runs) (count_part refs ++ refs_part refs) (tail_begun runs refs was) c.in_err-send_runs.ensures)

pub returns-in_err-send_count : goal.returns-in_err-send_count
returns-in_err-send_count g c =
    let p = err_from_is_err_and c.from_residual-in_err-send_count.result c.from_residual-in_err-send_count.ensures.1 in
    let runs = runs_of c.args.run in
    let was = g.W.Sink.taken c.args.sink.now in
    let first = g.W.Sink.taken c.send_runs.new.sink in
    let second = g.W.Sink.taken c.send_count.new.sink in
    rw p.1 (λ refs are spelled.
    let begun = less_left (tail_text runs refs) was was first (runs_part runs) (count_part refs ++ refs_part refs) (tail_begun runs refs was) c.in_ok-send_runs.ensures in
    let count = c.count_lines.ensures ∙ ap line_count spelled ∙ refs_counted refs are.names in
    left_fails (tail_text runs refs) was first second (count_part refs) (refs_part refs) begun
    (subst (λ n. FailedWithin first second (line (codes "refs") (number_text n))) count c.in_err-send_count.ensures))

pub returns-in_err-send_text : goal.returns-in_err-send_text
returns-in_err-send_text g c =
    let p = err_from_is_err_and c.from_residual-in_err-send_text.result c.from_residual-in_err-send_text.ensures.1 in
    let runs = runs_of c.args.run in
    let was = g.W.Sink.taken c.args.sink.now in
    let first = g.W.Sink.taken c.send_runs.new.sink in
    let second = g.W.Sink.taken c.send_count.new.sink in
    let third = g.W.Sink.taken c.send_text.new.sink in
    rw p.1 (λ refs are spelled.
    let begun = less_left (tail_text runs refs) was was first (runs_part runs) (count_part refs ++ refs_part refs) (tail_begun runs refs was) c.in_ok-send_runs.ensures in
    let count = c.count_lines.ensures ∙ ap line_count spelled ∙ refs_counted refs are.names in
    let counted = less_left (tail_text runs refs) was first second (count_part refs) (refs_part refs) begun
    (subst (λ n. Took first second (line (codes "refs") (number_text n))) count c.in_ok-send_count.ensures) in
    left_fails (tail_text runs refs) was second third (flat_map stored_ref refs) (codes "end" ++ 10 ∷ []) counted
    (subst (FailedWithin second third) spelled c.in_err-send_text.ensures))

pub returns : goal.returns
returns g c = λ refs are spelled.
    let runs = runs_of c.args.run in
    let was = g.W.Sink.taken c.args.sink.now in
    let first = g.W.Sink.taken c.send_runs.new.sink in
    let second = g.W.Sink.taken c.send_count.new.sink in
    let third = g.W.Sink.taken c.send_text.new.sink in
    let begun = less_left (tail_text runs refs) was was first (runs_part runs) (count_part refs ++ refs_part refs) (tail_begun runs refs was) c.in_ok-send_runs.ensures in
    let count = c.count_lines.ensures ∙ ap line_count spelled ∙ refs_counted refs are.names in
    let counted = less_left (tail_text runs refs) was first second (count_part refs) (refs_part refs) begun
    (subst (λ n. Took first second (line (codes "refs") (number_text n))) count c.in_ok-send_count.ensures) in
    let lines = less_left (tail_text runs refs) was second third (flat_map stored_ref refs) (codes "end" ++ 10 ∷ []) counted (subst (Took second third) spelled c.in_ok-send_text.ensures) in
    last_left (tail_text runs refs) was third (g.W.Sink.taken c.send_text-2.new.sink) (codes "end" ++ 10 ∷ []) c.send_text-2.result lines c.send_text-2.ensures
