use Rattle.std.proofs.Common.{◌++◌, ◌∷◌, [], codes, length}
use Rattle.std.specs.List.{flat_map}
use Rattle.std.proofs.lemmas.Result.{err_from_is_err_and}
use Rattle.gx_model.specs.Objects.{line}
use Rattle.gx_model.specs.Stores.StoreText.{stored_ref}
use Rattle.gx_model.specs.Texts.Numbers.{number_text}
use Rattle.gx_model.proofs.Texts.SentTexts.{left_fails, less_left}
use Rattle.gx_file.proofs.SentTexts.{last_left}
use Rattle.gx_growing.specs.GrowingText.{run_text, tail_text}
use Rattle.gx_growing_file.proofs.SentParts.{tail_left}
use Rattle.gx_growing_file.specs.Sending.{runs_of}
use Rattle.gx_growing_file.proofs.sending.send_tail.Goals as goal

pub returns-in_err-send_runs : goal.returns-in_err-send_runs
returns-in_err-send_runs g c =
    let p = err_from_is_err_and c.from_residual.result c.from_residual.ensures.1 in
    let runs = runs_of c.args.run in
    let refs = c.args.repo.now.1.refs in
    let one = line (codes "runs") (number_text (length runs)) ++ flat_map run_text runs in
    let two = line (codes "refs") (number_text (length refs)) ++ flat_map stored_ref refs in
    let was = g.W.Sink.taken c.args.sink.now in
    rw p.1 (left_fails (tail_text runs refs) was was (g.W.Sink.taken c.send_runs.new.sink) one (two ++ (codes "end" ++ 10 ∷ [])) (tail_left runs refs was) c.in_err-send_runs.ensures)

pub returns-in_err-send_refs : goal.returns-in_err-send_refs
returns-in_err-send_refs g c =
    let p = err_from_is_err_and c.from_residual-in_err-send_refs.result c.from_residual-in_err-send_refs.ensures.1 in
    let runs = runs_of c.args.run in
    let refs = c.args.repo.now.1.refs in
    let one = line (codes "runs") (number_text (length runs)) ++ flat_map run_text runs in
    let two = line (codes "refs") (number_text (length refs)) ++ flat_map stored_ref refs in
    let was = g.W.Sink.taken c.args.sink.now in
    let first = g.W.Sink.taken c.send_runs.new.sink in
    let begun = less_left (tail_text runs refs) was was first one (two ++ (codes "end" ++ 10 ∷ [])) (tail_left runs refs was) c.in_ok-send_runs.ensures in
    rw p.1 (left_fails (tail_text runs refs) was first (g.W.Sink.taken c.send_refs.new.sink) two (codes "end" ++ 10 ∷ []) begun c.in_err-send_refs.ensures.text)

pub returns : goal.returns
returns g c =
    let runs = runs_of c.args.run in
    let refs = c.args.repo.now.1.refs in
    let one = line (codes "runs") (number_text (length runs)) ++ flat_map run_text runs in
    let two = line (codes "refs") (number_text (length refs)) ++ flat_map stored_ref refs in
    let was = g.W.Sink.taken c.args.sink.now in
    let first = g.W.Sink.taken c.send_runs.new.sink in
    let second = g.W.Sink.taken c.send_refs.new.sink in
    let begun = less_left (tail_text runs refs) was was first one (two ++ (codes "end" ++ 10 ∷ [])) (tail_left runs refs was) c.in_ok-send_runs.ensures in
    let half = less_left (tail_text runs refs) was first second two (codes "end" ++ 10 ∷ []) begun c.in_ok-send_refs.ensures.text in
    last_left (tail_text runs refs) was second (g.W.Sink.taken c.send_text.new.sink) (codes "end" ++ 10 ∷ []) c.send_text.result half c.send_text.ensures
