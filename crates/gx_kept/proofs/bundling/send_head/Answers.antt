use Rattle.std.proofs.lemmas.Result.{err_from_is_err_and}
use Rattle.gx_object.specs.Commits.{bytes_of_names}
use Rattle.gx_object.specs.Parts.{bytes_if}
use Rattle.gx_kept.proofs.SentHeads.{had_fails, mark_fails, refs_go}
use Rattle.gx_kept.proofs.bundling.send_head.Goals as goal

pub returns-in_err-send_text-clause-text : goal.returns-in_err-send_text-clause-text
returns-in_err-send_text-clause-text g c =
    let p = err_from_is_err_and c.from_residual.result c.from_residual.ensures.1 in
    let b = c.args.bundled.now in
    let was = g.W.Sink.taken c.args.sink.now in
    let one = g.W.Sink.taken c.send_text.new.sink in
    rw p.1 (λ refs a e. mark_fails (bytes_of_names b.had.now) (bytes_if b.head) b.refs.now refs e was one one c.in_err-send_text.ensures)

pub returns-in_err-send_had-clause-text : goal.returns-in_err-send_had-clause-text
returns-in_err-send_had-clause-text g c =
    let p = err_from_is_err_and c.from_residual-in_err-send_had.result c.from_residual-in_err-send_had.ensures.1 in
    let b = c.args.bundled.now in
    let was = g.W.Sink.taken c.args.sink.now in
    let one = g.W.Sink.taken c.send_text.new.sink in
    let two = g.W.Sink.taken c.send_had.new.sink in
    rw p.1 (λ refs a e. had_fails (bytes_of_names b.had.now) (bytes_if b.head) b.refs.now refs e was one two c.in_ok-send_text.ensures c.in_err-send_had.ensures.text)

pub returns-clause-text : goal.returns-clause-text
returns-clause-text g c =
    let b = c.args.bundled.now in
    let was = g.W.Sink.taken c.args.sink.now in
    let one = g.W.Sink.taken c.send_text.new.sink in
    let two = g.W.Sink.taken c.send_had.new.sink in
    λ refs a e. refs_go (bytes_of_names b.had.now) (bytes_if b.head) b.refs.now refs e was one two c.in_ok-send_text.ensures c.in_ok-send_had.ensures.text (g.W.Sink.taken c.send_refs.new.sink) c.send_refs.result c.send_refs.ensures.text
