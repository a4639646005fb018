use Rattle.std.proofs.Common.{◌∷◌, ◌++◌, [], Err}
use Rattle.std.proofs.lemmas.Result.{err_from_is_err_and}
use Rattle.gx_batch.proofs.SentTexts.{sent_behind, sent_longer}
use Rattle.gx_batch.proofs.replies.put_parts.Goals as goal

pub returns-in_err-put-clause-sent : goal.returns-in_err-put-clause-sent
returns-in_err-put-clause-sent g c =
    let p = err_from_is_err_and c.from_residual.result c.from_residual.ensures.1 in
    rw (p.1, p.2) (sent_longer (g.W.Sink.taken c.args.sink.now) (g.W.Sink.taken c.put.new.sink) c.args.line.now (c.args.text.now ++ 10 ∷ []) c.in_err-put.field-0.0 c.in_err-put.ensures.sent c.in_err-put.ensures.memory)

pub returns-in_err-put-2-clause-sent : goal.returns-in_err-put-2-clause-sent
returns-in_err-put-2-clause-sent g c =
    let p = err_from_is_err_and c.from_residual-in_err-put-2.result c.from_residual-in_err-put-2.ensures.1 in
    let was = g.W.Sink.taken c.args.sink.now in
    let mid = g.W.Sink.taken c.put.new.sink in
    let now = g.W.Sink.taken c.put-2.new.sink in
    let line = c.args.line.now in
    let text = c.args.text.now in
    let fault = c.in_err-put-2.field-0.0 in
    let longer = sent_longer mid now text (10 ∷ []) fault c.in_err-put-2.ensures.sent c.in_err-put-2.ensures.memory in
    rw (p.1, p.2) (sent_behind was mid now line (text ++ 10 ∷ []) (Err fault) c.in_ok-put.ensures.sent longer c.in_err-put-2.ensures.memory)

pub returns-clause-sent : goal.returns-clause-sent
returns-clause-sent g c =
    let was = g.W.Sink.taken c.args.sink.now in
    let mid = g.W.Sink.taken c.put.new.sink in
    let later = g.W.Sink.taken c.put-2.new.sink in
    let now = g.W.Sink.taken c.put-3.new.sink in
    let line = c.args.line.now in
    let text = c.args.text.now in
    let last = sent_behind mid later now text (10 ∷ []) c.put-3.result c.in_ok-put-2.ensures.sent c.put-3.ensures.sent c.put-3.ensures.memory in
    sent_behind was mid now line (text ++ 10 ∷ []) c.put-3.result c.in_ok-put.ensures.sent last c.put-3.ensures.memory
