use Rattle.std.proofs.Common.{◌-◌, length, take, drop, sym, subst, Ok, arith}
use Rattle.std.proofs.Math.Seq.{take-add}
use Rattle.std.proofs.lemmas.List.{take_rest, length-take}
use Rattle.gx_model.specs.Texts.Sinks.{Sends}
use Rattle.gx_text.proofs.Sending.{Sends-more, Sends-failed}
use Rattle.gx_text.proofs.device.send.Goals as goal

pub loop-sent-preserved : goal.loop-sent-preserved
loop-sent-preserved g c =
    let bytes = c.args.bytes.now in
    let given = rw (take_rest bytes c.loop-sent.sent) at c.in-Ok.ensures.bytes in
    record {
      within = omega (arith, c.in-Ok.ensures.bound, length-take (length bytes - c.loop-sent.sent) (drop c.loop-sent.sent bytes));
      sent = subst (λ bs. Sends (g.W.Sink.taken c.args.sink.now) (g.W.Sink.taken c.push.new.self) bs (Ok tt)) (sym (take-add c.loop-sent.sent c.in-Ok.count bytes)) (Sends-more _ _ _ _ _ _ c.loop-sent.invariant.sent given);
    }

pub returns-in-Err-clause-bytes : goal.returns-in-Err-clause-bytes
returns-in-Err-clause-bytes g c = Sends-failed (g.W.Sink.taken c.args.sink.now) (g.W.Sink.taken c.loop-sent.sink) (g.W.Sink.taken c.push.new.self) c.args.bytes.now (take (length c.args.bytes.now - c.loop-sent.sent) (drop c.loop-sent.sent c.args.bytes.now)) c.loop-sent.sent c.in-Err.field-0 c.loop-sent-test.true c.loop-sent.invariant.sent c.in-Err.ensures.bytes
