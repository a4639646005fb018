use Rattle.std.proofs.Common.{length, take, ◌-◌, ◌≤◌, Ok}
use Rattle.gx_model.specs.Texts.Sinks.{Sends}
use Rattle.gx_text.proofs.device.send.Given as goal

abbrev pub invariant-loop-sent : goal.invariant-loop-sent
invariant-loop-sent g l =
    record {
      within : l.sent ≤ length l.bytes;
      sent : Sends (g.W.Sink.taken l.fn.sink) (g.W.Sink.taken l.sink) (take l.sent l.bytes) (Ok tt);
    }

abbrev pub decreases-loop-sent : goal.decreases-loop-sent
decreases-loop-sent g l = length l.bytes - l.sent
