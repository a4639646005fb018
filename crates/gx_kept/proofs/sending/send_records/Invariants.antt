use Rattle.gx_kept.proofs.SentRecords.{AreSent}
use Rattle.gx_kept.proofs.sending.send_records.Given as goal

abbrev pub invariant-loop-number : goal.invariant-loop-number
invariant-loop-number g l =
    AreSent (g.O.Objects.name_of l.objects) (g.O.Objects.told l.objects) l.listing l.marks (g.W.Sink.taken l.fn.sink) l.number (g.W.Sink.taken l.sink)
