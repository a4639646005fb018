use Rattle.std.proofs.Common.{◌≡◌, ◌+◌, ◌-◌, ◌≤◌, ◌^◌}
use Rattle.gx_blobs.proofs.Progress.{Progress}
use Rattle.gx_blobs.proofs.blob_names.name_all.Given as goal

abbrev pub invariant-loop-fault : goal.invariant-loop-fault
invariant-loop-fault g l =
    record {
      few : l.count + l.reader.most ≤ 2 ^ 63 - 1;
      namer : l.store.0 ≡ l.fn.store.0;
      progress : Progress (g.N.Namer.name_of l.fn.store.0) l.fn.reader l.fn.reader.stream l.reader l.stage (g.W.Sink.taken l.fn.sink) (g.W.Sink.taken l.sink) l.store.1 l.count;
    }

abbrev pub decreases-loop-fault : goal.decreases-loop-fault
decreases-loop-fault g l = l.reader.most
