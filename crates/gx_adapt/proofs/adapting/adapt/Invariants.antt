use Rattle.std.specs.Option.{option_map}
use Rattle.gx_stream.specs.Heard.{items_from}
use Rattle.gx_adapt.proofs.Progress.{Progress}
use Rattle.gx_adapt.proofs.adapting.adapt.Given as goal

abbrev pub invariant-loop-fault : goal.invariant-loop-fault
invariant-loop-fault g l = Progress l.fn.drop_signatures (option_map items_from (g.R.Source.coming l.fn.source)) l.reader l.course l.marks l.losses (g.W.Sink.taken l.fn.sink) (g.W.Sink.taken l.sink) l.report l.reader.most

abbrev pub decreases-loop-fault : goal.decreases-loop-fault
decreases-loop-fault g l = l.reader.most
