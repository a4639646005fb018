use Rattle.gx_model.proofs.Ranges.RangeReplays.{range_replayed}
use Rattle.gx_model.proofs.range_laws.ranges_are_replayed.Goals as goal

pub returns : goal.returns
returns c = record { replayed = range_replayed }
