use Rattle.std.proofs.Common.{sym}
use Rattle.gx_adapt.proofs.Quoted.{after_shorter}
use Rattle.gx_adapt.proofs.path.source_of.Goals as goal

pub slice_bounds-result-count : goal.slice_bounds-result-count
slice_bounds-result-count c = after_shorter c.args.bytes.now c.in-Some.rest.now (sym c.in-Some.ensures)
