use Rattle.std.proofs.Common.{map}
use Rattle.gx_growing_parts.specs.Shown.{shown_run}
use Rattle.gx_additions.proofs.Spelled.{segment_put}
use Rattle.gx_additions.proofs.refs.segment_of.Goals as goal

pub returns : goal.returns
returns g c =
    segment_put c.args.count (map shown_run c.args.runs.now) c.args.refs.now c.in_ok-segment.segment.items c.put_runs.new.bytes.items c.put_count.new.bytes.items c.put_all.new.bytes.items
    c.in_ok-segment.ensures.items c.in_ok-put_runs.ensures c.in_ok-put_count.ensures c.in_ok-put_all.ensures
