use Rattle.std.proofs.Common.{◌∙◌, ap, drop, map}
use Rattle.gx_growing_parts.specs.Shown.{shown_run}
use Rattle.gx_additions.specs.NewObjects.{laid_out}
use Rattle.gx_additions.proofs.Spelled.{front_put}
use Rattle.gx_additions.proofs.objects.front_with.Goals as goal

pub returns : goal.returns
returns g c =
    let segment = laid_out (drop c.args.from c.args.store.now.1) (map shown_run c.args.kept.now) c.args.count c.args.table.now in
    let live = ap (map shown_run) c.as_slice.ensures.value ∙ c.in_ok-runs.ensures in
    front_put segment (map shown_run c.as_slice.result.now) c.new-segment.result.items c.put_records.new.bytes.items c.put_table.new.bytes.items c.put_runs.new.bytes.items c.len-front.result
    c.new-segment.ensures.items c.in_ok-put_records.ensures c.in_ok-put_table.ensures (c.len-front.ensures ∙ c.put_table.new.bytes.ok.0) live c.in_ok-put_runs.ensures
