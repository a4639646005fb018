use Rattle.std.proofs.Common.{map}
use Rattle.gx_rev.specs.Views.{shown_range}
use Rattle.gx_told.proofs.LoggedLines.{begun_tips, ranges_refused, walk_given}
use Rattle.gx_told.proofs.log.log_ranges.Goals as goal

pub print_chosen-requires : goal.print_chosen-requires
print_chosen-requires g c =
    let o = c.args.objects.now in
    begun_tips (g.O.Objects.name_of o) c.args.options (g.O.Objects.stands o) (g.O.Objects.told o) (map shown_range c.args.ranges.now) c.in-Ok.walk c.in-Ok.ensures

pub returns-in-Ok : goal.returns-in-Ok
returns-in-Ok g c =
    let o = c.args.objects.now in
    walk_given (g.O.Objects.name_of o) c.args.options (g.O.Objects.stands o) (g.O.Objects.told o) (map shown_range c.args.ranges.now) c.in-Ok.walk (g.W.Sink.taken c.args.sink.now) (g.W.Sink.taken c.print_chosen.new.sink) c.print_chosen.result
    c.in-Ok.ensures c.print_chosen.ensures

pub returns : goal.returns
returns g c =
    let told = g.O.Objects.told c.args.objects.now in
    let name = g.O.Objects.name_of c.args.objects.now in
    rw c.refused.ensures (ranges_refused told name c.args.options (map shown_range c.args.ranges.now) (g.W.Sink.taken c.args.sink.now) c.in-Err.fault.word c.in-Err.fault.kind c.in-Err.ensures)
