use Rattle.gx_told.proofs.WalkedCommits.{straight_printed}
use Rattle.gx_told.proofs.log.walks.print_chosen.Goals as goal

pub returns-else-options-2 : goal.returns-else-options-2
returns-else-options-2 g c =
    let o = c.args.objects.now in
    straight_printed (g.O.Objects.name_of o) c.args.options (g.O.Objects.stands o) c.args.walk.now (g.W.Sink.taken c.args.sink.now) c.if-options.false c.if-options-2.false (g.O.Objects.told o) (g.W.Sink.taken c.print_walk.new.sink) c.print_walk.result c.print_walk.ensures
