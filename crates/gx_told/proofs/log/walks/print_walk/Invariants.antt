use Rattle.std.specs.Prelude.{IfSome}
use Rattle.gx_ranges.specs.Listings.{places_left}
use Rattle.gx_told.proofs.WalkedCommits.{PrintsSome}
use Rattle.gx_told.proofs.log.walks.print_walk.Given as goal

abbrev pub invariant-loop-between : goal.invariant-loop-between
invariant-loop-between g l =
    IfSome (g.O.Objects.told l.objects) (PrintsSome (g.O.Objects.name_of l.objects) l.options (g.W.Sink.taken l.fn.sink) (g.O.Objects.stands l.objects) l.fn.walk l.walk l.choice l.between (g.W.Sink.taken l.sink))

abbrev pub decreases-loop-between : goal.decreases-loop-between
decreases-loop-between g l = places_left l.walk
