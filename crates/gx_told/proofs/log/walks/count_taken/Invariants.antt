use Rattle.std.specs.Prelude.{IfSome}
use Rattle.gx_ranges.specs.Listings.{places_left}
use Rattle.gx_told.proofs.TakenCommits.{Counts, Leads}
use Rattle.gx_told.proofs.log.walks.count_taken.Given as goal

abbrev pub invariant-loop-choice : goal.invariant-loop-choice
invariant-loop-choice g l = IfSome (g.O.Objects.told l.objects) (Leads (g.O.Objects.name_of l.objects) (g.O.Objects.stands l.objects) l.fn.walk l.fn.choice (Counts l.count) l.walk l.choice)

abbrev pub decreases-loop-choice : goal.decreases-loop-choice
decreases-loop-choice g l = places_left l.walk
