use Rattle.std.specs.Prelude.{IfSome}
use Rattle.gx_ranges.specs.Listings.{places_left}
use Rattle.gx_ranges.proofs.Listings.{NamesFirst}
use Rattle.gx_ranges.proofs.walking.all_names.Given as goal

abbrev pub invariant-loop-names : goal.invariant-loop-names
invariant-loop-names g l = IfSome (g.O.Objects.told l.objects) (NamesFirst (g.O.Objects.stands l.objects) l.fn.walk l.walk l.names.items)

abbrev pub decreases-loop-names : goal.decreases-loop-names
decreases-loop-names g l = places_left l.walk
