use Rattle.gx_kept.proofs.ListedStores.{AreListed}
use Rattle.gx_kept.proofs.listing.list.Given as goal

abbrev pub invariant-loop-number : goal.invariant-loop-number
invariant-loop-number g l = AreListed l.store.1 l.number l.listing
