use Rattle.std.proofs.Common.{◌≡◌, ◌++◌}
use Rattle.std.specs.List.{flat_map}
use Rattle.gx_c.specs.Listings.{listed}
use Rattle.gx_c.proofs.listing.put_entries.Given as goal

abbrev pub invariant-loop-entry : goal.invariant-loop-entry
invariant-loop-entry g l = l.text.items ++ flat_map listed l.entry-iterator ≡ flat_map listed l.fn.entries
