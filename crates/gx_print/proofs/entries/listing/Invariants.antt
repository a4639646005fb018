use Rattle.std.proofs.Common.{◌≡◌, ◌++◌}
use Rattle.std.specs.List.{flat_map}
use Rattle.gx_print.specs.Listings.{entry_line}
use Rattle.gx_print.proofs.entries.listing.Given as goal

abbrev pub invariant-loop-entry : goal.invariant-loop-entry
invariant-loop-entry g l = l.text.items ++ flat_map entry_line l.entry-iterator ≡ flat_map entry_line l.fn.entries
