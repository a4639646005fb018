use Rattle.std.proofs.Common.{◌-◌, length}
use Rattle.gx_stream.specs.Places.{GoesTo, Skipped, IsScanned}
use Rattle.gx_stream.proofs.places.find_item.Given as goal

abbrev pub invariant-loop-line : goal.invariant-loop-line
invariant-loop-line l =
    record {
      skipped : Skipped l.text l.fails l.fn.at l.at;
      scanned : IsScanned l.text l.fails l.at l.scan;
      first : GoesTo l.text l.at l.scan.first;
    }

abbrev pub decreases-loop-line : goal.decreases-loop-line
decreases-loop-line l = length l.text - l.at
