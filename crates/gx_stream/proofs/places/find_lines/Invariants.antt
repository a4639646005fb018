use Rattle.std.proofs.Common.{◌≡◌, ◌-◌, length}
use Rattle.gx_stream.specs.Places.{IsSearched}
use Rattle.gx_stream.proofs.places.find_lines.Given as goal

abbrev pub invariant-loop-line : goal.invariant-loop-line
invariant-loop-line l = record {
  searched : IsSearched l.text l.delimiter l.fails l.start l.scan;
  first : l.scan.first ≡ l.fn.scan.first;
}

abbrev pub decreases-loop-line : goal.decreases-loop-line
decreases-loop-line l = length l.text - l.scan.line
