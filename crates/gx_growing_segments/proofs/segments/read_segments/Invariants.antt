use Rattle.std.proofs.Common.{◌≡◌, length}
use Rattle.gx_file.specs.TextEnds.{EndsWith}
use Rattle.gx_growing_segments.proofs.Ahead.{SegmentsAhead}
use Rattle.gx_growing_segments.proofs.segments.read_segments.Given as goal

abbrev pub invariant-loop-tail : goal.invariant-loop-tail
invariant-loop-tail g l = record {
  left : EndsWith l.whole l.rest;
  namer : l.repo.0 ≡ l.fn.repo.0;
  refs : l.repo.1.refs ≡ l.fn.repo.1.refs;
  aligned : length l.places.items ≡ length l.repo.1.records;
  ahead : SegmentsAhead (g.N.Namer.name_of l.fn.repo.0) (length l.whole) (length l.whole) l.fn.text l.repo.1.records l.places.items l.rest;
}

abbrev pub decreases-loop-tail : goal.decreases-loop-tail
decreases-loop-tail g l = length l.rest
