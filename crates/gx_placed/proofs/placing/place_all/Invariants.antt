use Rattle.std.proofs.Common.{◌≡◌, length}
use Rattle.gx_placed.specs.Places.{Extends, shown_given}
use Rattle.gx_placed.proofs.Going.{AreSoFar}
use Rattle.gx_placed.proofs.placing.place_all.Given as goal

abbrev pub invariant-loop-place : goal.invariant-loop-place
invariant-loop-place g l = record {
  namer : l.repo.0 ≡ l.fn.repo.0;
  refs : l.repo.1.refs ≡ l.fn.repo.1.refs;
  extends : Extends l.fn.repo.1.records l.repo.1.records;
  ends : l.place-end ≡ length (shown_given l.fn.given);
  so_far : AreSoFar (g.N.Namer.name_of l.fn.repo.0) (shown_given l.fn.given) l.fn.repo.1.records l.waiting l.repo.1.records l.place;
}
