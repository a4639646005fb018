use Rattle.std.proofs.Common.{◌≡◌, ◌∷◌, [], List, length, suc}
use Rattle.gx_model.specs.Histories.{Record}
use Rattle.gx_placed.specs.Machine.{resumed, work_left}
use Rattle.gx_placed.specs.Places.{Extends}
use Rattle.gx_placed.specs.Steps.{Stands, all_begun, begun, slots}
use Rattle.gx_placed.proofs.placing.place_new.Given as goal

abbrev pub invariant-loop-frame : goal.invariant-loop-frame
invariant-loop-frame g l = record {
  namer : l.repo.0 ≡ l.fn.repo.0;
  refs : l.repo.1.refs ≡ l.fn.repo.1.refs;
  extends : Extends l.fn.repo.1.records l.repo.1.records;
  steps : (all : List Record) → Stands (g.N.Namer.name_of l.fn.repo.0) all l.fn.waiting l.fn.repo.1.records (begun l.fn.frame ∷ [])
      → Stands (g.N.Namer.name_of l.fn.repo.0) all l.waiting l.repo.1.records (all_begun l.frames)
      × (resumed (suc (length all)) all (begun l.fn.frame ∷ []) l.fn.repo.1.records ≡ resumed (suc (length all)) all (all_begun l.frames) l.repo.1.records);
}

abbrev pub decreases-loop-frame : goal.decreases-loop-frame
decreases-loop-frame g l = work_left (slots l.waiting) (all_begun l.frames)
