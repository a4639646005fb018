use Rattle.std.specs.List.{AllByRecursion}
use Rattle.gx_model.specs.Histories.Marks.{IsAt}
use Rattle.gx_model.specs.Histories.Values.{Commit, parents_of}
use Rattle.gx_rev.specs.Ancestors.{IsCommitBefore}
use Rattle.gx_rev.proofs.PlaceLists.{HasFirst}
use Rattle.gx_rev.proofs.ancestors.insert_places.Given as goal

abbrev pub invariant-loop-parent : goal.invariant-loop-parent
invariant-loop-parent g l = record {
  before : AllByRecursion (IsCommitBefore l.repo.1 l.place) l.places.keys;
  parents : (made : Commit) → IsAt l.repo.1 l.place made → HasFirst l.repo.1 (parents_of made) l.parent-index l.fn.places.keys l.places.keys;
}
