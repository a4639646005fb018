use Rattle.std.specs.List.{AllByRecursion}
use Rattle.gx_model.specs.Histories.Marks.{IsAt}
use Rattle.gx_model.specs.Histories.Values.{Commit, parents_of}
use Rattle.gx_rev.specs.Ancestors.{IsCommitBefore}
use Rattle.gx_rev.proofs.PlaceLists.{HasFirst}
use Rattle.gx_rev.proofs.ancestors.insert_parents.Given as goal

abbrev pub invariant-loop-number : goal.invariant-loop-number
invariant-loop-number g l = record {
  before : AllByRecursion (IsCommitBefore l.repo.1 l.place) l.places.keys;
  parents : (made : Commit) → IsAt l.repo.1 l.place made → HasFirst l.repo.1 (parents_of made) l.number l.fn.places.keys l.places.keys;
}
