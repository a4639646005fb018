use Rattle.std.proofs.Common.{◌≡◌, ◌≤◌, Bool, List, drop, length, map}
use Rattle.gx_model.specs.Laws.RepositoryLaws.{values_of}
use Rattle.gx_rev.specs.Walking.{AreWithout}
use Rattle.gx_rev.proofs.WordMarks.{names_back}
use Rattle.gx_rev.proofs.walking.names_marked.Given as goal

abbrev pub invariant-loop-left : goal.invariant-loop-left
invariant-loop-left g l = record {
  within : l.left ≤ length l.included;
  named : (marks : List Bool) → length marks ≡ length l.included → AreWithout marks l.included l.excluded
      → map (λ n. n.bytes) l.names.items ≡ names_back (g.N.Namer.name_of l.repo.0) (drop l.left (values_of l.repo.1)) (drop l.left marks);
}

abbrev pub decreases-loop-left : goal.decreases-loop-left
decreases-loop-left g l = l.left
