use Rattle.gx_bundled.proofs.ExcludedCommits.{NamedBefore}
use Rattle.gx_bundled.proofs.excluded.names_in.Given as goal

abbrev pub invariant-loop-commit : goal.invariant-loop-commit
invariant-loop-commit g l = NamedBefore l.front.entries l.commit-iterator l.names.items
