use Rattle.std.proofs.Common.{◌≡◌}
use Rattle.gx_model.specs.declared.objects.Kind.TheVariants as kinds
use Rattle.gx_model.specs.Revisions.Denotation.{nth_ancestor}
use Rattle.gx_rev.specs.Objects.{IsHeldAs, commit_at}
use Rattle.gx_rev.proofs.objects.ancestor_of.Given as goal

abbrev pub invariant-loop-left : goal.invariant-loop-left
invariant-loop-left g l = record {
  held : IsHeldAs kinds.Commit l.repo.1 l.ancestor;
  same : nth_ancestor l.fn.number (commit_at l.repo.1 l.fn.commit) ≡ nth_ancestor l.left (commit_at l.repo.1 l.ancestor);
}

abbrev pub decreases-loop-left : goal.decreases-loop-left
decreases-loop-left g l = l.left
