use Rattle.std.proofs.Common.{◌≡◌, drop, length}
use Rattle.gx_model.specs.declared.objects.Kind.TheVariants as kinds
use Rattle.gx_model.specs.Pruning.{links_of}
use Rattle.gx_kept.proofs.SetMarks.{MarksListedSoFar}
use Rattle.gx_kept.proofs.links.mark_tree_and_parents.Given as goal

abbrev pub invariant-loop-number : goal.invariant-loop-number
invariant-loop-number g l = (length l.marks ≡ length l.fn.marks) × MarksListedSoFar l.listing (links_of kinds.Commit l.body) (drop l.number l.commit.parents) l.fn.marks l.marks
