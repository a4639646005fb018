use Rattle.gx_model.specs.declared.objects.Kind.TheVariants as kinds
use Rattle.gx_rev.specs.Objects.{IsHeldAs}
use Rattle.gx_questions.specs.Answers.{IfTold}
use Rattle.gx_questions.proofs.Peeled.{LeadsOn}
use Rattle.gx_questions.proofs.objects.ancestor_of.Given as goal

abbrev pub invariant-loop-left : goal.invariant-loop-left
invariant-loop-left g l = record {
  held : IfTold (g.O.Objects.told l.objects) (IsHeldAs kinds.Commit) l.ancestor;
  same : LeadsOn (g.O.Objects.told l.objects) l.fn.commit l.fn.number l.ancestor l.left;
}

abbrev pub decreases-loop-left : goal.decreases-loop-left
decreases-loop-left g l = l.left
