use Rattle.gx_rev.specs.Objects.{IsHeld}
use Rattle.gx_questions.specs.Answers.{IfTold}
use Rattle.gx_questions.proofs.Suffixes.{GivesAlike}
use Rattle.gx_questions.proofs.suffix.eval_all.Given as goal

abbrev pub invariant-loop-suffix : goal.invariant-loop-suffix
invariant-loop-suffix g l = record {
  held : IfTold (g.O.Objects.told l.objects) IsHeld l.object;
  same : GivesAlike (g.O.Objects.told l.objects) l.fn.name l.object l.suffixes l.suffix-index;
}
