use Rattle.gx_rev.specs.Places.{IsHeldPlace}
use Rattle.gx_questions.specs.Answers.{IfTold}
use Rattle.gx_questions.proofs.Walks.{IsWalked}
use Rattle.gx_questions.proofs.places.walk_down.Given as goal

abbrev pub invariant-loop-place : goal.invariant-loop-place
invariant-loop-place g l = record {
  held : IfTold (g.O.Objects.told l.objects) IsHeldPlace (l.mode, l.name);
  same : IsWalked (g.O.Objects.told l.objects) l.fn.tree l.path (l.mode, l.name) l.place;
}
