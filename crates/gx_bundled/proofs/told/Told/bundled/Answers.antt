use Rattle.std.proofs.Common.{subst, sym}
use Rattle.std.specs.Prelude.{IfSome}
use Rattle.gx_model.specs.Texts.{Bytes}
use Rattle.gx_objects.specs.Answers.{SpellsRefs}
use Rattle.gx_kept.specs.Telling.{SpellsRefsOf}
use Rattle.gx_bundled.proofs.told.Told.bundled.Goals as goal

pub returns-clause-spelled : goal.returns-clause-spelled
returns-clause-spelled g c = subst SpellsRefs (sym c.as_slice.ensures.value) c.requires.spelled

pub returns-clause-held : goal.returns-clause-held
returns-clause-held g c = subst (λ (lines : Bytes). IfSome (g.O.Objects.told c.args._objects.now) (SpellsRefsOf lines)) (sym c.as_slice.ensures.value) c.requires.held
