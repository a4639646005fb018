use Rattle.std.proofs.Common.{arith, sym, ◌∙◌}
use Rattle.std.proofs.lemmas.Grind.{common_steps}
use Rattle.gx_import.proofs.marks.Marks.set.Goals as goal

pub returns-in_ok-insert-clause-sets : goal.returns-in_ok-insert-clause-sets
returns-in_ok-insert-clause-sets g c = grind (arith, common_steps)

pub returns-in_err-insert-clause-unmarked : goal.returns-in_err-insert-clause-unmarked
returns-in_err-insert-clause-unmarked g c = λ none. absurd (cc (sym none ∙ c.in-Some.is))
