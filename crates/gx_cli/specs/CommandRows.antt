-- Worked rows: what is answered to lines of commands.
use Rattle.std.specs.Prelude.{◌≡◌, [], ◌∷◌, ◌++◌, codes, refl, Ok, Err}
use Rattle.std.specs.Fmt.{digits}
use Rattle.gx_model.specs.declared.faults.Fault.TheVariants.{Ambiguous, BadRevision}
use Rattle.gx_cli.specs.Commanding.{answered}
use Rattle.gx_print.specs.Asking.{log, ls, refs}
use Rattle.gx_print.specs.Stored.{of_word}

pub record AnswerRows : Type 0 where
  pub text : answered (codes "ls") (codes "main" ∷ []) (Ok (codes "a" ++ 10 ∷ [])) ≡ codes "ls 2" ++ 10 ∷ codes "a" ++ 10 ∷ 10 ∷ []
  pub nothing : answered (codes "refs") [] (Ok []) ≡ codes "refs 0" ++ 10 ∷ 10 ∷ []
  pub first_word : answered (codes "log") (codes "x" ∷ codes "y" ∷ []) (Err (of_word 1 BadRevision)) ≡ codes "x missing" ++ 10 ∷ []
  pub second_word : answered (codes "log") (codes "x" ∷ codes "y" ∷ []) (Err (of_word 2 Ambiguous)) ≡ codes "y ambiguous" ++ 10 ∷ []

pub answer_rows : AnswerRows
unfolding digits
answer_rows = record { text = refl; nothing = refl; first_word = refl; second_word = refl }
