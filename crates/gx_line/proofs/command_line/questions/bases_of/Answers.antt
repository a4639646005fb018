use Rattle.std.proofs.Common.{codes, subst, true, ◌≡◌, ◌∙◌}
use Rattle.clap.specs.Words.{found_of, rows_of}
use Rattle.gx_line.specs.CommandLine.{IsFlag}
use Rattle.gx_line.proofs.NoLines.{caused, no_bases, one_word}
use Rattle.gx_line.proofs.command_line.questions.bases_of.Goals as goal

-- src/command_line/questions.rt:167:1
pub returns-clause-refused : goal.returns-clause-refused
returns-clause-refused c =
    let set : c.is_set.result ≡ true = cc in
    let flag = subst (λ b. IsFlag (codes "is-ancestor") (rows_of (found_of c.args.matches.now)) b) set c.is_set.ensures in
    caused _ _ (no_bases _ flag (one_word _ _ c.in_ok-others.ensures.words (λ word same. c.in-None.ensures.none word (c.as_slice.ensures.value ∙ same))))
