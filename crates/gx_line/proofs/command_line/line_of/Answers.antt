use Rattle.gx_line.specs.CommandLine.{Says, Tries}
use Rattle.gx_line.proofs.command_line.line_of.Goals as goal

pub returns-in_ok-word_of-in-try-clause-line : goal.returns-in_ok-word_of-in-try-clause-line
unfolding Says Tries
returns-in_ok-word_of-in-try-clause-line c = (c.in-try.is, ((c.is_set.ensures, c.is_set-in-try.ensures), (c.is_set-in-try-2.ensures, c.in_ok-word_of-in-try.ensures.word)))
