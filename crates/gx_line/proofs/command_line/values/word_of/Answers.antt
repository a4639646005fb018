use Rattle.std.proofs.Common.{rules, sym, ◌∙◌}
use Rattle.clap.specs.Words.{found_of}
use Rattle.clap.proofs.WalkLemmas.{first_value-rows}
use Rattle.gx_line.proofs.command_line.values.word_of.Goals as goal

pub returns-in-Some-clause-word : goal.returns-in-Some-clause-word
returns-in-Some-clause-word c = rw (← first_value-rows (found_of c.args.matches.now) c.args.id.now, ← c.get_str.ensures) (search rules)

pub returns-in-None-clause-missing : goal.returns-in-None-clause-missing
returns-in-None-clause-missing c = sym (c.in-None.ensures ∙ first_value-rows (found_of c.args.matches.now) c.args.id.now)
