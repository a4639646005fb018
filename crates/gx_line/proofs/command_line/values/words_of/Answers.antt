use Rattle.std.proofs.Common.{rules, sym, ◌∙◌}
use Rattle.clap.specs.Words.{found_of}
use Rattle.clap.proofs.WalkLemmas.{raw_values-rows}
use Rattle.gx_line.proofs.NoLines.{caused}
use Rattle.gx_line.proofs.command_line.values.words_of.Goals as goal

pub returns-in_ok-from_slice-in-Some-clause-words : goal.returns-in_ok-from_slice-in-Some-clause-words
returns-in_ok-from_slice-in-Some-clause-words c = rw (← raw_values-rows (found_of c.args.matches.now) c.args.id.now, ← c.get_strs.ensures) (search rules)

pub returns-in-None-clause-missing : goal.returns-in-None-clause-missing
returns-in-None-clause-missing c = caused _ _ (sym (c.in-None.ensures ∙ raw_values-rows (found_of c.args.matches.now) c.args.id.now))
