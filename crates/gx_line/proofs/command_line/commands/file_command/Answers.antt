use Rattle.std.proofs.Common.{subst}
use Rattle.clap.specs.Words.{new_app, with_rule}
use Rattle.gx_line.specs.CommandLine.{Makes}
use Rattle.gx_line.proofs.command_line.commands.file_command.Goals as goal

pub returns : goal.returns
returns c = subst (λ r. Makes c.with_argument.result (with_rule (new_app c.args.name.now) r)) c.one_word-file.ensures.rule (c.with_argument.ensures (new_app c.args.name.now) (c.command.ensures.app, c.command.ensures.local))
