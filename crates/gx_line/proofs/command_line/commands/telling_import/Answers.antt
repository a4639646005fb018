use Rattle.std.proofs.Common.{codes, subst}
use Rattle.clap.specs.Words.{with_rule}
use Rattle.gx_line.specs.Arguments.{report}
use Rattle.gx_line.specs.CommandLine.{Makes, file_command, with_features}
use Rattle.gx_line.proofs.command_line.commands.telling_import.Goals as goal

pub returns : goal.returns
returns c =
    let featured = with_features (file_command (codes "import")) in
    let made = c.with_features-import.ensures (file_command (codes "import")) c.file_command.ensures in
    let reporting = subst (λ r. Makes c.with_argument-import.result (with_rule featured r)) c.flag-report.ensures.rule (c.with_argument-import.ensures featured made) in
    subst (λ r. Makes c.with_argument.result (with_rule (with_rule featured report) r)) c.explain.ensures.rule (c.with_argument.ensures (with_rule featured report) reporting)
