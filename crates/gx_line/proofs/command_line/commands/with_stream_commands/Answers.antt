use Rattle.std.proofs.Common.{codes, subst}
use Rattle.clap.specs.Words.{new_app, with_rule}
use Rattle.gx_line.specs.Arguments.{revision}
use Rattle.gx_line.specs.CommandLine.{Makes, adapt_command, check_command, try_command, under, where_command, with_features}
use Rattle.gx_line.proofs.command_line.commands.with_stream_commands.Goals as goal

pub returns : goal.returns
returns c = λ a h.
    let one = under a (new_app (codes "blobs")) in
    let two = under one try_command in
    let three = under two check_command in
    let four = under three adapt_command in
    let of_revision = subst (λ r. Makes c.with_argument-tried.result (with_rule (new_app (codes "try")) r)) c.revision.ensures.rule (c.with_argument-tried.ensures (new_app (codes "try")) (c.command-2.ensures.app, c.command-2.ensures.local)) in
    let asked = with_rule (new_app (codes "try")) revision in
    let featured = c.with_features.ensures asked of_revision in
    let tried = subst (λ r. Makes c.with_argument-try_command.result (with_rule (with_features asked) r)) c.explain.ensures.rule (c.with_argument-try_command.ensures (with_features asked) featured) in
    let first = c.with_command-gx.ensures a (new_app (codes "blobs")) h (c.command.ensures.app, c.command.ensures.local) in
    let second = c.with_command-gx-2.ensures one try_command first tried in
    let third = c.with_command-gx-3.ensures two check_command second c.check_command.ensures in
    let fourth = c.with_command-gx-4.ensures three adapt_command third c.adapt_command.ensures in
    c.with_command.ensures four where_command fourth c.where_command.ensures
