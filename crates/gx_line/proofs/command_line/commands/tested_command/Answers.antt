use Rattle.std.proofs.Common.{codes, subst}
use Rattle.clap.specs.Words.{with_rule}
use Rattle.gx_line.specs.Arguments.{text}
use Rattle.gx_line.specs.CommandLine.{Makes}
use Rattle.gx_line.proofs.command_line.commands.tested_command.Goals as goal

pub returns : goal.returns
returns c = λ a h.
    let one = with_rule a (text (codes "points-at")) in
    let two = with_rule one (text (codes "contains")) in
    let three = with_rule two (text (codes "no-contains")) in
    let four = with_rule three (text (codes "merged")) in
    let first = subst (λ r. Makes c.with_argument-refs.result (with_rule a r)) c.text.ensures.rule (c.with_argument-refs.ensures a h) in
    let second = subst (λ r. Makes c.with_argument-refs-2.result (with_rule one r)) c.text-2.ensures.rule (c.with_argument-refs-2.ensures one first) in
    let third = subst (λ r. Makes c.with_argument-refs-3.result (with_rule two r)) c.text-3.ensures.rule (c.with_argument-refs-3.ensures two second) in
    let fourth = subst (λ r. Makes c.with_argument-refs-4.result (with_rule three r)) c.text-4.ensures.rule (c.with_argument-refs-4.ensures three third) in
    subst (λ r. Makes c.with_argument.result (with_rule four r)) c.text-5.ensures.rule (c.with_argument.ensures four fourth)
