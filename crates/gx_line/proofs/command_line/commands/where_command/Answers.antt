use Rattle.std.proofs.Common.{ap, codes, subst, ◌∙◌}
use Rattle.clap.specs.Words.{new_app, with_rule}
use Rattle.gx_line.specs.Arguments.{bound, done, fault, place}
use Rattle.gx_line.specs.CommandLine.{Makes}
use Rattle.gx_line.proofs.NeededArguments.{conflict_rule, needs_rule, unless_rule}
use Rattle.gx_line.proofs.command_line.commands.where_command.Goals as goal

pub returns : goal.returns
returns c =
    let one = new_app (codes "where") in
    let two = with_rule one place in
    let three = with_rule two fault in
    let four = with_rule three (bound done) in
    let placing = unless_rule c.number-place.result c.in_ok-place.place _ c.in_ok-place.ensures ∙ ap bound c.number-place.ensures.rule in
    let faulty = conflict_rule c.flag.result c.in_ok-fault.fault _ c.in_ok-fault.ensures ∙ ap bound c.flag.ensures.rule in
    let closing = needs_rule c.done.result c.in_ok-done.done _ c.in_ok-done.ensures ∙ ap bound c.done.ensures.rule in
    let closed = conflict_rule c.in_ok-done.done c.in_ok-done-2.done _ c.in_ok-done-2.ensures ∙ ap bound closing in
    let forcing = needs_rule c.force.result c.in_ok-force.force _ c.in_ok-force.ensures ∙ ap bound c.force.ensures.rule in
    let forced = conflict_rule c.in_ok-force.force c.in_ok-force-2.force _ c.in_ok-force-2.ensures ∙ ap bound forcing in
    let first = subst (λ r. Makes c.with_argument-placed.result (with_rule one r)) placing (c.with_argument-placed.ensures one (c.command.ensures.app, c.command.ensures.local)) in
    let second = subst (λ r. Makes c.with_argument-placed-2.result (with_rule two r)) faulty (c.with_argument-placed-2.ensures two first) in
    let third = subst (λ r. Makes c.with_argument-placed-3.result (with_rule three r)) closed (c.with_argument-placed-3.ensures three second) in
    subst (λ r. Makes c.with_argument.result (with_rule four r)) forced (c.with_argument.ensures four third)
