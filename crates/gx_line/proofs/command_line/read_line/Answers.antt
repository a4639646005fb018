use Rattle.std.proofs.Common.{ap, sym, subst, ◌≡◌, ◌∙◌, map, List, Option, Some, None}
use Rattle.std.specs.Prelude.{IsSomeAnd}
use Rattle.std.specs.Box.{box_value}
use Rattle.std.proofs.lemmas.Result.{IfErr-weaker, IfOk-weaker}
use Rattle.clap.specs.Words.{App, Row, Text, app_of, found_of, is_simple, rows_of, subcommand_of, takes}
use Rattle.clap.specs.declared.parser.matches.ArgMatches.TheViews.{out-ArgMatches, out-SubCommand}
use Rattle.gx_line.specs.CommandLine.{Says, gx}
use Rattle.gx_line.proofs.NoLines.{for_memory, no_refusal, none_mapped}
use Rattle.gx_line.proofs.Weaker.{halves}
use Rattle.gx_line.proofs.command_line.read_line.Goals as goal

pub returns-in-Some-clause-line : goal.returns-in-Some-clause-line
returns-in-Some-clause-line c =
    let ws : List Text = map (λ s. s.now) c.args.words.now in
    let gx_is : app_of c.in_ok-command_line.field-0 ≡ gx = c.in_ok-command_line.ensures.app in
    let found = halves (λ b. ((out-SubCommand (box_value b)).name.now, rows_of (found_of (out-SubCommand (box_value b)).matches))) (out-ArgMatches c.in-Ok.matches).subcommand
    c.in-Some.name.now (rows_of (found_of c.in-Some.found.now)) c.in-Some.ensures.name c.in-Some.ensures.rows in
    let read : subcommand_of gx ws ≡ Some (c.in-Some.name.now, rows_of (found_of c.in-Some.found.now)) =
    sym (ap (λ (a : App). subcommand_of a ws) gx_is) ∙ sym ((c.in-Ok.ensures.matches (ap is_simple gx_is)).1) ∙ found in
    IfOk-weaker c.line_of.result _ _ (λ line h. subst (λ (o : Option (Text × List Row)). IsSomeAnd o (λ p. Says p.0 p.1 line)) (sym read) h) c.line_of.ensures.line

pub returns-in-Some-clause-refused : goal.returns-in-Some-clause-refused
returns-in-Some-clause-refused c =
    let ws : List Text = map (λ s. s.now) c.args.words.now in
    let gx_is : app_of c.in_ok-command_line.field-0 ≡ gx = c.in_ok-command_line.ensures.app in
    let found = halves (λ b. ((out-SubCommand (box_value b)).name.now, rows_of (found_of (out-SubCommand (box_value b)).matches))) (out-ArgMatches c.in-Ok.matches).subcommand
    c.in-Some.name.now (rows_of (found_of c.in-Some.found.now)) c.in-Some.ensures.name c.in-Some.ensures.rows in
    let read : subcommand_of gx ws ≡ Some (c.in-Some.name.now, rows_of (found_of c.in-Some.found.now)) =
    sym (ap (λ (a : App). subcommand_of a ws) gx_is) ∙ sym ((c.in-Ok.ensures.matches (ap is_simple gx_is)).1) ∙ found in
    IfErr-weaker c.line_of.result _ _ (λ fault h line says taken.
    no_refusal _ _ fault h line (subst (λ (o : Option (Text × List Row)). IsSomeAnd o (λ p. Says p.0 p.1 line)) read says)) c.line_of.ensures.refused

pub returns-clause-refused : goal.returns-clause-refused
returns-clause-refused c =
    let ws : List Text = map (λ s. s.now) c.args.words.now in
    let gx_is : app_of c.in_ok-command_line.field-0 ≡ gx = c.in_ok-command_line.ensures.app in
    let read : subcommand_of gx ws ≡ None =
    sym (ap (λ (a : App). subcommand_of a ws) gx_is) ∙ sym ((c.in-Ok.ensures.matches (ap is_simple gx_is)).1) ∙ none_mapped _ _ c.in-None.ensures.rows in
    λ line says taken. absurd (subst (λ (o : Option (Text × List Row)). IsSomeAnd o (λ p. Says p.0 p.1 line)) read says)

pub returns-in-Err-clause-refused : goal.returns-in-Err-clause-refused
returns-in-Err-clause-refused c = λ line says taken.
    for_memory _ _ c.fault_of.ensures (c.in-Err.ensures.passes (ap (λ (a : App). takes a (map (λ s. s.now) c.args.words.now)) c.in_ok-command_line.ensures.app ∙ taken))
