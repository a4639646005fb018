use Rattle.std.specs.Option.{option_map}
use Rattle.std.proofs.lemmas.Result.{err_from_is_err_and}
use Rattle.gx_command.specs.Heads.{first}
use Rattle.gx_command.specs.Reading.{or_missing}
use Rattle.gx_command.specs.Views.{shown_command}
use Rattle.gx_command.proofs.NextCommands.{next_missing, next_none, next_there}
use Rattle.gx_command.proofs.Sequences.{first_fails}
use Rattle.gx_command.proofs.ExplainedCommands.{end_explained, missing_explained, next_explained}
use Rattle.gx_command.proofs.Explained.{explained_first}
use Rattle.gx_command.proofs.ExplainedItems.{some_ahead}
use Rattle.gx_command.proofs.reader.next_command.Goals as goal

pub returns-in_err-command-clause-reads : goal.returns-in_err-command-clause-reads
returns-in_err-command-clause-reads g c =
    let p = err_from_is_err_and c.from_residual.result c.from_residual.ensures.1 in
    rw (p.1, p.2) (first_fails (option_map shown_command) (first c.args.options.are_all) (or_missing c.args.options) (option_map shown_command) _ _ _ _ c.in_err-command.ensures.reads)

pub returns-in-Some-clause-reads : goal.returns-in-Some-clause-reads
returns-in-Some-clause-reads g c = next_there c.args.options c.in-Some.command _ _ (rw c.in-Some.is at c.in_ok-command.ensures.reads)

pub returns-in-None-clause-reads : goal.returns-in-None-clause-reads
returns-in-None-clause-reads g c = next_missing g.row.A.Denot c.args.options _ _ _ c.if-options.true (rw c.in-None.is at c.in_ok-command.ensures.reads)

pub returns-in-None-2-clause-reads : goal.returns-in-None-2-clause-reads
returns-in-None-2-clause-reads g c = next_none g.row.A.Denot c.args.options _ _ c.if-options.false (rw c.in-None-2.is at c.in_ok-command.ensures.reads)

pub returns-in_err-command-clause-explains : goal.returns-in_err-command-clause-explains
returns-in_err-command-clause-explains g c =
    let p = err_from_is_err_and c.from_residual.result c.from_residual.ensures.1 in
    rw (p.1, p.2) (explained_first (option_map shown_command) (first c.args.options.are_all) (or_missing c.args.options) (option_map shown_command) _ _ _ _ c.in_err-command.ensures.explains)

pub returns-in-Some-clause-explains : goal.returns-in-Some-clause-explains
returns-in-Some-clause-explains g c = next_explained c.args.options _ _ c.in-Some.command (rw c.in-Some.is at c.in_ok-command.ensures.explains)

pub returns-in-None-clause-explains : goal.returns-in-None-clause-explains
returns-in-None-clause-explains g c =
    let some = some_ahead c.command.new.self in
    missing_explained c.args.options _ _ g.row.A.Denot _ some.0 some.1 c.if-options.true (rw c.in-None.is at c.in_ok-command.ensures.explains)

pub returns-in-None-2-clause-explains : goal.returns-in-None-2-clause-explains
returns-in-None-2-clause-explains g c = end_explained c.args.options _ _ g.row.A.Denot c.if-options.false (rw c.in-None-2.is at c.in_ok-command.ensures.explains)
