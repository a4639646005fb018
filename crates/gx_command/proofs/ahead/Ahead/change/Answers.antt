use Rattle.std.proofs.lemmas.Result.{err_from_is_err_and}
use Rattle.gx_command.proofs.TakenChanges.{modify_reads, modify_fails}
use Rattle.gx_command.proofs.Explained.{explained_going, explained_going_fails}
use Rattle.gx_command.specs.Bodies.{begun_change, next_change}
use Rattle.gx_command.specs.ChangeLines.{completed_modify}
use Rattle.gx_command.specs.Views.{shown_change, shown_modify}
use Rattle.std.proofs.Common.{Ok, Some, refl}
use Rattle.gx_command.specs.declared.change_lines.ChangeLine.TheVariants as lines
use Rattle.gx_command.specs.declared.commands.Change.TheVariants as changes
use Rattle.gx_command.proofs.ahead.Ahead.change.Goals as goal

pub returns-in_err-modify-in-Some-Modify-clause-reads : goal.returns-in_err-modify-in-Some-Modify-clause-reads
returns-in_err-modify-in-Some-Modify-clause-reads g c =
    let p = err_from_is_err_and c.from_residual-in_err-modify-in-Some-Modify.result c.from_residual-in_err-modify-in-Some-Modify.ensures.1 in
    rw (p.1, p.2) (modify_fails c.in-Some-Modify.line _ _ _ _ _ (rw c.in-Some-Modify.field-0-is at (rw c.in-Some-Modify.is at c.in_ok-change_line.ensures.takes)) c.in_err-modify-in-Some-Modify.ensures.reads)

pub returns-in_ok-modify-in-Some-Modify-clause-reads : goal.returns-in_ok-modify-in-Some-Modify-clause-reads
returns-in_ok-modify-in-Some-Modify-clause-reads g c =
    modify_reads c.in-Some-Modify.line c.in_ok-modify-in-Some-Modify.field-0 _ _ _ (rw c.in-Some-Modify.field-0-is at (rw c.in-Some-Modify.is at c.in_ok-change_line.ensures.takes)) c.in_ok-modify-in-Some-Modify.ensures.reads

pub returns-in_err-modify-in-Some-Modify-clause-explains : goal.returns-in_err-modify-in-Some-Modify-clause-explains
returns-in_err-modify-in-Some-Modify-clause-explains g c =
    let p = err_from_is_err_and c.from_residual-in_err-modify-in-Some-Modify.result c.from_residual-in_err-modify-in-Some-Modify.ensures.1 in
    rw (p.1, p.2) (explained_going_fails (begun_change {A = g.row.A.Denot}) next_change (lines.Modify c.in-Some-Modify.line) shown_modify (completed_modify c.in-Some-Modify.line) (λ x. Ok (Some x.0, x.1)) shown_change _ _ _ _ _ (λ t. refl) (rw c.in-Some-Modify.field-0-is at (rw c.in-Some-Modify.is at c.in_ok-change_line.ensures.explains)) c.in_err-modify-in-Some-Modify.ensures.explains)

pub returns-in_ok-modify-in-Some-Modify-clause-explains : goal.returns-in_ok-modify-in-Some-Modify-clause-explains
returns-in_ok-modify-in-Some-Modify-clause-explains g c =
    explained_going (begun_change {A = g.row.A.Denot}) next_change (lines.Modify c.in-Some-Modify.line) shown_modify (completed_modify c.in-Some-Modify.line) (λ x. Ok (Some x.0, x.1)) shown_change _ _ _ _ (changes.Modify c.in_ok-modify-in-Some-Modify.field-0) (λ t. refl) (λ t. refl) (rw c.in-Some-Modify.field-0-is at (rw c.in-Some-Modify.is at c.in_ok-change_line.ensures.explains)) c.in_ok-modify-in-Some-Modify.ensures.explains
