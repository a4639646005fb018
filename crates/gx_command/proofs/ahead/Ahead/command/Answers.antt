use Rattle.std.proofs.lemmas.Result.{err_from_is_err_and}
use Rattle.gx_command.proofs.TakenHeads.{body_fails, body_reads, command_refused, no_command}
use Rattle.gx_command.proofs.Explained.{explained_going, explained_going_fails, explained_none, explained_refused}
use Rattle.gx_command.specs.Heads.{begun, begun_there, first}
use Rattle.gx_command.specs.Views.{shown_command}
use Rattle.std.proofs.Common.{refl}
use Rattle.gx_command.proofs.ahead.Ahead.command.Goals as goal

pub returns-in_err-head-clause-reads : goal.returns-in_err-head-clause-reads
returns-in_err-head-clause-reads g c =
    let p = err_from_is_err_and c.from_residual.result c.from_residual.ensures.1 in
    rw (p.1, p.2) (command_refused g.row.A.Denot c.args.is_early _ _ _ _ c.in_err-head.ensures.takes)

pub returns-in-None-clause-reads : goal.returns-in-None-clause-reads
returns-in-None-clause-reads g c = no_command g.row.A.Denot c.args.is_early _ _ (rw c.in-None.is at c.in_ok-head.ensures.takes)

pub returns-in_err-body-in-Some-clause-reads : goal.returns-in_err-body-in-Some-clause-reads
returns-in_err-body-in-Some-clause-reads g c =
    let p = err_from_is_err_and c.from_residual-in_err-body-in-Some.result c.from_residual-in_err-body-in-Some.ensures.1 in
    rw (p.1, p.2) (body_fails g.row.A.Denot c.args.is_early c.in-Some.head _ _ _ _ _ (rw c.in-Some.is at c.in_ok-head.ensures.takes) c.in_err-body-in-Some.ensures.reads)

pub returns-in_ok-body-in-Some-clause-reads : goal.returns-in_ok-body-in-Some-clause-reads
returns-in_ok-body-in-Some-clause-reads g c = body_reads c.args.is_early c.in-Some.head _ _ _ _ (rw c.in-Some.is at c.in_ok-head.ensures.takes) c.in_ok-body-in-Some.ensures.reads

pub returns-in_err-head-clause-explains : goal.returns-in_err-head-clause-explains
returns-in_err-head-clause-explains g c =
    let p = err_from_is_err_and c.from_residual.result c.from_residual.ensures.1 in
    rw (p.1, p.2) (explained_refused (begun_there {A = g.row.A.Denot}) (first c.args.is_early) shown_command _ (λ s. Unit {0}) _ _ c.in_err-head.ensures.explains)

pub returns-in-None-clause-explains : goal.returns-in-None-clause-explains
returns-in-None-clause-explains g c = explained_none (begun_there {A = g.row.A.Denot}) (first c.args.is_early) shown_command _ _ (rw c.in-None.is at c.in_ok-head.ensures.explains)

pub returns-in_err-body-in-Some-clause-explains : goal.returns-in_err-body-in-Some-clause-explains
returns-in_err-body-in-Some-clause-explains g c =
    let p = err_from_is_err_and c.from_residual-in_err-body-in-Some.result c.from_residual-in_err-body-in-Some.ensures.1 in
    rw (p.1, p.2) (explained_going_fails begun_there (first c.args.is_early) c.in-Some.head shown_command (begun c.in-Some.head) _ shown_command _ _ _ _ _ (λ t. refl) (rw c.in-Some.is at c.in_ok-head.ensures.explains) c.in_err-body-in-Some.ensures.explains)

pub returns-in_ok-body-in-Some-clause-explains : goal.returns-in_ok-body-in-Some-clause-explains
returns-in_ok-body-in-Some-clause-explains g c =
    explained_going begun_there (first c.args.is_early) c.in-Some.head shown_command (begun c.in-Some.head) _ shown_command _ _ _ _ _ (λ t. refl) (λ t. refl) (rw c.in-Some.is at c.in_ok-head.ensures.explains) c.in_ok-body-in-Some.ensures.explains
