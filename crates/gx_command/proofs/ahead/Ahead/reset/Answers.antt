use Rattle.std.proofs.lemmas.Result.{err_from_is_err_and}
use Rattle.gx_model.specs.Streams.Grammar.{reset_at}
use Rattle.gx_command.specs.Views.{shown_reset}
use Rattle.gx_command.proofs.Sequences.{first_fails, then_reads, all_read}
use Rattle.gx_command.proofs.Explained.{explained_first, explained_then, explained_all}
use Rattle.gx_command.proofs.ahead.Ahead.reset.Goals as goal

pub returns-in_err-from-clause-reads : goal.returns-in_err-from-clause-reads
unfolding reset_at
returns-in_err-from-clause-reads g c =
    let p = err_from_is_err_and c.from_residual.result c.from_residual.ensures.1 in rw (p.1, p.2)
    (first_fails _ _ _ _ _ _ _ _ c.in_err-from.ensures.reads)

pub returns-in_err-end-clause-reads : goal.returns-in_err-end-clause-reads
unfolding reset_at
returns-in_err-end-clause-reads g c =
    let p = err_from_is_err_and c.from_residual-in_err-end.result c.from_residual-in_err-end.ensures.1 in rw (p.1, p.2)
    (then_reads _ _ _ _ _ _ _ _ _ c.in_ok-from.ensures.reads
    (first_fails _ _ _ _ _ _ _ _ c.in_err-end.ensures.reads))

pub returns-clause-reads : goal.returns-clause-reads
unfolding reset_at
returns-clause-reads g c =
    (then_reads _ _ _ _ _ _ _ _ _ c.in_ok-from.ensures.reads
    (then_reads _ _ _ _ _ _ _ _ _ c.in_ok-end.ensures.reads
    (all_read shown_reset _ _)))

-- ---- what explains it

pub returns-in_err-from-clause-explains : goal.returns-in_err-from-clause-explains
unfolding reset_at
returns-in_err-from-clause-explains g c =
    let p = err_from_is_err_and c.from_residual.result c.from_residual.ensures.1 in rw (p.1, p.2)
    (explained_first _ _ _ _ _ _ _ _ c.in_err-from.ensures.explains)

pub returns-in_err-end-clause-explains : goal.returns-in_err-end-clause-explains
unfolding reset_at
returns-in_err-end-clause-explains g c =
    let p = err_from_is_err_and c.from_residual-in_err-end.result c.from_residual-in_err-end.ensures.1 in rw (p.1, p.2)
    (explained_then _ _ _ _ _ _ _ _ _ c.in_ok-from.ensures.explains
    (explained_first _ _ _ _ _ _ _ _ c.in_err-end.ensures.explains))

pub returns-clause-explains : goal.returns-clause-explains
unfolding reset_at
returns-clause-explains g c =
    (explained_then _ _ _ _ _ _ _ _ _ c.in_ok-from.ensures.explains
    (explained_then _ _ _ _ _ _ _ _ _ c.in_ok-end.ensures.explains
    (explained_all shown_reset _ _)))
