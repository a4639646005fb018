use Rattle.std.proofs.lemmas.Result.{err_from_is_err_and}
use Rattle.gx_command.specs.Bodies.{shown_written, written_at}
use Rattle.gx_command.proofs.Sequences.{first_fails, then_reads, all_read}
use Rattle.gx_command.proofs.Explained.{explained_first, explained_then, explained_all}
use Rattle.gx_command.proofs.ahead.Ahead.written.Goals as goal

pub returns-in_err-author-clause-reads : goal.returns-in_err-author-clause-reads
unfolding written_at
returns-in_err-author-clause-reads g c =
    let p = err_from_is_err_and c.from_residual.result c.from_residual.ensures.1 in rw (p.1, p.2)
    (first_fails _ _ _ _ _ _ _ _ c.in_err-author.ensures.reads)

pub returns-in_err-committer-clause-reads : goal.returns-in_err-committer-clause-reads
unfolding written_at
returns-in_err-committer-clause-reads g c =
    let p = err_from_is_err_and c.from_residual-in_err-committer.result c.from_residual-in_err-committer.ensures.1 in rw (p.1, p.2)
    (then_reads _ _ _ _ _ _ _ _ _ c.in_ok-author.ensures.reads
    (first_fails _ _ _ _ _ _ _ _ c.in_err-committer.ensures.reads))

pub returns-in_err-check_unsigned-clause-reads : goal.returns-in_err-check_unsigned-clause-reads
unfolding written_at
returns-in_err-check_unsigned-clause-reads g c =
    let p = err_from_is_err_and c.from_residual-in_err-check_unsigned.result c.from_residual-in_err-check_unsigned.ensures.1 in rw (p.1, p.2)
    (then_reads _ _ _ _ _ _ _ _ _ c.in_ok-author.ensures.reads
    (then_reads _ _ _ _ _ _ _ _ _ c.in_ok-committer.ensures.reads
    (first_fails _ _ _ _ _ _ _ _ c.in_err-check_unsigned.ensures.reads)))

pub returns-in_err-encoding-clause-reads : goal.returns-in_err-encoding-clause-reads
unfolding written_at
returns-in_err-encoding-clause-reads g c =
    let p = err_from_is_err_and c.from_residual-in_err-encoding.result c.from_residual-in_err-encoding.ensures.1 in rw (p.1, p.2)
    (then_reads _ _ _ _ _ _ _ _ _ c.in_ok-author.ensures.reads
    (then_reads _ _ _ _ _ _ _ _ _ c.in_ok-committer.ensures.reads
    (then_reads _ _ _ _ _ _ _ _ _ c.in_ok-check_unsigned.ensures.reads
    (first_fails _ _ _ _ _ _ _ _ c.in_err-encoding.ensures.reads))))

pub returns-in_err-message-clause-reads : goal.returns-in_err-message-clause-reads
unfolding written_at
returns-in_err-message-clause-reads g c =
    let p = err_from_is_err_and c.from_residual-in_err-message.result c.from_residual-in_err-message.ensures.1 in rw (p.1, p.2)
    (then_reads _ _ _ _ _ _ _ _ _ c.in_ok-author.ensures.reads
    (then_reads _ _ _ _ _ _ _ _ _ c.in_ok-committer.ensures.reads
    (then_reads _ _ _ _ _ _ _ _ _ c.in_ok-check_unsigned.ensures.reads
    (then_reads _ _ _ _ _ _ _ _ _ c.in_ok-encoding.ensures.reads
    (first_fails _ _ _ _ _ _ _ _ c.in_err-message.ensures.reads)))))

pub returns-clause-reads : goal.returns-clause-reads
unfolding written_at
returns-clause-reads g c =
    (then_reads _ _ _ _ _ _ _ _ _ c.in_ok-author.ensures.reads
    (then_reads _ _ _ _ _ _ _ _ _ c.in_ok-committer.ensures.reads
    (then_reads _ _ _ _ _ _ _ _ _ c.in_ok-check_unsigned.ensures.reads
    (then_reads _ _ _ _ _ _ _ _ _ c.in_ok-encoding.ensures.reads
    (then_reads _ _ _ _ _ _ _ _ _ c.in_ok-message.ensures.reads
    (all_read shown_written _ _))))))

-- ---- what explains it

pub returns-in_err-author-clause-explains : goal.returns-in_err-author-clause-explains
unfolding written_at
returns-in_err-author-clause-explains g c =
    let p = err_from_is_err_and c.from_residual.result c.from_residual.ensures.1 in rw (p.1, p.2)
    (explained_first _ _ _ _ _ _ _ _ c.in_err-author.ensures.explains)

pub returns-in_err-committer-clause-explains : goal.returns-in_err-committer-clause-explains
unfolding written_at
returns-in_err-committer-clause-explains g c =
    let p = err_from_is_err_and c.from_residual-in_err-committer.result c.from_residual-in_err-committer.ensures.1 in rw (p.1, p.2)
    (explained_then _ _ _ _ _ _ _ _ _ c.in_ok-author.ensures.explains
    (explained_first _ _ _ _ _ _ _ _ c.in_err-committer.ensures.explains))

pub returns-in_err-check_unsigned-clause-explains : goal.returns-in_err-check_unsigned-clause-explains
unfolding written_at
returns-in_err-check_unsigned-clause-explains g c =
    let p = err_from_is_err_and c.from_residual-in_err-check_unsigned.result c.from_residual-in_err-check_unsigned.ensures.1 in rw (p.1, p.2)
    (explained_then _ _ _ _ _ _ _ _ _ c.in_ok-author.ensures.explains
    (explained_then _ _ _ _ _ _ _ _ _ c.in_ok-committer.ensures.explains
    (explained_first _ _ _ _ _ _ _ _ c.in_err-check_unsigned.ensures.explains)))

pub returns-in_err-encoding-clause-explains : goal.returns-in_err-encoding-clause-explains
unfolding written_at
returns-in_err-encoding-clause-explains g c =
    let p = err_from_is_err_and c.from_residual-in_err-encoding.result c.from_residual-in_err-encoding.ensures.1 in rw (p.1, p.2)
    (explained_then _ _ _ _ _ _ _ _ _ c.in_ok-author.ensures.explains
    (explained_then _ _ _ _ _ _ _ _ _ c.in_ok-committer.ensures.explains
    (explained_then _ _ _ _ _ _ _ _ _ c.in_ok-check_unsigned.ensures.explains
    (explained_first _ _ _ _ _ _ _ _ c.in_err-encoding.ensures.explains))))

pub returns-in_err-message-clause-explains : goal.returns-in_err-message-clause-explains
unfolding written_at
returns-in_err-message-clause-explains g c =
    let p = err_from_is_err_and c.from_residual-in_err-message.result c.from_residual-in_err-message.ensures.1 in rw (p.1, p.2)
    (explained_then _ _ _ _ _ _ _ _ _ c.in_ok-author.ensures.explains
    (explained_then _ _ _ _ _ _ _ _ _ c.in_ok-committer.ensures.explains
    (explained_then _ _ _ _ _ _ _ _ _ c.in_ok-check_unsigned.ensures.explains
    (explained_then _ _ _ _ _ _ _ _ _ c.in_ok-encoding.ensures.explains
    (explained_first _ _ _ _ _ _ _ _ c.in_err-message.ensures.explains)))))

pub returns-clause-explains : goal.returns-clause-explains
unfolding written_at
returns-clause-explains g c =
    (explained_then _ _ _ _ _ _ _ _ _ c.in_ok-author.ensures.explains
    (explained_then _ _ _ _ _ _ _ _ _ c.in_ok-committer.ensures.explains
    (explained_then _ _ _ _ _ _ _ _ _ c.in_ok-check_unsigned.ensures.explains
    (explained_then _ _ _ _ _ _ _ _ _ c.in_ok-encoding.ensures.explains
    (explained_then _ _ _ _ _ _ _ _ _ c.in_ok-message.ensures.explains
    (explained_all shown_written _ _))))))
