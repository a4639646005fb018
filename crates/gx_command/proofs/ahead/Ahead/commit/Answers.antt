use Rattle.std.proofs.lemmas.Result.{err_from_is_err_and}
use Rattle.gx_model.specs.Streams.Grammar.{commit_at}
use Rattle.gx_command.specs.Views.{shown_commit}
use Rattle.gx_command.proofs.Sequences.{first_fails, then_reads, all_read}
use Rattle.gx_command.proofs.WrittenCommits.{commit_behind, reads_alike, written_first}
use Rattle.gx_command.proofs.Explained.{explained_first, explained_then, explained_all, explained_alike}
use Rattle.gx_command.proofs.ahead.Ahead.commit.Goals as goal

pub returns-in_err-mark-clause-reads : goal.returns-in_err-mark-clause-reads
unfolding commit_at
returns-in_err-mark-clause-reads g c =
    let p = err_from_is_err_and c.from_residual.result c.from_residual.ensures.1 in rw (p.1, p.2)
    (first_fails _ _ _ _ _ _ _ _ c.in_err-mark.ensures.reads)

pub returns-in_err-skip_oid-clause-reads : goal.returns-in_err-skip_oid-clause-reads
unfolding commit_at
returns-in_err-skip_oid-clause-reads g c =
    let p = err_from_is_err_and c.from_residual-in_err-skip_oid.result c.from_residual-in_err-skip_oid.ensures.1 in rw (p.1, p.2)
    (then_reads _ _ _ _ _ _ _ _ _ c.in_ok-mark.ensures.reads
    (first_fails _ _ _ _ _ _ _ _ c.in_err-skip_oid.ensures.reads))

pub returns-in_err-written-clause-reads : goal.returns-in_err-written-clause-reads
unfolding commit_at
returns-in_err-written-clause-reads g c =
    let p = err_from_is_err_and c.from_residual-in_err-written.result c.from_residual-in_err-written.ensures.1 in rw (p.1, p.2)
    (then_reads _ _ _ _ _ _ _ _ _ c.in_ok-mark.ensures.reads
    (then_reads _ _ _ _ _ _ _ _ _ c.in_ok-skip_oid.ensures.reads
    (reads_alike _ _ _ _ _ _ (written_first (commit_behind c.args.branch.bytes.items c.in_ok-mark.mark))
    (first_fails _ _ _ _ _ _ _ _ c.in_err-written.ensures.reads))))

pub returns-in_err-links-clause-reads : goal.returns-in_err-links-clause-reads
unfolding commit_at
returns-in_err-links-clause-reads g c =
    let p = err_from_is_err_and c.from_residual-in_err-links.result c.from_residual-in_err-links.ensures.1 in rw (p.1, p.2)
    (then_reads _ _ _ _ _ _ _ _ _ c.in_ok-mark.ensures.reads
    (then_reads _ _ _ _ _ _ _ _ _ c.in_ok-skip_oid.ensures.reads
    (reads_alike _ _ _ _ _ _ (written_first (commit_behind c.args.branch.bytes.items c.in_ok-mark.mark))
    (then_reads _ _ _ _ _ _ _ _ _ c.in_ok-written.ensures.reads
    (first_fails _ _ _ _ _ _ _ _ c.in_err-links.ensures.reads)))))

pub returns-clause-reads : goal.returns-clause-reads
unfolding commit_at
returns-clause-reads g c =
    (then_reads _ _ _ _ _ _ _ _ _ c.in_ok-mark.ensures.reads
    (then_reads _ _ _ _ _ _ _ _ _ c.in_ok-skip_oid.ensures.reads
    (reads_alike _ _ _ _ _ _ (written_first (commit_behind c.args.branch.bytes.items c.in_ok-mark.mark))
    (then_reads _ _ _ _ _ _ _ _ _ c.in_ok-written.ensures.reads
    (then_reads _ _ _ _ _ _ _ _ _ c.in_ok-links.ensures.reads
    (all_read shown_commit _ _))))))

-- ---- what explains it

pub returns-in_err-mark-clause-explains : goal.returns-in_err-mark-clause-explains
unfolding commit_at
returns-in_err-mark-clause-explains g c =
    let p = err_from_is_err_and c.from_residual.result c.from_residual.ensures.1 in rw (p.1, p.2)
    (explained_first _ _ _ _ _ _ _ _ c.in_err-mark.ensures.explains)

pub returns-in_err-skip_oid-clause-explains : goal.returns-in_err-skip_oid-clause-explains
unfolding commit_at
returns-in_err-skip_oid-clause-explains g c =
    let p = err_from_is_err_and c.from_residual-in_err-skip_oid.result c.from_residual-in_err-skip_oid.ensures.1 in rw (p.1, p.2)
    (explained_then _ _ _ _ _ _ _ _ _ c.in_ok-mark.ensures.explains
    (explained_first _ _ _ _ _ _ _ _ c.in_err-skip_oid.ensures.explains))

pub returns-in_err-written-clause-explains : goal.returns-in_err-written-clause-explains
unfolding commit_at
returns-in_err-written-clause-explains g c =
    let p = err_from_is_err_and c.from_residual-in_err-written.result c.from_residual-in_err-written.ensures.1 in rw (p.1, p.2)
    (explained_then _ _ _ _ _ _ _ _ _ c.in_ok-mark.ensures.explains
    (explained_then _ _ _ _ _ _ _ _ _ c.in_ok-skip_oid.ensures.explains
    (explained_alike _ _ _ _ _ _ (written_first (commit_behind c.args.branch.bytes.items c.in_ok-mark.mark))
    (explained_first _ _ _ _ _ _ _ _ c.in_err-written.ensures.explains))))

pub returns-in_err-links-clause-explains : goal.returns-in_err-links-clause-explains
unfolding commit_at
returns-in_err-links-clause-explains g c =
    let p = err_from_is_err_and c.from_residual-in_err-links.result c.from_residual-in_err-links.ensures.1 in rw (p.1, p.2)
    (explained_then _ _ _ _ _ _ _ _ _ c.in_ok-mark.ensures.explains
    (explained_then _ _ _ _ _ _ _ _ _ c.in_ok-skip_oid.ensures.explains
    (explained_alike _ _ _ _ _ _ (written_first (commit_behind c.args.branch.bytes.items c.in_ok-mark.mark))
    (explained_then _ _ _ _ _ _ _ _ _ c.in_ok-written.ensures.explains
    (explained_first _ _ _ _ _ _ _ _ c.in_err-links.ensures.explains)))))

pub returns-clause-explains : goal.returns-clause-explains
unfolding commit_at
returns-clause-explains g c =
    (explained_then _ _ _ _ _ _ _ _ _ c.in_ok-mark.ensures.explains
    (explained_then _ _ _ _ _ _ _ _ _ c.in_ok-skip_oid.ensures.explains
    (explained_alike _ _ _ _ _ _ (written_first (commit_behind c.args.branch.bytes.items c.in_ok-mark.mark))
    (explained_then _ _ _ _ _ _ _ _ _ c.in_ok-written.ensures.explains
    (explained_then _ _ _ _ _ _ _ _ _ c.in_ok-links.ensures.explains
    (explained_all shown_commit _ _))))))
