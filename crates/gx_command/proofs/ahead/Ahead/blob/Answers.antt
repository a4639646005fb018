use Rattle.std.proofs.lemmas.Result.{err_from_is_err_and}
use Rattle.gx_model.specs.Streams.Grammar.{blob_at}
use Rattle.gx_command.specs.Views.{shown_blob}
use Rattle.gx_command.proofs.Sequences.{first_fails, then_reads, all_read}
use Rattle.gx_command.proofs.Explained.{explained_first, explained_then, explained_all}
use Rattle.gx_command.proofs.ahead.Ahead.blob.Goals as goal

pub returns-in_err-mark-clause-reads : goal.returns-in_err-mark-clause-reads
unfolding blob_at
returns-in_err-mark-clause-reads g c =
    let p = err_from_is_err_and c.from_residual.result c.from_residual.ensures.1 in rw (p.1, p.2)
    (first_fails _ _ _ _ _ _ _ _ c.in_err-mark.ensures.reads)

pub returns-in_err-skip_oid-clause-reads : goal.returns-in_err-skip_oid-clause-reads
unfolding blob_at
returns-in_err-skip_oid-clause-reads g c =
    let p = err_from_is_err_and c.from_residual-in_err-skip_oid.result c.from_residual-in_err-skip_oid.ensures.1 in rw (p.1, p.2)
    (then_reads _ _ _ _ _ _ _ _ _ c.in_ok-mark.ensures.reads
    (first_fails _ _ _ _ _ _ _ _ c.in_err-skip_oid.ensures.reads))

pub returns-in_err-bytes-clause-reads : goal.returns-in_err-bytes-clause-reads
unfolding blob_at
returns-in_err-bytes-clause-reads g c =
    let p = err_from_is_err_and c.from_residual-in_err-bytes.result c.from_residual-in_err-bytes.ensures.1 in rw (p.1, p.2)
    (then_reads _ _ _ _ _ _ _ _ _ c.in_ok-mark.ensures.reads
    (then_reads _ _ _ _ _ _ _ _ _ c.in_ok-skip_oid.ensures.reads
    (first_fails _ _ _ _ _ _ _ _ c.in_err-bytes.ensures.reads)))

pub returns-clause-reads : goal.returns-clause-reads
unfolding blob_at
returns-clause-reads g c =
    (then_reads _ _ _ _ _ _ _ _ _ c.in_ok-mark.ensures.reads
    (then_reads _ _ _ _ _ _ _ _ _ c.in_ok-skip_oid.ensures.reads
    (then_reads _ _ _ _ _ _ _ _ _ c.in_ok-bytes.ensures.reads
    (all_read shown_blob _ _))))

-- ---- what explains it

pub returns-in_err-mark-clause-explains : goal.returns-in_err-mark-clause-explains
unfolding blob_at
returns-in_err-mark-clause-explains g c =
    let p = err_from_is_err_and c.from_residual.result c.from_residual.ensures.1 in rw (p.1, p.2)
    (explained_first _ _ _ _ _ _ _ _ c.in_err-mark.ensures.explains)

pub returns-in_err-skip_oid-clause-explains : goal.returns-in_err-skip_oid-clause-explains
unfolding blob_at
returns-in_err-skip_oid-clause-explains g c =
    let p = err_from_is_err_and c.from_residual-in_err-skip_oid.result c.from_residual-in_err-skip_oid.ensures.1 in rw (p.1, p.2)
    (explained_then _ _ _ _ _ _ _ _ _ c.in_ok-mark.ensures.explains
    (explained_first _ _ _ _ _ _ _ _ c.in_err-skip_oid.ensures.explains))

pub returns-in_err-bytes-clause-explains : goal.returns-in_err-bytes-clause-explains
unfolding blob_at
returns-in_err-bytes-clause-explains g c =
    let p = err_from_is_err_and c.from_residual-in_err-bytes.result c.from_residual-in_err-bytes.ensures.1 in rw (p.1, p.2)
    (explained_then _ _ _ _ _ _ _ _ _ c.in_ok-mark.ensures.explains
    (explained_then _ _ _ _ _ _ _ _ _ c.in_ok-skip_oid.ensures.explains
    (explained_first _ _ _ _ _ _ _ _ c.in_err-bytes.ensures.explains)))

pub returns-clause-explains : goal.returns-clause-explains
unfolding blob_at
returns-clause-explains g c =
    (explained_then _ _ _ _ _ _ _ _ _ c.in_ok-mark.ensures.explains
    (explained_then _ _ _ _ _ _ _ _ _ c.in_ok-skip_oid.ensures.explains
    (explained_then _ _ _ _ _ _ _ _ _ c.in_ok-bytes.ensures.explains
    (explained_all shown_blob _ _))))
