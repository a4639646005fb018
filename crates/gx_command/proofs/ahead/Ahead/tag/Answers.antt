use Rattle.std.proofs.lemmas.Result.{err_from_is_err_and}
use Rattle.gx_model.specs.Streams.Grammar.{tag_at}
use Rattle.gx_command.specs.Views.{shown_tag}
use Rattle.gx_command.proofs.Sequences.{first_fails, then_reads, all_read}
use Rattle.gx_command.proofs.Explained.{explained_first, explained_then, explained_all}
use Rattle.gx_command.proofs.ahead.Ahead.tag.Goals as goal

pub returns-in_err-mark-clause-reads : goal.returns-in_err-mark-clause-reads
unfolding tag_at
returns-in_err-mark-clause-reads g c =
    let p = err_from_is_err_and c.from_residual.result c.from_residual.ensures.1 in rw (p.1, p.2)
    (first_fails _ _ _ _ _ _ _ _ c.in_err-mark.ensures.reads)

pub returns-in_err-from-clause-reads : goal.returns-in_err-from-clause-reads
unfolding tag_at
returns-in_err-from-clause-reads g c =
    let p = err_from_is_err_and c.from_residual-in_err-from.result c.from_residual-in_err-from.ensures.1 in rw (p.1, p.2)
    (then_reads _ _ _ _ _ _ _ _ _ c.in_ok-mark.ensures.reads
    (first_fails _ _ _ _ _ _ _ _ c.in_err-from.ensures.reads))

pub returns-in_err-skip_oid-clause-reads : goal.returns-in_err-skip_oid-clause-reads
unfolding tag_at
returns-in_err-skip_oid-clause-reads g c =
    let p = err_from_is_err_and c.from_residual-in_err-skip_oid.result c.from_residual-in_err-skip_oid.ensures.1 in rw (p.1, p.2)
    (then_reads _ _ _ _ _ _ _ _ _ c.in_ok-mark.ensures.reads
    (then_reads _ _ _ _ _ _ _ _ _ c.in_ok-from.ensures.reads
    (first_fails _ _ _ _ _ _ _ _ c.in_err-skip_oid.ensures.reads)))

pub returns-in_err-tagger-clause-reads : goal.returns-in_err-tagger-clause-reads
unfolding tag_at
returns-in_err-tagger-clause-reads g c =
    let p = err_from_is_err_and c.from_residual-in_err-tagger.result c.from_residual-in_err-tagger.ensures.1 in rw (p.1, p.2)
    (then_reads _ _ _ _ _ _ _ _ _ c.in_ok-mark.ensures.reads
    (then_reads _ _ _ _ _ _ _ _ _ c.in_ok-from.ensures.reads
    (then_reads _ _ _ _ _ _ _ _ _ c.in_ok-skip_oid.ensures.reads
    (first_fails _ _ _ _ _ _ _ _ c.in_err-tagger.ensures.reads))))

pub returns-in_err-message-clause-reads : goal.returns-in_err-message-clause-reads
unfolding tag_at
returns-in_err-message-clause-reads g c =
    let p = err_from_is_err_and c.from_residual-in_err-message.result c.from_residual-in_err-message.ensures.1 in rw (p.1, p.2)
    (then_reads _ _ _ _ _ _ _ _ _ c.in_ok-mark.ensures.reads
    (then_reads _ _ _ _ _ _ _ _ _ c.in_ok-from.ensures.reads
    (then_reads _ _ _ _ _ _ _ _ _ c.in_ok-skip_oid.ensures.reads
    (then_reads _ _ _ _ _ _ _ _ _ c.in_ok-tagger.ensures.reads
    (first_fails _ _ _ _ _ _ _ _ c.in_err-message.ensures.reads)))))

pub returns-clause-reads : goal.returns-clause-reads
unfolding tag_at
returns-clause-reads g c =
    (then_reads _ _ _ _ _ _ _ _ _ c.in_ok-mark.ensures.reads
    (then_reads _ _ _ _ _ _ _ _ _ c.in_ok-from.ensures.reads
    (then_reads _ _ _ _ _ _ _ _ _ c.in_ok-skip_oid.ensures.reads
    (then_reads _ _ _ _ _ _ _ _ _ c.in_ok-tagger.ensures.reads
    (then_reads _ _ _ _ _ _ _ _ _ c.in_ok-message.ensures.reads
    (all_read shown_tag _ _))))))

-- ---- what explains it

pub returns-in_err-mark-clause-explains : goal.returns-in_err-mark-clause-explains
unfolding tag_at
returns-in_err-mark-clause-explains g c =
    let p = err_from_is_err_and c.from_residual.result c.from_residual.ensures.1 in rw (p.1, p.2)
    (explained_first _ _ _ _ _ _ _ _ c.in_err-mark.ensures.explains)

pub returns-in_err-from-clause-explains : goal.returns-in_err-from-clause-explains
unfolding tag_at
returns-in_err-from-clause-explains g c =
    let p = err_from_is_err_and c.from_residual-in_err-from.result c.from_residual-in_err-from.ensures.1 in rw (p.1, p.2)
    (explained_then _ _ _ _ _ _ _ _ _ c.in_ok-mark.ensures.explains
    (explained_first _ _ _ _ _ _ _ _ c.in_err-from.ensures.explains))

pub returns-in_err-skip_oid-clause-explains : goal.returns-in_err-skip_oid-clause-explains
unfolding tag_at
returns-in_err-skip_oid-clause-explains g c =
    let p = err_from_is_err_and c.from_residual-in_err-skip_oid.result c.from_residual-in_err-skip_oid.ensures.1 in rw (p.1, p.2)
    (explained_then _ _ _ _ _ _ _ _ _ c.in_ok-mark.ensures.explains
    (explained_then _ _ _ _ _ _ _ _ _ c.in_ok-from.ensures.explains
    (explained_first _ _ _ _ _ _ _ _ c.in_err-skip_oid.ensures.explains)))

pub returns-in_err-tagger-clause-explains : goal.returns-in_err-tagger-clause-explains
unfolding tag_at
returns-in_err-tagger-clause-explains g c =
    let p = err_from_is_err_and c.from_residual-in_err-tagger.result c.from_residual-in_err-tagger.ensures.1 in rw (p.1, p.2)
    (explained_then _ _ _ _ _ _ _ _ _ c.in_ok-mark.ensures.explains
    (explained_then _ _ _ _ _ _ _ _ _ c.in_ok-from.ensures.explains
    (explained_then _ _ _ _ _ _ _ _ _ c.in_ok-skip_oid.ensures.explains
    (explained_first _ _ _ _ _ _ _ _ c.in_err-tagger.ensures.explains))))

pub returns-in_err-message-clause-explains : goal.returns-in_err-message-clause-explains
unfolding tag_at
returns-in_err-message-clause-explains g c =
    let p = err_from_is_err_and c.from_residual-in_err-message.result c.from_residual-in_err-message.ensures.1 in rw (p.1, p.2)
    (explained_then _ _ _ _ _ _ _ _ _ c.in_ok-mark.ensures.explains
    (explained_then _ _ _ _ _ _ _ _ _ c.in_ok-from.ensures.explains
    (explained_then _ _ _ _ _ _ _ _ _ c.in_ok-skip_oid.ensures.explains
    (explained_then _ _ _ _ _ _ _ _ _ c.in_ok-tagger.ensures.explains
    (explained_first _ _ _ _ _ _ _ _ c.in_err-message.ensures.explains)))))

pub returns-clause-explains : goal.returns-clause-explains
unfolding tag_at
returns-clause-explains g c =
    (explained_then _ _ _ _ _ _ _ _ _ c.in_ok-mark.ensures.explains
    (explained_then _ _ _ _ _ _ _ _ _ c.in_ok-from.ensures.explains
    (explained_then _ _ _ _ _ _ _ _ _ c.in_ok-skip_oid.ensures.explains
    (explained_then _ _ _ _ _ _ _ _ _ c.in_ok-tagger.ensures.explains
    (explained_then _ _ _ _ _ _ _ _ _ c.in_ok-message.ensures.explains
    (explained_all shown_tag _ _))))))
