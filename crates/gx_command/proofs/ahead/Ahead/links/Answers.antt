use Rattle.std.proofs.Common.{◌≤◌, arith}
use Rattle.std.proofs.lemmas.Result.{err_from_is_err_and}
use Rattle.gx_model.specs.Streams.Grammar.{links_at}
use Rattle.gx_command.specs.Ahead.{most}
use Rattle.gx_command.specs.Bodies.{shown_links}
use Rattle.gx_command.proofs.Sequences.{first_fails, then_reads, all_read, falls_not}
use Rattle.gx_command.proofs.Explained.{explained_first, explained_then, explained_all}
use Rattle.gx_command.proofs.ahead.Ahead.links.Goals as goal

pub returns-in_err-from-clause-reads : goal.returns-in_err-from-clause-reads
unfolding links_at
returns-in_err-from-clause-reads g c =
    let p = err_from_is_err_and c.from_residual.result c.from_residual.ensures.1 in rw (p.1, p.2)
    (first_fails _ _ _ _ _ _ _ _ c.in_err-from.ensures.reads)

pub returns-in_err-merges-clause-reads : goal.returns-in_err-merges-clause-reads
unfolding links_at
returns-in_err-merges-clause-reads g c =
    let p = err_from_is_err_and c.from_residual-in_err-merges.result c.from_residual-in_err-merges.ensures.1 in rw (p.1, p.2)
    (then_reads _ _ _ _ _ _ _ _ _ c.in_ok-from.ensures.reads
    (first_fails _ _ _ _ _ _ _ _ c.in_err-merges.ensures.reads))

pub returns-in_err-changes-clause-reads : goal.returns-in_err-changes-clause-reads
unfolding links_at
returns-in_err-changes-clause-reads g c =
    let p = err_from_is_err_and c.from_residual-in_err-changes.result c.from_residual-in_err-changes.ensures.1 in rw (p.1, p.2)
    (then_reads _ _ _ _ _ _ _ _ _ c.in_ok-from.ensures.reads
    (then_reads _ _ _ _ _ _ _ _ _ c.in_ok-merges.ensures.reads
    (first_fails _ _ _ _ _ _ _ _ c.in_err-changes.ensures.reads)))

pub returns-in_err-end-clause-reads : goal.returns-in_err-end-clause-reads
unfolding links_at
returns-in_err-end-clause-reads g c =
    let p = err_from_is_err_and c.from_residual-in_err-end.result c.from_residual-in_err-end.ensures.1 in rw (p.1, p.2)
    (then_reads _ _ _ _ _ _ _ _ _ c.in_ok-from.ensures.reads
    (then_reads _ _ _ _ _ _ _ _ _ c.in_ok-merges.ensures.reads
    (then_reads _ _ _ _ _ _ _ _ _ c.in_ok-changes.ensures.reads
    (first_fails _ _ _ _ _ _ _ _ c.in_err-end.ensures.reads))))

pub returns-clause-reads : goal.returns-clause-reads
unfolding links_at
returns-clause-reads g c =
    (then_reads _ _ _ _ _ _ _ _ _ c.in_ok-from.ensures.reads
    (then_reads _ _ _ _ _ _ _ _ _ c.in_ok-merges.ensures.reads
    (then_reads _ _ _ _ _ _ _ _ _ c.in_ok-changes.ensures.reads
    (then_reads _ _ _ _ _ _ _ _ _ c.in_ok-end.ensures.reads
    (all_read shown_links _ _)))))

pub returns-clause-falls : goal.returns-clause-falls
returns-clause-falls g c = let one : most c.commit_ish.new.self ≤ most c.args.self.now = falls_not _ _ c.in_ok-from.from c.in_ok-from.ensures.falls in omega (arith, one, c.in_ok-merges.ensures.falls, c.in_ok-changes.ensures.falls, c.in_ok-end.ensures.falls)

-- ---- what explains it

pub returns-in_err-from-clause-explains : goal.returns-in_err-from-clause-explains
unfolding links_at
returns-in_err-from-clause-explains g c =
    let p = err_from_is_err_and c.from_residual.result c.from_residual.ensures.1 in rw (p.1, p.2)
    (explained_first _ _ _ _ _ _ _ _ c.in_err-from.ensures.explains)

pub returns-in_err-merges-clause-explains : goal.returns-in_err-merges-clause-explains
unfolding links_at
returns-in_err-merges-clause-explains g c =
    let p = err_from_is_err_and c.from_residual-in_err-merges.result c.from_residual-in_err-merges.ensures.1 in rw (p.1, p.2)
    (explained_then _ _ _ _ _ _ _ _ _ c.in_ok-from.ensures.explains
    (explained_first _ _ _ _ _ _ _ _ c.in_err-merges.ensures.explains))

pub returns-in_err-changes-clause-explains : goal.returns-in_err-changes-clause-explains
unfolding links_at
returns-in_err-changes-clause-explains g c =
    let p = err_from_is_err_and c.from_residual-in_err-changes.result c.from_residual-in_err-changes.ensures.1 in rw (p.1, p.2)
    (explained_then _ _ _ _ _ _ _ _ _ c.in_ok-from.ensures.explains
    (explained_then _ _ _ _ _ _ _ _ _ c.in_ok-merges.ensures.explains
    (explained_first _ _ _ _ _ _ _ _ c.in_err-changes.ensures.explains)))

pub returns-in_err-end-clause-explains : goal.returns-in_err-end-clause-explains
unfolding links_at
returns-in_err-end-clause-explains g c =
    let p = err_from_is_err_and c.from_residual-in_err-end.result c.from_residual-in_err-end.ensures.1 in rw (p.1, p.2)
    (explained_then _ _ _ _ _ _ _ _ _ c.in_ok-from.ensures.explains
    (explained_then _ _ _ _ _ _ _ _ _ c.in_ok-merges.ensures.explains
    (explained_then _ _ _ _ _ _ _ _ _ c.in_ok-changes.ensures.explains
    (explained_first _ _ _ _ _ _ _ _ c.in_err-end.ensures.explains))))

pub returns-clause-explains : goal.returns-clause-explains
unfolding links_at
returns-clause-explains g c =
    (explained_then _ _ _ _ _ _ _ _ _ c.in_ok-from.ensures.explains
    (explained_then _ _ _ _ _ _ _ _ _ c.in_ok-merges.ensures.explains
    (explained_then _ _ _ _ _ _ _ _ _ c.in_ok-changes.ensures.explains
    (explained_then _ _ _ _ _ _ _ _ _ c.in_ok-end.ensures.explains
    (explained_all shown_links _ _)))))
