use Rattle.std.proofs.lemmas.Result.{err_from_is_err_and}
use Rattle.gx_model.specs.Streams.Lines.{commit_ish_of}
use Rattle.gx_command.specs.Views.{shown_commit_ish}
use Rattle.gx_command.proofs.NeededLines.{needed_fails, needed_reads}
use Rattle.gx_command.proofs.Explained.{needed_explained, needed_refused}
use Rattle.gx_command.proofs.ExplainedItems.{some_ahead}
use Rattle.gx_command.proofs.ahead.Ahead.needed_commit_ish.Goals as goal

pub returns-in_err-commit_ish-clause-reads : goal.returns-in_err-commit_ish-clause-reads
returns-in_err-commit_ish-clause-reads g c =
    let p = err_from_is_err_and c.from_residual.result c.from_residual.ensures.1 in
    rw (p.1, p.2) (needed_fails shown_commit_ish c.args.word.now commit_ish_of _ _ _ _ c.in_err-commit_ish.ensures.reads)

pub returns-clause-reads : goal.returns-clause-reads
returns-clause-reads g c = needed_reads shown_commit_ish c.args.word.now commit_ish_of _ _ _ _ c.ok_or.ensures.value c.in_ok-commit_ish.ensures.reads

pub returns-in_err-commit_ish-clause-explains : goal.returns-in_err-commit_ish-clause-explains
returns-in_err-commit_ish-clause-explains g c =
    let p = err_from_is_err_and c.from_residual.result c.from_residual.ensures.1 in
    rw (p.1, p.2) (needed_refused shown_commit_ish c.args.word.now commit_ish_of _ _ _ _ c.in_err-commit_ish.ensures.explains)

pub returns-clause-explains : goal.returns-clause-explains
returns-clause-explains g c = needed_explained shown_commit_ish c.args.word.now commit_ish_of _ _ (some_ahead c.commit_ish.new.self) _ _ c.ok_or.ensures.value c.in_ok-commit_ish.ensures.explains
