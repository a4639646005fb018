use Rattle.std.proofs.lemmas.Result.{err_from_is_err_and}
use Rattle.gx_model.specs.Streams.Lines.{ident_of}
use Rattle.gx_command.specs.Views.{shown_ident}
use Rattle.gx_command.proofs.NeededLines.{needed_fails, needed_reads}
use Rattle.gx_command.proofs.Explained.{needed_explained, needed_refused}
use Rattle.gx_command.proofs.ExplainedItems.{some_ahead}
use Rattle.gx_command.proofs.ahead.Ahead.needed_ident.Goals as goal

pub returns-in_err-ident-clause-reads : goal.returns-in_err-ident-clause-reads
returns-in_err-ident-clause-reads g c =
    let p = err_from_is_err_and c.from_residual.result c.from_residual.ensures.1 in
    rw (p.1, p.2) (needed_fails shown_ident c.args.word.now ident_of _ _ _ _ c.in_err-ident.ensures.reads)

pub returns-clause-reads : goal.returns-clause-reads
returns-clause-reads g c = needed_reads shown_ident c.args.word.now ident_of _ _ _ _ c.ok_or.ensures.value c.in_ok-ident.ensures.reads

pub returns-in_err-ident-clause-explains : goal.returns-in_err-ident-clause-explains
returns-in_err-ident-clause-explains g c =
    let p = err_from_is_err_and c.from_residual.result c.from_residual.ensures.1 in
    rw (p.1, p.2) (needed_refused shown_ident c.args.word.now ident_of _ _ _ _ c.in_err-ident.ensures.explains)

pub returns-clause-explains : goal.returns-clause-explains
returns-clause-explains g c = needed_explained shown_ident c.args.word.now ident_of _ _ (some_ahead c.ident.new.self) _ _ c.ok_or.ensures.value c.in_ok-ident.ensures.explains
