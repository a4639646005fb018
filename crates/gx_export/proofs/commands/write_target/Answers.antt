use Rattle.std.proofs.Common.{[], ◌∷◌, codes}
use Rattle.std.proofs.lemmas.Result.{err_from_is_err_and}
use Rattle.gx_model.specs.Export.{commit_ish_text, word_line}
use Rattle.gx_export.specs.Naming.{shown_commit}
use Rattle.gx_export.proofs.Writing.{items_later, items_sooner}
use Rattle.gx_export.proofs.commands.write_target.Goals as goal

pub returns-in_err-write_line-clause-text : goal.returns-in_err-write_line-clause-text
returns-in_err-write_line-clause-text g c =
    let p = err_from_is_err_and c.from_residual.result c.from_residual.ensures.1 in
    let from = word_line (codes "from") (commit_ish_text (shown_commit c.args.commit)) in
    let stop = rw c.name.ensures at c.in_err-write_line.ensures.text in
    rw (p.1, p.2) (items_sooner c.args.output.now c.write_line.new.output (word_line (codes "tag") c.args.tag.now.name ∷ []) (from ∷ []) c.in_err-write_line.field-0.0 stop)

pub returns-clause-text : goal.returns-clause-text
returns-clause-text g c =
    let from = word_line (codes "from") (commit_ish_text (shown_commit c.args.commit)) in
    let line = rw c.name.ensures at c.in_ok-write_line.ensures.text in
    items_later c.args.output.now c.write_line.new.output c.write_parent.new.output (word_line (codes "tag") c.args.tag.now.name ∷ []) (from ∷ []) c.write_parent.result line c.write_parent.ensures.text
