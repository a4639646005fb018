use Rattle.std.proofs.Common.{[], ◌∷◌, codes, Err}
use Rattle.std.proofs.lemmas.Result.{err_from_is_err_and}
use Rattle.gx_model.specs.Export.{command_items, commit_ish_text, to_nothing, word_line}
use Rattle.gx_model.specs.Streams.Items.{Line}
use Rattle.gx_export.specs.Naming.{shown_commit}
use Rattle.gx_export.proofs.Writing.{items_later, items_sooner}
use Rattle.gx_export.proofs.commands.write_reset_to.Goals as goal

pub returns-in_err-write_reset-clause-text : goal.returns-in_err-write_reset-clause-text
returns-in_err-write_reset-clause-text g c =
    let p = err_from_is_err_and c.from_residual.result c.from_residual.ensures.1 in
    let from = word_line (codes "from") (commit_ish_text (shown_commit c.args.commit)) in
    rw (p.1, p.2) (items_sooner c.args.output.now c.write_reset.new.output (command_items (to_nothing c.args.name.now)) (from ∷ Line [] ∷ []) c.in_err-write_reset.field-0.0 c.in_err-write_reset.ensures.text)

pub returns-in_err-write_parent-clause-text : goal.returns-in_err-write_parent-clause-text
returns-in_err-write_parent-clause-text g c =
    let p = err_from_is_err_and c.from_residual-in_err-write_parent.result c.from_residual-in_err-write_parent.ensures.1 in
    let from = word_line (codes "from") (commit_ish_text (shown_commit c.args.commit)) in
    rw (p.1, p.2) (items_later c.args.output.now c.write_reset.new.output c.write_parent.new.output (command_items (to_nothing c.args.name.now)) (from ∷ Line [] ∷ []) (Err c.in_err-write_parent.field-0.0) c.in_ok-write_reset.ensures.text
    (items_sooner c.write_reset.new.output c.write_parent.new.output (from ∷ []) (Line [] ∷ []) c.in_err-write_parent.field-0.0 c.in_err-write_parent.ensures.text))

pub returns-clause-text : goal.returns-clause-text
returns-clause-text g c =
    let from = word_line (codes "from") (commit_ish_text (shown_commit c.args.commit)) in
    items_later c.args.output.now c.write_reset.new.output c.write.new.self (command_items (to_nothing c.args.name.now)) (from ∷ Line [] ∷ []) c.write.result c.in_ok-write_reset.ensures.text
    (items_later c.write_reset.new.output c.write_parent.new.output c.write.new.self (from ∷ []) (Line [] ∷ []) c.write.result c.in_ok-write_parent.ensures.text c.write.ensures.text)
