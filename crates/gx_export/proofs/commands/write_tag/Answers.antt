use Rattle.std.proofs.Common.{[], ◌∷◌, ◌++◌, codes, Err}
use Rattle.std.proofs.lemmas.Result.{err_from_is_err_and}
use Rattle.gx_model.specs.Export.{word_line_if}
use Rattle.gx_model.specs.Streams.Items.{Data}
use Rattle.gx_export.specs.Naming.{shown_commit}
use Rattle.gx_export.specs.Texts.{target_items}
use Rattle.gx_export.proofs.Writing.{items_later, items_sooner}
use Rattle.gx_export.proofs.commands.write_tag.Goals as goal

pub returns-in_err-write_target-clause-text : goal.returns-in_err-write_target-clause-text
returns-in_err-write_target-clause-text g c =
    let p = err_from_is_err_and c.from_residual.result c.from_residual.ensures.1 in
    rw (p.1, p.2) (items_sooner c.args.output.now c.write_target.new.output (target_items (shown_commit c.args.commit) c.args.tag.now.name) (word_line_if (codes "tagger") c.args.tag.now.tagger ++ Data c.args.tag.now.message ∷ []) c.in_err-write_target.field-0.0 c.in_err-write_target.ensures.text)

pub returns-in_err-write_optional-clause-text : goal.returns-in_err-write_optional-clause-text
returns-in_err-write_optional-clause-text g c =
    let p = err_from_is_err_and c.from_residual-in_err-write_optional.result c.from_residual-in_err-write_optional.ensures.1 in
    let line = word_line_if (codes "tagger") c.args.tag.now.tagger in
    let stop = rw c.tagger.ensures at c.in_err-write_optional.ensures.text in
    rw (p.1, p.2) (items_later c.args.output.now c.write_target.new.output c.write_optional.new.output (target_items (shown_commit c.args.commit) c.args.tag.now.name) (line ++ Data c.args.tag.now.message ∷ []) (Err c.in_err-write_optional.field-0.0) c.in_ok-write_target.ensures.text
    (items_sooner c.write_target.new.output c.write_optional.new.output line (Data c.args.tag.now.message ∷ []) c.in_err-write_optional.field-0.0 stop))

pub returns-clause-text : goal.returns-clause-text
returns-clause-text g c =
    let line = word_line_if (codes "tagger") c.args.tag.now.tagger in
    let done = rw c.tagger.ensures at c.in_ok-write_optional.ensures.text in
    let last = rw c.message.ensures at c.write_block.ensures.text in
    items_later c.args.output.now c.write_target.new.output c.write_block.new.output (target_items (shown_commit c.args.commit) c.args.tag.now.name) (line ++ Data c.args.tag.now.message ∷ []) c.write_block.result c.in_ok-write_target.ensures.text
    (items_later c.write_target.new.output c.write_optional.new.output c.write_block.new.output line (Data c.args.tag.now.message ∷ []) c.write_block.result done last)
