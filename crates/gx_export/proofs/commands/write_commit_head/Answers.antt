use Rattle.std.proofs.Common.{[], ◌∷◌, ◌++◌, codes, Err}
use Rattle.std.proofs.lemmas.Result.{err_from_is_err_and}
use Rattle.gx_model.specs.Export.{word_line_if}
use Rattle.gx_model.specs.Streams.Items.{Data}
use Rattle.gx_export.specs.Texts.{author_items}
use Rattle.gx_model.specs.Texts.Headers.{encoding_in}
use Rattle.gx_export.proofs.Writing.{items_later, items_sooner}
use Rattle.gx_export.proofs.commands.write_commit_head.Goals as goal

pub returns-in_err-write_authors-clause-text : goal.returns-in_err-write_authors-clause-text
returns-in_err-write_authors-clause-text g c =
    let p = err_from_is_err_and c.from_residual.result c.from_residual.ensures.1 in
    rw (p.1, p.2) (items_sooner c.args.output.now c.write_authors.new.output (author_items c.args.branch.now c.args.mark c.args.commit.now.text) (word_line_if (codes "encoding") (encoding_in c.args.commit.now.text.headers) ++ Data c.args.commit.now.text.message ∷ []) c.in_err-write_authors.field-0.0 c.in_err-write_authors.ensures.text)

pub returns-in_err-write_optional-clause-text : goal.returns-in_err-write_optional-clause-text
returns-in_err-write_optional-clause-text g c =
    let p = err_from_is_err_and c.from_residual-in_err-write_optional.result c.from_residual-in_err-write_optional.ensures.1 in
    let line = word_line_if (codes "encoding") (encoding_in c.args.commit.now.text.headers) in
    let stop = rw c.encoding.ensures at c.in_err-write_optional.ensures.text in
    rw (p.1, p.2) (items_later c.args.output.now c.write_authors.new.output c.write_optional.new.output (author_items c.args.branch.now c.args.mark c.args.commit.now.text) (line ++ Data c.args.commit.now.text.message ∷ []) (Err c.in_err-write_optional.field-0.0) c.in_ok-write_authors.ensures.text
    (items_sooner c.write_authors.new.output c.write_optional.new.output line (Data c.args.commit.now.text.message ∷ []) c.in_err-write_optional.field-0.0 stop))

pub returns-clause-text : goal.returns-clause-text
returns-clause-text g c =
    let line = word_line_if (codes "encoding") (encoding_in c.args.commit.now.text.headers) in
    let done = rw c.encoding.ensures at c.in_ok-write_optional.ensures.text in
    let last = rw c.message.ensures at c.write_block.ensures.text in
    items_later c.args.output.now c.write_authors.new.output c.write_block.new.output (author_items c.args.branch.now c.args.mark c.args.commit.now.text) (line ++ Data c.args.commit.now.text.message ∷ []) c.write_block.result c.in_ok-write_authors.ensures.text
    (items_later c.write_authors.new.output c.write_optional.new.output c.write_block.new.output line (Data c.args.commit.now.text.message ∷ []) c.write_block.result done last)
