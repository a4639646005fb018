use Rattle.std.proofs.lemmas.Result.{err_from_is_err_and}
use Rattle.gx_model.specs.Export.{all_written, reached_commits}
use Rattle.gx_model.specs.Records.HistoryOf.{history_of}
use Rattle.gx_export.specs.Exports.{front_items, rest_items}
use Rattle.gx_export.proofs.ExportTexts.{exports, stopped_at_commits}
use Rattle.gx_export.proofs.Numbering.{adds_later}
use Rattle.gx_export.proofs.exporting.write_text.Goals as goal

pub returns-in_err-write_front-clause-text : goal.returns-in_err-write_front-clause-text
returns-in_err-write_front-clause-text g c =
    let p = err_from_is_err_and c.from_residual.result c.from_residual.ensures.1 in
    rw (p.1, p.2) (stopped_at_commits c.args.repo.now.1 c.args.written.now.output c.write_front.new.written.output c.in_err-write_front.field-0.0 c.requires.bytes c.in_err-write_front.ensures)

pub write_rest-requires : goal.write_rest-requires
write_rest-requires g c = record { written = (all_written (reached_commits (history_of c.args.repo.now.1)), c.in_ok-write_front.ensures.0) }

pub returns-clause-text : goal.returns-clause-text
returns-clause-text g c =
    let r = c.args.repo.now.1 in
    let h = history_of r in
    let us = all_written (reached_commits h) in
    let front = c.in_ok-write_front.ensures in
    exports r us c.args.written.now c.write_rest.new.written c.write_rest.result c.requires.bytes c.write_rest.ensures.memory
    (adds_later r us us (front_items h) (rest_items h us) c.args.written.now c.write_front.new.written c.write_rest.new.written c.write_rest.result front (c.write_rest.ensures.adds us front.0))
