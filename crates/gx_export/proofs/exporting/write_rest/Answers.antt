use Rattle.std.proofs.Common.{◌++◌, length, Ok, Err}
use Rattle.std.proofs.lemmas.Result.{err_from_is_err_and}
use Rattle.gx_model.specs.Records.HistoryOf.{history_of}
use Rattle.gx_export.specs.Texts.{last_items}
use Rattle.gx_export.proofs.ExportTexts.{end_items, refs_items}
use Rattle.gx_export.proofs.Numbering.{adds_bytes, adds_last, adds_later}
use Rattle.gx_export.proofs.Writing.{items_sooner}
use Rattle.gx_export.proofs.exporting.write_rest.Goals as goal

pub returns-in_err-write_last-clause-adds : goal.returns-in_err-write_last-clause-adds
returns-in_err-write_last-clause-adds g c = λ ws h.
    let r = c.args.repo.now.1 in
    let old = c.args.written.now in
    let p = err_from_is_err_and c.from_residual.result c.from_residual.ensures.1 in
    let fault = c.in_err-write_last.field-0.0 in
    rw (p.1, p.2) (items_sooner c.args.written.now.output c.write_last.new.output (last_items (length ws)) (refs_items (history_of r) ws ++ end_items) fault (adds_last r ws old c.write_last.new.output (Err fault) h c.in_err-write_last.ensures.text))

pub write_refs-requires : goal.write_refs-requires
write_refs-requires g c =
    let ws = c.requires.written.0 in
    let last = adds_last c.args.repo.now.1 ws c.args.written.now c.write_last.new.output (Ok tt) c.requires.written.1 c.in_ok-write_last.ensures.text in
    record { written = (ws, last.0) }

pub returns-in_err-write_refs-clause-adds : goal.returns-in_err-write_refs-clause-adds
returns-in_err-write_refs-clause-adds g c = λ ws h.
    let r = c.args.repo.now.1 in
    let old = c.args.written.now in
    let mid = record old { output = c.write_last.new.output } in
    let refs = refs_items (history_of r) ws in
    let last = adds_last r ws old c.write_last.new.output (Ok tt) h c.in_ok-write_last.ensures.text in
    let p = err_from_is_err_and c.from_residual-in_err-write_refs.result c.from_residual-in_err-write_refs.ensures.1 in
    let fault = c.in_err-write_refs.field-0.0 in
    rw (p.1, p.2) (adds_later r ws ws (last_items (length ws)) (refs ++ end_items) old mid c.write_refs.new.written (Err fault) last (items_sooner c.write_last.new.output c.write_refs.new.written.output refs end_items fault (c.in_err-write_refs.ensures.adds ws last.0)))

pub returns-clause-adds : goal.returns-clause-adds
returns-clause-adds g c = λ ws h.
    let r = c.args.repo.now.1 in
    let old = c.args.written.now in
    let mid = record old { output = c.write_last.new.output } in
    let with_refs = c.write_refs.new.written in
    let new = record with_refs { output = c.write.new.self } in
    let refs = refs_items (history_of r) ws in
    let last = adds_last r ws old c.write_last.new.output (Ok tt) h c.in_ok-write_last.ensures.text in
    let told = c.in_ok-write_refs.ensures.adds ws last.0 in
    adds_later r ws ws (last_items (length ws)) (refs ++ end_items) old mid new c.write.result last
    (adds_later r ws ws refs end_items mid with_refs new c.write.result told (adds_bytes r ws end_items with_refs c.write.new.self c.write.result told.0 c.write.ensures.text))
