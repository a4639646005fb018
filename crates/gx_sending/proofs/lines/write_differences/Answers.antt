use Rattle.std.proofs.Common.{Ok, Err, sym, subst}
use Rattle.std.proofs.lemmas.Result.{err_from_is_err_and}
use Rattle.gx_export.specs.Compared.{gone_items}
use Rattle.gx_sending.specs.Files.{AreShown}
use Rattle.gx_sending.specs.Marks.{Adds}
use Rattle.gx_sending.proofs.SentLines.{all_sent, end_fails, files_stop, gone_stops, lines_at}
use Rattle.gx_sending.proofs.lines.write_differences.Goals as goal

pub returns-in_err-write_gone : goal.returns-in_err-write_gone
returns-in_err-write_gone g c = λ name r ws h s.
    let p = err_from_is_err_and c.from_residual.result c.from_residual.ensures.1 in
    let found = c.args.found.now in
    let gone = subst (λ ps. Adds ws (gone_items ps) c.args.written.now c.write_gone.new.written (Err c.in_err-write_gone.field-0.0) r) c.deref.ensures.value (c.in_err-write_gone.ensures r ws h) in
    rw (p.1, p.2) (gone_stops r ws found.gone.items found.files.items c.args.written.now c.write_gone.new.written c.in_err-write_gone.field-0.0 gone)

pub returns-in_err-write_files : goal.returns-in_err-write_files
returns-in_err-write_files g c = λ name r ws h s.
    let p = err_from_is_err_and c.from_residual-in_err-write_files.result c.from_residual-in_err-write_files.ensures.1 in
    let found = c.args.found.now in
    let mid = c.write_gone.new.written in
    let gone = subst (λ ps. Adds ws (gone_items ps) c.args.written.now mid (Ok tt) r) c.deref.ensures.value (c.in_ok-write_gone.ensures r ws h) in
    let stop = subst (λ fs. Adds ws (lines_at r ws fs) mid c.write_files.new.written (Err c.in_err-write_files.field-0.0) r) c.deref-2.ensures.value
    (c.in_err-write_files.ensures name r ws gone.written (subst (AreShown name ws r) (sym c.deref-2.ensures.value) s)) in
    rw (p.1, p.2) (files_stop r ws found.gone.items found.files.items c.args.written.now mid gone c.write_files.new.written c.in_err-write_files.field-0.0 stop)

pub returns-in_err-write : goal.returns-in_err-write
returns-in_err-write g c = λ name r ws h s.
    let p = err_from_is_err_and c.from_residual-in_err-write.result c.from_residual-in_err-write.ensures.1 in
    let found = c.args.found.now in
    let mid = c.write_gone.new.written in
    let last = c.write_files.new.written in
    let gone = subst (λ ps. Adds ws (gone_items ps) c.args.written.now mid (Ok tt) r) c.deref.ensures.value (c.in_ok-write_gone.ensures r ws h) in
    let files = subst (λ fs. Adds ws (lines_at r ws fs) mid last (Ok tt) r) c.deref-2.ensures.value (c.in_ok-write_files.ensures name r ws gone.written (subst (AreShown name ws r) (sym c.deref-2.ensures.value) s)) in
    rw (p.1, p.2) (end_fails r ws found.gone.items found.files.items c.args.written.now mid gone last files c.write.new.self c.in_err-write.field-0.0 c.in_err-write.ensures.text)

pub returns : goal.returns
returns g c = λ name r ws h s.
    let found = c.args.found.now in
    let mid = c.write_gone.new.written in
    let last = c.write_files.new.written in
    let gone = subst (λ ps. Adds ws (gone_items ps) c.args.written.now mid (Ok tt) r) c.deref.ensures.value (c.in_ok-write_gone.ensures r ws h) in
    let files = subst (λ fs. Adds ws (lines_at r ws fs) mid last (Ok tt) r) c.deref-2.ensures.value (c.in_ok-write_files.ensures name r ws gone.written (subst (AreShown name ws r) (sym c.deref-2.ensures.value) s)) in
    all_sent r ws found.gone.items found.files.items c.args.written.now mid gone last files c.write.new.self c.in_ok-write.ensures.text
