use Rattle.std.proofs.Common.{◌≡◌, ◌≤◌, ◌++◌, ◌∙◌, [], ◌∷◌, Ok, Err, length, ap, refl, subst, arith}
use Rattle.std.proofs.lemmas.List.{take_all}
use Rattle.std.proofs.lemmas.Result.{err_from_is_err_and}
use Rattle.gx_model.specs.Export.{items_text}
use Rattle.gx_export.specs.Outputs.{Writes}
use Rattle.gx_sending.specs.Marks.{Adds}
use Rattle.gx_sending.specs.declared.fault.SendFault.TheVariants.{OutOfMemory}
use Rattle.gx_sending.proofs.Sending.{adds_bytes, adds_nothing, next_sent, sink_fails, stops_here, stops_within}
use Rattle.gx_sending.proofs.SentLines.{lines_at, lines_behind, shown_at}
use Rattle.gx_sending.proofs.lines.write_files.Goals as goal

pub loop-file-init : goal.loop-file-init
loop-file-init g c = λ name r ws h s. adds_nothing r ws c.args.written.now h

pub returns-in_err-put_file : goal.returns-in_err-put_file
returns-in_err-put_file g c = λ name r ws h s.
    let p = err_from_is_err_and c.from_residual.result c.from_residual.ensures.1 in
    let file = c.file-item.result in
    let now = c.loop-file.written in
    let done = c.loop-file.invariant name r ws h s in
    let shown = shown_at r ws name c.args.files.now c.loop-file.file-index file c.loop-file-test.true c.file-item.is s in
    let memory : c.in_err-put_file.field-0.0 ≡ OutOfMemory = c.in_err-put_file.ensures name r ws done.written shown in
    rw (p.1, p.2) (rw memory (stops_within r ws (lines_at r ws) (lines_behind r ws) c.args.files.now c.loop-file.file-index file c.loop-file-test.true c.file-item.is c.args.written.now now now done OutOfMemory
    (stops_here r ws (lines_at r ws (file ∷ [])) now OutOfMemory (λ q. cc q) refl)))

pub returns-in_err-write : goal.returns-in_err-write
returns-in_err-write g c = λ name r ws h s.
    let p = err_from_is_err_and c.from_residual-in_err-write.result c.from_residual-in_err-write.ensures.1 in
    let file = c.file-item.result in
    let now = c.loop-file.written in
    let done = c.loop-file.invariant name r ws h s in
    let shown = shown_at r ws name c.args.files.now c.loop-file.file-index file c.loop-file-test.true c.file-item.is s in
    let line : c.deref.result.now ≡ items_text (lines_at r ws (file ∷ [])) = c.deref.ensures.value ∙ c.in_ok-put_file.ensures name r ws done.written shown ∙ ap (λ t. t ++ items_text (lines_at r ws (file ∷ []))) c.clear.ensures.items in
    let fails = subst (λ t. Writes now.output c.write.new.self t (Err c.in_err-write.field-0.0)) line c.in_err-write.ensures.text in
    rw (p.1, p.2) (stops_within r ws (lines_at r ws) (lines_behind r ws) c.args.files.now c.loop-file.file-index file c.loop-file-test.true c.file-item.is c.args.written.now now (record now { output = c.write.new.self }) done _
    (sink_fails r ws (lines_at r ws (file ∷ [])) now c.write.new.self c.in_err-write.field-0.0 fails))

pub loop-file-preserved : goal.loop-file-preserved
loop-file-preserved g c = λ name r ws h s.
    let file = c.file-item.result in
    let now = c.loop-file.written in
    let done = c.loop-file.invariant name r ws h s in
    let shown = shown_at r ws name c.args.files.now c.loop-file.file-index file c.loop-file-test.true c.file-item.is s in
    let line : c.deref.result.now ≡ items_text (lines_at r ws (file ∷ [])) = c.deref.ensures.value ∙ c.in_ok-put_file.ensures name r ws done.written shown ∙ ap (λ t. t ++ items_text (lines_at r ws (file ∷ []))) c.clear.ensures.items in
    let text = subst (λ t. Writes now.output c.write.new.self t (Ok tt)) line c.in_ok-write.ensures.text in
    next_sent r ws (lines_at r ws) (lines_behind r ws) c.args.files.now c.loop-file.file-index file c.loop-file-test.true c.file-item.is c.args.written.now now (record now { output = c.write.new.self }) done
    (adds_bytes r ws (lines_at r ws (file ∷ [])) now c.write.new.self done.written text)

pub returns : goal.returns
returns g c = λ name r ws h s.
    let all : length c.args.files.now ≤ c.loop-file.file-index = omega (arith, c.loop-file-test.false) in
    subst (λ fs. Adds ws (lines_at r ws fs) c.args.written.now c.loop-file.written (Ok tt) r) (take_all c.loop-file.file-index c.args.files.now all) (c.loop-file.invariant name r ws h s)
