use Rattle.std.proofs.Common.{◌≡◌, ◌≤◌, ◌++◌, ◌∙◌, [], ◌∷◌, Ok, Err, length, ap, refl, subst, arith}
use Rattle.std.proofs.lemmas.List.{take_all}
use Rattle.std.proofs.lemmas.Result.{err_from_is_err_and}
use Rattle.gx_export.specs.Compared.{gone_items, gone_text}
use Rattle.gx_export.specs.Outputs.{Writes}
use Rattle.gx_sending.specs.Marks.{Adds}
use Rattle.gx_sending.specs.declared.fault.SendFault.TheVariants.{OutOfMemory}
use Rattle.gx_sending.proofs.Sending.{adds_bytes, adds_nothing, next_sent, sink_fails, stops_here, stops_within}
use Rattle.gx_sending.proofs.SentLines.{gone_behind}
use Rattle.gx_sending.proofs.lines.write_gone.Goals as goal

pub loop-path-init : goal.loop-path-init
loop-path-init g c = λ r ws h. adds_nothing r ws c.args.written.now h

pub returns-in_err-put_gone : goal.returns-in_err-put_gone
returns-in_err-put_gone g c = λ r ws h.
    let p = err_from_is_err_and c.from_residual.result c.from_residual.ensures.1 in
    let path = c.path-item.result in
    let now = c.loop-path.written in
    rw (p.1, p.2) (stops_within r ws gone_items gone_behind c.args.gone.now c.loop-path.path-index path c.loop-path-test.true c.path-item.is c.args.written.now now now (c.loop-path.invariant r ws h) OutOfMemory
    (stops_here r ws (gone_items (path ∷ [])) now OutOfMemory (λ q. cc q) refl))

pub returns-in_err-write : goal.returns-in_err-write
returns-in_err-write g c = λ r ws h.
    let p = err_from_is_err_and c.from_residual-in_err-write.result c.from_residual-in_err-write.ensures.1 in
    let path = c.path-item.result in
    let now = c.loop-path.written in
    let line : c.deref.result.now ≡ gone_text (path ∷ []) = c.deref.ensures.value ∙ c.in_ok-put_gone.ensures ∙ ap (λ t. t ++ gone_text (path ∷ [])) c.clear.ensures.items in
    let fails = subst (λ t. Writes now.output c.write.new.self t (Err c.in_err-write.field-0.0)) line c.in_err-write.ensures.text in
    rw (p.1, p.2) (stops_within r ws gone_items gone_behind c.args.gone.now c.loop-path.path-index path c.loop-path-test.true c.path-item.is c.args.written.now now (record now { output = c.write.new.self }) (c.loop-path.invariant r ws h) _
    (sink_fails r ws (gone_items (path ∷ [])) now c.write.new.self c.in_err-write.field-0.0 fails))

pub loop-path-preserved : goal.loop-path-preserved
loop-path-preserved g c = λ r ws h.
    let path = c.path-item.result in
    let now = c.loop-path.written in
    let line : c.deref.result.now ≡ gone_text (path ∷ []) = c.deref.ensures.value ∙ c.in_ok-put_gone.ensures ∙ ap (λ t. t ++ gone_text (path ∷ [])) c.clear.ensures.items in
    let done = c.loop-path.invariant r ws h in
    let text = subst (λ t. Writes now.output c.write.new.self t (Ok tt)) line c.in_ok-write.ensures.text in
    next_sent r ws gone_items gone_behind c.args.gone.now c.loop-path.path-index path c.loop-path-test.true c.path-item.is c.args.written.now now (record now { output = c.write.new.self }) done (adds_bytes r ws (gone_items (path ∷ [])) now c.write.new.self done.written text)

pub returns : goal.returns
returns g c = λ r ws h.
    let all : length c.args.gone.now ≤ c.loop-path.path-index = omega (arith, c.loop-path-test.false) in
    subst (λ ps. Adds ws (gone_items ps) c.args.written.now c.loop-path.written (Ok tt) r) (take_all c.loop-path.path-index c.args.gone.now all) (c.loop-path.invariant r ws h)
