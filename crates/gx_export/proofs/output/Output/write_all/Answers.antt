use Rattle.std.proofs.Common.{◌≤◌, [], Bor, Ok, length, subst, arith}
use Rattle.std.proofs.lemmas.List.{take_all}
use Rattle.std.proofs.lemmas.Result.{err_from_is_err_and}
use Rattle.gx_model.specs.Texts.{Bytes}
use Rattle.gx_export.specs.Outputs.{Writes}
use Rattle.gx_export.specs.Texts.{parts_text}
use Rattle.gx_export.proofs.Writing.{stops_within, writes_next, writes_none}
use Rattle.gx_export.proofs.output.Output.write_all.Goals as goal

pub loop-part-init : goal.loop-part-init
loop-part-init g c = writes_none c.args.self.now

pub returns-in_err-write-clause-text : goal.returns-in_err-write-clause-text
returns-in_err-write-clause-text g c =
    let p = err_from_is_err_and c.from_residual.result c.from_residual.ensures.1 in
    let text = λ (part : Bor Bytes). part.now in
    rw (p.1, p.2)
    (stops_within text c.args.parts.now c.loop-part.part-index (record { ref_ptr = (0, 0); now = [] }) c.loop-part-test.true c.args.self.now c.loop-part.self c.write.new.self c.in_err-write.field-0.0 c.loop-part.invariant c.in_err-write.ensures.text)

pub loop-part-preserved : goal.loop-part-preserved
loop-part-preserved g c =
    let text = λ (part : Bor Bytes). part.now in
    writes_next text c.args.parts.now c.loop-part.part-index (record { ref_ptr = (0, 0); now = [] }) c.loop-part-test.true c.args.self.now c.loop-part.self c.write.new.self c.loop-part.invariant c.in_ok-write.ensures.text

pub returns-clause-text : goal.returns-clause-text
returns-clause-text g c =
    let all : length c.args.parts.now ≤ c.loop-part.part-index = omega (arith, c.loop-part-test.false) in
    subst (λ parts. Writes c.args.self.now c.loop-part.self (parts_text parts) (Ok tt)) (take_all c.loop-part.part-index c.args.parts.now all) c.loop-part.invariant
