use Rattle.std.proofs.Common.{◌≤◌, ◌∙◌, ◌++◌, [], Bor, get_or, length, take, ap, sym, append_assoc, append-nil, arith}
use Rattle.std.specs.List.{flat_map}
use Rattle.std.proofs.lemmas.List.{take_all}
use Rattle.gx_model.specs.Texts.{Bytes}
use Rattle.gx_export.specs.Texts.{parts_text}
use Rattle.gx_export.proofs.Writing.{text_next}
use Rattle.gx_export.proofs.lines.append_all.Goals as goal

pub loop-part-init : goal.loop-part-init
loop-part-init g c = sym (append-nil c.args.text.now.items)

pub loop-part-preserved : goal.loop-part-preserved
loop-part-preserved g c =
    let text = λ (part : Bor Bytes). part.now in
    let parts = c.args.parts.now in
    let old = c.args.text.now.items in
    let i = c.loop-part.part-index in
    let none : Bor Bytes = record { ref_ptr = (0, 0); now = [] } in
    let part = text (get_or parts i none) in
    c.in_ok-extend_from_slice.ensures.items ∙ ap (λ (t : Bytes). t ++ part) c.loop-part.invariant ∙ append_assoc old (flat_map text (take i parts)) part ∙ ap (λ (t : Bytes). old ++ t) (sym (text_next text parts i none c.loop-part-test.true))

pub returns : goal.returns
returns g c =
    let parts = c.args.parts.now in
    let all : length parts ≤ c.loop-part.part-index = omega (arith, c.loop-part-test.false) in
    c.loop-part.invariant ∙ ap (λ ps. c.args.text.now.items ++ parts_text ps) (take_all c.loop-part.part-index parts all)
