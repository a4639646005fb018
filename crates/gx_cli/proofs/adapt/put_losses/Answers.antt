use Rattle.std.proofs.Common.{◌+◌, ◌++◌, ◌∙◌, append_assoc, append-nil, ap, drop, drop_of_length-le, sym}
use Rattle.gx_cli.specs.Adapting.{lost_line, lost_text}
use Rattle.gx_cli.specs.Gathering.{texts_of}
use Rattle.gx_cli.proofs.CollectedStores.{next_of}
use Rattle.gx_cli.proofs.adapt.put_losses.Goals as goal

pub loop-line-preserved : goal.loop-line-preserved
loop-line-preserved g c =
    let lines = c.args.lines.now in
    let i = c.loop-line.line-index in
    let told = c.loop-line.told.items in
    let item = c.line-item.result in
    let rest = lost_text (texts_of (drop (i + 1) lines)) in
    let text = c.in_ok-put_lost.ensures ∙ ap (λ t. told ++ lost_line t) c.as_slice.ensures.value in
    ap (λ t. t ++ rest) text ∙ append_assoc told (lost_line item.items) rest ∙ ap (λ ls. told ++ lost_text ls) (sym (next_of lines i item c.loop-line-test.true c.line-item.is)) ∙ c.loop-line.invariant

pub returns : goal.returns
returns g c =
    let told = c.loop-line.told.items in
    sym (append-nil told) ∙ ap (λ ls. told ++ lost_text (texts_of ls)) (sym (drop_of_length-le c.args.lines.now c.loop-line-test.false)) ∙ c.loop-line.invariant
