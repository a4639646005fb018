use Rattle.std.proofs.Common.{◌-◌, ◌++◌, ◌∙◌, ap, arith, codes, length, length-append, take}
use Rattle.gx_model.specs.Objects.{hex}
use Rattle.gx_print.specs.Logs.{head_text}
use Rattle.gx_print.specs.Messages.{indented, trimmed}
use Rattle.gx_print.proofs.CommitTexts.{front_of, head_and_message, raw_text}
use Rattle.gx_print.proofs.formats.put_raw.Goals as goal

pub put_message-requires : goal.put_message-requires
put_message-requires g c =
    let head = head_text c.args.view.now in
    let message = c.args.view.now.text.message in
    let long = ap length (c.requires.body ∙ head_and_message c.args.view.now) ∙ length-append head message in
    let same = ap length c.message.ensures in
    omega (arith, long, same)

pub returns : goal.returns
returns g c =
    let head = head_text c.args.view.now in
    let message = c.args.view.now.text.message in
    let body = c.args.body.now in
    let front = take (length body - length c.message.result.now) body in
    let first = c.extend_from_slice.new.self.items in
    let third = c.push.new.self.items in
    let parts = c.requires.body ∙ head_and_message c.args.view.now in
    let taken = (λ i. take (length (parts i) - length (c.message.ensures i)) (parts i)) ∙ front_of head message in
    c.trim.ensures
    ∙ ap trimmed (raw_text c.args.out.now.items first c.extend_from_slice-2.new.self.items third c.put_message.new.out.items (codes "commit ") (hex c.args.commit.now.bytes) front head (indented message)
    c.requires.empty c.in_ok-extend_from_slice.ensures.items (c.in_ok-extend_from_slice-2.ensures.items ∙ ap (λ x. first ++ x) (c.as_slice.ensures ∙ c.hex.ensures.digits)) c.in_ok-push.ensures.items
    (c.in_ok-put_message.ensures ∙ ap (λ x. third ++ (front ++ indented x)) c.message.ensures) taken)
