use Rattle.std.proofs.Common.{◌∙◌, ap, sym}
use Rattle.gx_differences.specs.Listed.{shown_leaf}
use Rattle.gx_patch.specs.Heads.{label}
use Rattle.gx_patch.proofs.Putting.{file_put}
use Rattle.gx_patch.proofs.patches.put_texts.Goals as goal

pub returns : goal.returns
returns g c =
    let old = shown_leaf c.args.old.now in
    let new = shown_leaf c.args.new.now in
    let from = c.as_slice-3.ensures.value ∙ sym c.as_slice.ensures.value in
    let to = c.as_slice-4.ensures.value ∙ sym c.as_slice-2.ensures.value in
    file_put c.args.path.now old new c.put_body.result c.args.old_text.now c.args.new_text.now c.args.text.now.items c.put_head.new.text.items c.put_body.new.text.items c.as_slice.result.now c.as_slice-2.result.now
    c.label-from.result.now c.label-to.result.now (c.as_slice.ensures.value ∙ c.in_ok-from.ensures) (c.as_slice-2.ensures.value ∙ c.in_ok-to.ensures) c.in_ok-put_head.ensures (c.label-from.ensures ∙ ap (label old) from) (c.label-to.ensures ∙ ap (label new) to)
    c.put_body.ensures
