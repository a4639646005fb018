use Rattle.std.proofs.Common.{◌∙◌, ap, length, take}
use Rattle.gx_print.specs.Messages.{trimmed}
use Rattle.gx_print.proofs.MessageTexts.{trimmed_front}
use Rattle.gx_print.proofs.formats.trim.Goals as goal

pub returns : goal.returns
returns g c =
    let text = c.args.text.now.items in
    let told = c.trimmed-length.ensures ∙ ap trimmed c.as_slice.ensures.value in
    c.truncate.ensures.items ∙ ap (λ front. take (length front) text) told ∙ trimmed_front text
