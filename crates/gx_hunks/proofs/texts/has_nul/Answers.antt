use Rattle.std.proofs.Common.{◌∙◌, ap, eqb, take}
use Rattle.std.specs.List.{list_any}
use Rattle.std.proofs.lemmas.List.{take_min}
use Rattle.gx_hunks.specs.Lines.{has_nul}
use Rattle.gx_hunks.proofs.texts.has_nul.Goals as goal

pub returns : goal.returns
unfolding has_nul
returns c =
    let text = c.args.text.now in
    c.contains.ensures.value ∙ ap (list_any (λ b. eqb b 0)) (c.split_at.ensures.front ∙ ap (λ n. take n text) c.min.ensures ∙ take_min c.args.count text)
