use Rattle.std.proofs.Common.{◌∙◌, ap, ap₂, take, drop}
use Rattle.std.proofs.lemmas.List.{drop_min, take_min}
use Rattle.gx_push.specs.Wants.{behind_space, value_in, wanted}
use Rattle.gx_push.proofs.want.want_in.Goals as goal

pub returns : goal.returns
returns c =
    let text = c.fate_in-fate.result.1.now in
    let front = c.split_at.ensures.front ∙ ap (λ n. take n text) c.min.ensures ∙ take_min 40 text in
    let back = c.split_at.ensures.back ∙ ap (λ n. drop n text) c.min.ensures ∙ drop_min 40 text in
    let old = c.value_in.ensures ∙ ap value_in front in
    let name = c.behind_space.ensures ∙ ap behind_space back in
    c.wanted.ensures ∙ ap₂ (λ o n. wanted c.fate_in-fate.result.0 o n) old name
    ∙ ap (λ f. wanted f.0 (value_in (take 40 f.1)) (behind_space (drop 40 f.1))) c.fate_in-fate.ensures
