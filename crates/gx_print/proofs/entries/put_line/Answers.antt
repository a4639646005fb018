use Rattle.std.proofs.Common.{◌∷◌, ◌++◌, [], ap, append_assoc, ◌∙◌}
use Rattle.gx_model.specs.Texts.Paths.{printed}
use Rattle.gx_rev.specs.Entries.{entry_head}
use Rattle.gx_print.proofs.entries.put_line.Goals as goal

pub returns : goal.returns
returns g c =
    let front = c.args.out.now.items in
    let head = entry_head c.args.mode c.args.name.now.bytes in
    let text = printed c.args.path.now in
    let shown = c.in_ok-put_printed.ensures.ok ∙ ap (λ x. x ++ text) c.in_ok-put_entry_head.ensures ∙ append_assoc front head text in
    c.in_ok-push.ensures.items ∙ ap (λ x. x ++ 10 ∷ []) shown ∙ append_assoc front (head ++ text) (10 ∷ [])
