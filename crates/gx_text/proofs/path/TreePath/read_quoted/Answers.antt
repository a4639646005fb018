use Rattle.std.proofs.Common.{◌≡◌, Ok, ap, sym, ◌∙◌}
use Rattle.gx_model.specs.Texts.Paths.{parts_of, path_of}
use Rattle.gx_text.proofs.Rests.{used, quoted_path}
use Rattle.gx_text.proofs.path.TreePath.read_quoted.Goals as goal

pub overflow_sub-result : goal.overflow_sub-result
overflow_sub-result g c = (used c.args.bytes.now c.in_ok-text.text.items c.in_ok-text.rest.now c.in_ok-text.ensures).within

pub returns-clause-path : goal.returns-clause-path
returns-clause-path g c =
    let text = c.in_ok-text.text.items in
    let same = c.deref.ensures.value in
    let path : path_of text ≡ Ok c.in_ok-path.path = ap path_of (sym same) ∙ c.in_ok-check.ensures.path ∙ ap (λ t. Ok (parts_of t)) same ∙ ap Ok (sym c.in_ok-path.ensures) in
    rw (used c.args.bytes.now text c.in_ok-text.rest.now c.in_ok-text.ensures).behind (quoted_path c.args.bytes.now text c.in_ok-text.rest.now c.in_ok-path.path c.in_ok-text.ensures path)
