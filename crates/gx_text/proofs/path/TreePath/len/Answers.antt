use Rattle.std.proofs.Common.{◌≡◌, length, true, subst, ap, ◌∙◌}
use Rattle.gx_text.specs.TreePaths.{is_path}
use Rattle.gx_text.proofs.Components.{length-component_ends, text_is_path}
use Rattle.gx_text.proofs.path.TreePath.len.Goals as goal

pub returns-clause-length : goal.returns-clause-length
returns-clause-length g c =
    let whole = c.self.inside.ends.ok in
    let ends : length c.self.inside.ends.items ≡ length c.args.self.now = ap length c.self.invariant.1 ∙ length-component_ends c.self.inside.text.items ∙ ap length c.self.view_is in
    c.len.ensures ∙ whole.0 ∙ ends

pub returns-clause-path : goal.returns-clause-path
returns-clause-path g c = subst (λ p. is_path p ≡ true) c.self.view_is (text_is_path c.self.inside.text.items c.self.invariant.0)
