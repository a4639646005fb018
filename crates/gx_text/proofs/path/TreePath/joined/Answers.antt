use Rattle.std.proofs.Common.{Ok, sym, ap, ◌∙◌}
use Rattle.gx_model.specs.Texts.Paths.{path_of, path_text}
use Rattle.gx_model.proofs.Texts.PathTexts.{text_of_parts}
use Rattle.gx_text.proofs.path.TreePath.joined.Goals as goal

pub returns-clause-text : goal.returns-clause-text
returns-clause-text g c = c.as_slice.ensures.value ∙ sym (ap path_text (sym c.self.view_is) ∙ text_of_parts c.self.inside.text.items)

pub returns-clause-path : goal.returns-clause-path
returns-clause-path g c = ap path_of c.as_slice.ensures.value ∙ c.self.invariant.0 ∙ ap (λ p. Ok p) c.self.view_is
