use Rattle.std.proofs.Common.{sym, ap, ◌∙◌}
use Rattle.std.specs.List.{list_all}
use Rattle.gx_model.specs.Texts.Paths.{is_component}
use Rattle.gx_text.proofs.PathTexts.{parts_of-some, no_parts}
use Rattle.gx_text.proofs.path.has_components.Goals as goal

pub returns-then-is_empty : goal.returns-then-is_empty
returns-then-is_empty c = c.if-is_empty.true ∙ sym (no_parts c.args.text.now (sym c.if-is_empty.ensures))

pub returns-else-is_empty : goal.returns-else-is_empty
returns-else-is_empty c = c.are_components.ensures ∙ ap (list_all is_component) (sym (parts_of-some c.args.text.now (sym c.if-is_empty.ensures)))
