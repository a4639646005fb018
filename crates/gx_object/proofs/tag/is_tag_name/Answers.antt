use Rattle.std.proofs.Common.{refl, ap, ◌∙◌}
use Rattle.gx_model.specs.Texts.{same_bytes}
use Rattle.gx_object.proofs.Tags.{tag_name_is}
use Rattle.gx_object.proofs.tag.is_tag_name.Goals as goal

pub returns-then-is_ref_name : goal.returns-then-is_ref_name
returns-then-is_ref_name c = rw (tag_name_is c.args.name.now, ← c.is_ref_name.ensures, c.if-is_ref_name.true) refl

pub returns-else-is_ref_name : goal.returns-else-is_ref_name
returns-else-is_ref_name c = rw (tag_name_is c.args.name.now, ← c.is_ref_name.ensures, c.if-is_ref_name.false) (c.eq.ensures ∙ ap (same_bytes c.args.name.now) c.as_slice.ensures)
