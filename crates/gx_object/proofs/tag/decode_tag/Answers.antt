use Rattle.std.proofs.Common.{sym, ◌∙◌}
use Rattle.gx_object.proofs.Tags.{tag_found, tag_only}
use Rattle.gx_object.proofs.tag.decode_tag.Goals as goal

pub returns-clause-found : goal.returns-clause-found
returns-clause-found c = tag_found c.args.body.now c.ok_or.result (sym c.read_tag.ensures ∙ c.ok_or.ensures.ok_part)

pub returns-clause-only : goal.returns-clause-only
returns-clause-only c = tag_only c.args.body.now c.ok_or.result (sym c.read_tag.ensures ∙ c.ok_or.ensures.ok_part)
