use Rattle.gx_object.specs.WideBodies.{shown_any_tag}
use Rattle.gx_object.proofs.WideBodies.{tag_found, tag_only}
use Rattle.gx_object.proofs.any_tag.decode_any_tag.Goals as goal

pub returns-clause-found : goal.returns-clause-found
returns-clause-found c = tag_found shown_any_tag c.args.body.now c.read_any_tag.result c.ok_or.result c.ok_or.ensures.ok_part c.read_any_tag.ensures

pub returns-clause-only : goal.returns-clause-only
returns-clause-only c = tag_only shown_any_tag c.args.body.now c.read_any_tag.result c.ok_or.result c.ok_or.ensures.ok_part c.read_any_tag.ensures
