use Rattle.std.proofs.Common.{map}
use Rattle.gx_object.specs.Entries.{shown}
use Rattle.gx_links.specs.Links.{shown_link}
use Rattle.gx_links.proofs.BodyLinks.{none_more, one_more}
use Rattle.gx_links.proofs.links.push_entry.Goals as goal

pub returns-in_ok-push-in-Some : goal.returns-in_ok-push-in-Some
returns-in_ok-push-in-Some g c = one_more c.args.links.now.items c.push.new.self.items c.in-Some.link (shown c.args.entry.now) c.in_ok-push-in-Some.ensures.items c.in-Some.ensures

pub returns-in-None : goal.returns-in-None
returns-in-None g c = none_more (map shown_link c.args.links.now.items) (shown c.args.entry.now) c.in-None.ensures
