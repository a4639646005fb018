use Rattle.std.proofs.Common.{◌≡◌, ◌++◌, drop, map}
use Rattle.gx_model.specs.declared.objects.Kind.TheVariants as kinds
use Rattle.gx_wide.specs.Placing.{wide_links}
use Rattle.gx_links.specs.Links.{shown_link}
use Rattle.gx_links.proofs.BodyLinks.{parent_link}
use Rattle.gx_links.proofs.links.links_of_commit.Given as goal

abbrev pub invariant-loop-number : goal.invariant-loop-number
invariant-loop-number g l = map shown_link l.links.items ++ map parent_link (drop l.number l.commit.parents) ≡ wide_links kinds.Commit l.body
