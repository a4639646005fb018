use Rattle.std.proofs.Common.{◌≡◌, ◌++◌, map}
use Rattle.std.specs.List.{filter_map}
use Rattle.gx_model.specs.declared.objects.Kind.TheVariants as kinds
use Rattle.gx_wide.specs.Placing.{wide_links}
use Rattle.gx_links.specs.Links.{link_in, shown_link}
use Rattle.gx_links.proofs.links.links_of_tree.Given as goal

abbrev pub invariant-loop-entry : goal.invariant-loop-entry
invariant-loop-entry g l = map shown_link l.links.items ++ filter_map link_in l.entry-iterator ≡ wide_links kinds.Tree l.body
