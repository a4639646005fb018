use Rattle.std.proofs.Common.{◌≡◌, ◌++◌, map}
use Rattle.std.specs.List.{filter_map}
use Rattle.gx_model.specs.declared.objects.Kind.TheVariants as kinds
use Rattle.gx_reached.specs.Links.{entry_link, links_in, shown_link}
use Rattle.gx_reached.proofs.links.links_of_tree.Given as goal

abbrev pub invariant-loop-entry : goal.invariant-loop-entry
invariant-loop-entry g l = map shown_link l.links.items ++ filter_map entry_link l.entry-iterator ≡ links_in kinds.Tree l.body
