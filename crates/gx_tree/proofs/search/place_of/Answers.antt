use Rattle.std.proofs.Common.{◌++◌, not, rules}
use Rattle.std.proofs.lemmas.List.Sorted.{IsPartitionPoint-from_clause}
use Rattle.gx_tree.specs.Nodes.{precedes}
use Rattle.gx_tree.specs.Views.{shown_entry}
use Rattle.gx_tree.proofs.Searches.{parted, place_from}
use Rattle.gx_tree.proofs.search.place_of.Goals as goal

pub returns-clause-place : goal.returns-clause-place
returns-clause-place g c =
    let text = c.args.component.now ++ c.args.mark.now in
    place_from text c.args.entries.now c.partition_point.result
    (IsPartitionPoint-from_clause (λ e. not (precedes text (shown_entry e))) _ _ c.partition_point.ensures.partitioned (parted text c.args.entries.now c.requires) (λ a r q k. search rules))
