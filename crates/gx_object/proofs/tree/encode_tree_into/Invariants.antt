use Rattle.std.proofs.Common.{◌≡◌, map, take, true}
use Rattle.std.specs.List.{list_all}
use Rattle.gx_model.specs.Objects.{is_name, tree_text}
use Rattle.gx_object.specs.Entries.{shown}
use Rattle.gx_object.proofs.tree.encode_tree_into.Given as goal

abbrev pub invariant-loop-entry : goal.invariant-loop-entry
invariant-loop-entry g l =
    (l.body.items ≡ tree_text (map shown (take l.entry-index l.entries))) × (list_all (λ e. is_name e.name) (map shown (take l.entry-index l.entries)) ≡ true)
