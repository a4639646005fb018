use Rattle.std.proofs.Common.{◌≡◌, map, take}
use Rattle.gx_model.specs.Objects.{tree_text}
use Rattle.gx_tree.specs.Views.{own_entry}
use Rattle.gx_tree.proofs.writing.encode_entries.Given as goal

abbrev pub invariant-loop-entry : goal.invariant-loop-entry
invariant-loop-entry g l = l.body.items ≡ tree_text (map own_entry (take l.entry-index l.entries))
