use Rattle.std.proofs.Common.{◌≡◌, ◌+◌, ◌≤◌, ◌++◌, length, take}
use Rattle.std.specs.List.{flat_map}
use Rattle.gx_model.specs.Stores.StoreText.{stored_ref}
use Rattle.gx_ref_lines.specs.Refs.{shown_refs}
use Rattle.gx_brought.proofs.refs.put_all.Given as goal

abbrev pub invariant-loop-held : goal.invariant-loop-held
invariant-loop-held g l =
    (l.next.lines.items ≡ l.fn.next.lines.items ++ flat_map stored_ref (shown_refs (take l.held-index l.refs)))
    × (l.next.count ≡ l.fn.next.count + l.held-index)
    × (l.next.count ≤ length l.next.lines.items)
