use Rattle.std.proofs.Common.{◌≡◌, map, take}
use Rattle.gx_ref_lines.specs.Refs.{shown_refs}
use Rattle.gx_repo.specs.Refs.{shown_update}
use Rattle.gx_salvage_refs.proofs.refs.changes_of.Given as goal

abbrev pub invariant-loop-held : goal.invariant-loop-held
invariant-loop-held g l = map shown_update l.changes.items ≡ shown_refs (take l.held-index l.refs)
