use Rattle.std.proofs.Common.{◌≡◌, map, take}
use Rattle.gx_repo.specs.Refs.{shown_ref}
use Rattle.gx_repo.proofs.ref_list.copied.Given as goal

abbrev pub invariant-loop-held : goal.invariant-loop-held
invariant-loop-held g l = map shown_ref l.copies.items ≡ map shown_ref (take l.held-index l.refs)
