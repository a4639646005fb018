use Rattle.std.proofs.Common.{◌≡◌, map, drop}
use Rattle.gx_repo.specs.Refs.{are_held, shown_update}
use Rattle.gx_repo.proofs.ref_list.RefList.are_held.Given as goal

abbrev pub invariant-loop-change : goal.invariant-loop-change
invariant-loop-change g l = are_held l.self (map shown_update (drop l.change-index l.changes)) ≡ are_held l.self (map shown_update l.changes)
