use Rattle.std.proofs.Common.{◌≡◌, ◌++◌, map, None}
use Rattle.std.specs.List.{filter}
use Rattle.gx_model.specs.Replay.{State}
use Rattle.gx_repo.specs.Refs.{shown_update}
use Rattle.gx_rev.specs.Parents.{HoldsParents}
use Rattle.gx_import.specs.RefChanges.{branch_changes, is_moved}
use Rattle.gx_import.specs.Rows.{row_of}
use Rattle.gx_import.specs.Standing.{Stands}
use Rattle.gx_import.proofs.ForwardBranches.{AreLeft}
use Rattle.gx_import.proofs.publishing.append_branches.Given as goal

abbrev pub invariant-loop-name : goal.invariant-loop-name
invariant-loop-name g l =
    (map shown_update l.changes.items ++ filter (is_moved l.repo.1.refs) (branch_changes (map row_of l.name-iterator))
    ≡ map shown_update l.fn.changes.items ++ filter (is_moved l.repo.1.refs) (branch_changes l.tables.branches))
    × ((s : State) → Stands (g.N.Namer.name_of l.repo.0) l.repo.1 l.tables s → AreLeft (g.N.Namer.name_of l.repo.0) s (map row_of l.name-iterator))
    × HoldsParents l.repo.1 l.parents
    × (l.loss ≡ None)
