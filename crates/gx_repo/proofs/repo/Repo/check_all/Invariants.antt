use Rattle.std.proofs.Common.{◌≡◌, map, drop}
use Rattle.gx_model.specs.Records.Publishing.{changes_fault}
use Rattle.gx_repo.specs.Refs.{shown_update}
use Rattle.gx_repo.proofs.repo.Repo.check_all.Given as goal

abbrev pub invariant-loop-change : goal.invariant-loop-change
invariant-loop-change g l =
    changes_fault l.self.1.records (map shown_update (drop l.change-index l.changes)) ≡ changes_fault l.self.1.records (map shown_update l.changes)
