use Rattle.std.proofs.Common.{◌≡◌, drop}
use Rattle.std.specs.List.{list_all}
use Rattle.gx_model.specs.declared.objects.Kind.TheVariants as kinds
use Rattle.gx_model.specs.Records.RecordFaults.{is_held}
use Rattle.gx_repo.proofs.checking.check_commit.Given as goal

abbrev pub invariant-loop-place : goal.invariant-loop-place
invariant-loop-place g l = list_all (is_held l.store.1 kinds.Commit) l.commit.parents ≡ list_all (is_held l.store.1 kinds.Commit) (drop l.place l.commit.parents)
