use Rattle.std.proofs.Common.{◌≡◌, map, drop}
use Rattle.gx_model.specs.Records.Publishing.{with_changes}
use Rattle.gx_repo.specs.Refs.{shown_update, ref_of}
use Rattle.gx_repo.proofs.ref_list.RefList.with_changes.Given as goal

abbrev pub invariant-loop-change : goal.invariant-loop-change
invariant-loop-change g l =
    with_changes (map ref_of l.objects.entries) (map shown_update (drop l.change-index l.changes)) ≡ with_changes l.self (map shown_update l.changes)
