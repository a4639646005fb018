use Rattle.std.proofs.Common.{◌≡◌, map, drop, IsTrue}
use Rattle.gx_model.specs.Records.Publishing.{with_changes}
use Rattle.gx_repo.specs.Refs.{are_held, shown_update}
use Rattle.gx_repo.proofs.ref_list.RefList.set_objects.Given as goal

abbrev pub invariant-loop-change : goal.invariant-loop-change
invariant-loop-change g l =
    record {
      held : IsTrue (are_held l.self (map shown_update (drop l.change-index l.changes)));
      rest : with_changes l.self (map shown_update (drop l.change-index l.changes)) ≡ with_changes l.fn.self (map shown_update l.changes);
    }
