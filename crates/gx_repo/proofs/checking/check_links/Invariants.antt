use Rattle.std.proofs.Common.{◌≡◌}
use Rattle.std.specs.List.{list_all}
use Rattle.gx_model.specs.Records.HistoryOf.{entries_in}
use Rattle.gx_model.specs.Records.RecordFaults.{is_entry_held}
use Rattle.gx_repo.proofs.checking.check_links.Given as goal

abbrev pub invariant-loop-entry : goal.invariant-loop-entry
invariant-loop-entry g l =
    list_all (λ e. is_entry_held l.store.1 e.mode e.name) (entries_in l.body) ≡ list_all (λ e. is_entry_held l.store.1 e.mode e.name) l.entry-iterator
