use Rattle.std.proofs.Common.{◌≡◌}
use Rattle.std.specs.List.{list_any}
use Rattle.gx_model.specs.Records.HistoryOf.{entries_in}
use Rattle.gx_repo.proofs.WantingTrees.{names_empty}
use Rattle.gx_repo.proofs.wanting.has_empty_directory.Given as goal

abbrev pub invariant-loop-entry : goal.invariant-loop-entry
invariant-loop-entry g l = list_any (names_empty l.store.1) l.entry-iterator ≡ list_any (names_empty l.store.1) (entries_in l.body)
