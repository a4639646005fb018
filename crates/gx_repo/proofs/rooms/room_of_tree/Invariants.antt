use Rattle.std.proofs.Common.{◌≡◌, max, length, take}
use Rattle.std.specs.List.{AllByRecursion}
use Rattle.gx_model.specs.Records.HistoryOf.{entries_in, files_of_entries, named_values}
use Rattle.gx_model.specs.Records.Sound.{IsHeldAs}
use Rattle.gx_repo.specs.Rooms.{room}
use Rattle.gx_repo.proofs.rooms.room_of_tree.Given as goal

abbrev pub invariant-loop-entry : goal.invariant-loop-entry
invariant-loop-entry g l =
    AllByRecursion (λ e. IsHeldAs (take (length l.rooms) l.store.1) e.mode e.name) l.entry-iterator
    × (max l.widest (room (files_of_entries (named_values (take (length l.rooms) l.store.1)) l.entry-iterator)) ≡ room (files_of_entries (named_values (take (length l.rooms) l.store.1)) (entries_in l.body)))
