use Rattle.std.proofs.Common.{◌≡◌, ◌-◌, length, take}
use Rattle.gx_repo.specs.Rooms.{rooms_of}
use Rattle.gx_repo.proofs.rooms.enter_rooms.Given as goal

abbrev pub invariant-loop-kind : goal.invariant-loop-kind
invariant-loop-kind g l =
    (l.rooms.items ≡ take (length l.rooms.items) (rooms_of l.store.1)) × (take (length l.fn.rooms.items) l.rooms.items ≡ l.fn.rooms.items)

abbrev pub decreases-loop-kind : goal.decreases-loop-kind
decreases-loop-kind g l = length l.store.1 - length l.rooms.items
