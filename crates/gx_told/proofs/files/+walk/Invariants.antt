use Rattle.std.proofs.Common.{◌≡◌, ◌+◌, ◌*◌, ◌-◌, length}
use Rattle.std.specs.Prelude.{IfSome}
use Rattle.gx_told.proofs.WalkedLines.{Goes}
use Rattle.gx_told.proofs.files.+walk.Given as goal

abbrev pub decreases-print_all : goal.decreases-print_all
decreases-print_all g l = 3 * (4096 - length l.path.now.items) + 1

abbrev pub decreases-print_entry : goal.decreases-print_entry
decreases-print_entry g l = 3 * (4096 - length l.path.now.items)

abbrev pub decreases-print_dir : goal.decreases-print_dir
decreases-print_dir g l = 3 * (4096 - length l.path.now.items) + 2

abbrev pub invariant-print_all-loop-entry : goal.invariant-print_all-loop-entry
invariant-print_all-loop-entry g l = record {
  path : l.path.items ≡ l.fn.path.items;
  goes : IfSome (g.O.Objects.told l.objects) (Goes (g.O.Objects.name_of l.objects) l.fn.path.items l.fn.entries (g.W.Sink.taken l.fn.sink) (g.W.Sink.taken l.sink) l.entry-iterator);
}
