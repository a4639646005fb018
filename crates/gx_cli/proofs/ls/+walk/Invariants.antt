use Rattle.std.proofs.Common.{◌≡◌, ◌+◌, ◌*◌, ◌-◌, length}
use Rattle.std.specs.List.{AllByRecursion, flat_map}
use Rattle.gx_model.proofs.Texts.SentTexts.{IsLeft}
use Rattle.gx_print.specs.WalkedFiles.{IsWithin, files_in, line_below}
use Rattle.gx_print.proofs.WalkedFiles.{lines_of}
use Rattle.gx_cli.proofs.ls.+walk.Given as goal

abbrev pub decreases-print_below : goal.decreases-print_below
decreases-print_below g l = 2 * (4095 - length l.path.now.items) + 1

abbrev pub decreases-print_entry : goal.decreases-print_entry
decreases-print_entry g l = 2 * (4095 - length l.path.now.items)

abbrev pub invariant-print_below-loop-entry : goal.invariant-print_below-loop-entry
invariant-print_below-loop-entry g l = record {
  path : l.path.items ≡ l.fn.path.items;
  left : IsLeft (flat_map (line_below l.fn.path.items) (files_in (g.N.Namer.name_of l.repo.0) l.repo.1 l.tree.bytes)) (g.W.Sink.taken l.fn.sink) (g.W.Sink.taken l.sink)
      (flat_map (lines_of (g.N.Namer.name_of l.repo.0) l.repo.1 l.fn.path.items) l.entry-iterator);
  entries : AllByRecursion (IsWithin (g.N.Namer.name_of l.repo.0) l.repo.1 l.fn.path.items) l.entry-iterator;
}
