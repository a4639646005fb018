use Rattle.std.proofs.Common.{◌-◌, ◌<◌, ◌^◌, length}
use Rattle.gx_cli.proofs.Gathered.{Came}
use Rattle.gx_cli.proofs.gathering.pull_all.Given as goal

abbrev pub invariant-loop-count : goal.invariant-loop-count
invariant-loop-count g l = record {
  came : Came (g.R.Source.coming l.fn.source) l.text.items (g.R.Source.coming l.source);
  room : 0 < length l.piece;
}

abbrev pub decreases-loop-count : goal.decreases-loop-count
decreases-loop-count g l = 2 ^ 64 - length l.text.items
