use Rattle.sha2.specs.Sha256.{sha256}
use Rattle.gx_growing_rows.proofs.GatheredRows.{AreGathered}
use Rattle.gx_growing_rows.proofs.checking.gather_rows.Given as goal

abbrev pub invariant-loop-run : goal.invariant-loop-run
invariant-loop-run g l = AreGathered sha256 l.text l.runs l.most l.run-index l.live.items
