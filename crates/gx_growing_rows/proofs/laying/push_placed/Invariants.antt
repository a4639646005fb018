use Rattle.gx_growing_rows.proofs.LaidOut.{AreLaidOut}
use Rattle.gx_growing_rows.proofs.laying.push_placed.Given as goal

abbrev pub invariant-loop-at : goal.invariant-loop-at
invariant-loop-at g l = AreLaidOut l.fn.rows.items l.held l.first l.store.1 l.rows.items l.place l.at
