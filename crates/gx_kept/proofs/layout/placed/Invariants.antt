use Rattle.std.proofs.Common.{List}
use Rattle.gx_model.specs.Histories.{Record}
use Rattle.gx_store.specs.Marked.{marked}
use Rattle.gx_listed.specs.Listings.{HaveHeads}
use Rattle.gx_kept.proofs.LaidMarks.{AreLaid}
use Rattle.gx_kept.proofs.layout.placed.Given as goal

abbrev pub invariant-loop-number : goal.invariant-loop-number
invariant-loop-number g l = (records : List Record) → HaveHeads (marked l.marks l.listing) records → AreLaid l.listing l.marks l.first records l.number l.rows.items l.place
