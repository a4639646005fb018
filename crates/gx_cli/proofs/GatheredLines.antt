-- The lines of a source, with their faults among those of the commands.
use Rattle.std.proofs.Common.{Option, Some, None, Ok, Err, ℕ}
use Rattle.std.specs.declared.vec.Vec.{Vec}
use Rattle.gx_text.specs.Devices.{Coming}
use Rattle.gx_batch.specs.Batches.{GivesLines}
use Rattle.gx_batch.specs.declared.ending.LineEnding.TheVariants.{Lf}
use Rattle.gx_batch.specs.declared.fault.BatchFault.{BatchFault}
use Rattle.gx_batch.specs.declared.fault.BatchFault.TheVariants as batch
use Rattle.gx_cli.specs.Gathering.{GathersLines, of_batch}

module _ (A : Type 0) where
  -- all of them are read
  pub lines_gathered : (coming : Option Coming) (read : Vec (Vec ℕ A) A) → GivesLines {A = A} Lf coming (Ok read) → GathersLines {A = A} coming (Ok read)
  lines_gathered None read h = h
  lines_gathered (Some c) read h = h

  -- or not all of them
  pub lines_cut_off : (coming : Option Coming) (why : BatchFault) → GivesLines {A = A} Lf coming (Err why) → GathersLines {A = A} coming (Err (of_batch why))
  lines_cut_off None batch.OutOfMemory h = h
  lines_cut_off None batch.ReadFailed h = h
  lines_cut_off None batch.WriteFailed h = absurd h.1
  lines_cut_off (Some c) batch.OutOfMemory h = h
  lines_cut_off (Some c) batch.ReadFailed h = h
  lines_cut_off (Some c) batch.WriteFailed h = absurd h
