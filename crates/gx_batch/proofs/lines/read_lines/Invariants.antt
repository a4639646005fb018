use Rattle.std.specs.Option.{option_map}
use Rattle.gx_stream.specs.Heard.{heard}
use Rattle.gx_batch.specs.Batches.{texts_of}
use Rattle.gx_batch.specs.Reading.{IsSound, most, shown_reader}
use Rattle.gx_batch.proofs.Answering.{ArePassed}
use Rattle.gx_batch.proofs.lines.read_lines.Given as goal

abbrev pub invariant-loop-line : goal.invariant-loop-line
invariant-loop-line g l = record {
  sound : IsSound l.reader;
  passed : ArePassed l.ending (texts_of l.lines) (option_map heard (g.R.Source.coming l.fn.source)) (shown_reader l.reader (g.R.Source.coming l.reader.source));
}

abbrev pub decreases-loop-line : goal.decreases-loop-line
decreases-loop-line g l = most l.reader
