use Rattle.std.proofs.Common.{◌≡◌, ◌+◌, ◌≤◌, true, length}
use Rattle.gx_model.specs.Texts.{lacks}
use Rattle.gx_batch.specs.Lines.{byte_of}
use Rattle.gx_batch.specs.Reading.{IsSound, most, shown_reader}
use Rattle.gx_stream.specs.Pulled.{Passes, pulls_left}
use Rattle.gx_batch.proofs.lines.LineReader.next.Given as goal

abbrev pub invariant-loop-line : goal.invariant-loop-line
invariant-loop-line g l = record {
  sound : IsSound l.self;
  line : lacks (byte_of l.ending) l.line.items ≡ true;
  passes : Passes l.line.items (shown_reader l.fn.self (g.R.Source.coming l.fn.self.source)) (shown_reader l.self (g.R.Source.coming l.self.source));
  most : length l.line.items + most l.self ≤ most l.fn.self;
}

abbrev pub decreases-loop-line : goal.decreases-loop-line
decreases-loop-line g l = pulls_left l.self.state l.self.room
