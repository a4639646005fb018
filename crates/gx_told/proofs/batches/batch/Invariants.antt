use Rattle.std.specs.Option.{option_map}
use Rattle.std.specs.Prelude.{IfSome}
use Rattle.gx_stream.specs.Heard.{heard}
use Rattle.gx_batch.specs.Reading.{IsSound, most, shown_reader}
use Rattle.gx_batch.proofs.Answering.{Goes}
use Rattle.gx_told.specs.Batching.{line_answer}
use Rattle.gx_told.proofs.batches.batch.Given as goal

abbrev pub invariant-loop-buffer : goal.invariant-loop-buffer
invariant-loop-buffer g l = record {
  sound : IsSound l.lines;
  goes : IfSome (g.O.Objects.told l.objects) (λ r. Goes (line_answer (g.O.Objects.name_of l.objects) l.form l.format.parts.items r) l.ending (option_map heard (g.R.Source.coming l.fn.source)) (shown_reader l.lines (g.R.Source.coming l.lines.source)) (g.W.Sink.taken l.fn.sink) (g.W.Sink.taken l.sink));
}

abbrev pub decreases-loop-buffer : goal.decreases-loop-buffer
decreases-loop-buffer g l = most l.lines
