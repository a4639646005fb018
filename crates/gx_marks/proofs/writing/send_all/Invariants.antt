use Rattle.std.proofs.Common.{drop}
use Rattle.std.specs.List.{flat_map}
use Rattle.gx_model.proofs.Texts.SentTexts.{IsLeft}
use Rattle.gx_marks.proofs.writing.send_all.Given as goal

abbrev pub invariant-loop-part : goal.invariant-loop-part
invariant-loop-part g l =
    IsLeft (flat_map (λ part. part.now) l.parts) (g.W.Sink.taken l.fn.sink) (g.W.Sink.taken l.sink) (flat_map (λ part. part.now) (drop l.part-index l.parts))
