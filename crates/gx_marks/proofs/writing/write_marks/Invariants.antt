use Rattle.std.proofs.Common.{drop}
use Rattle.gx_model.proofs.Texts.SentTexts.{IsLeft}
use Rattle.gx_marks.specs.Marks.{marks_text}
use Rattle.gx_marks.specs.Shown.{shown_marks}
use Rattle.gx_marks.proofs.writing.write_marks.Given as goal

abbrev pub invariant-loop-mark : goal.invariant-loop-mark
invariant-loop-mark g l =
    IsLeft (marks_text (shown_marks l.marks)) (g.W.Sink.taken l.fn.sink) (g.W.Sink.taken l.sink) (marks_text (shown_marks (drop l.mark-index l.marks)))
