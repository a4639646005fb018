use Rattle.std.proofs.Common.{List, Ok, take}
use Rattle.gx_model.specs.declared.objects.Kind.{Kind}
use Rattle.gx_model.specs.Histories.{Records}
use Rattle.gx_model.specs.Histories.Values.{Value}
use Rattle.gx_model.specs.Texts.{Bytes}
use Rattle.gx_sending.specs.Files.{AreShown}
use Rattle.gx_sending.specs.Marks.{Adds, HasWritten}
use Rattle.gx_sending.proofs.SentLines.{lines_at}
use Rattle.gx_sending.proofs.lines.write_files.Given as goal

abbrev pub invariant-loop-file : goal.invariant-loop-file
invariant-loop-file g l =
    (name : Kind → Bytes → Bytes) (r : Records) (ws : List Value) → HasWritten r ws l.fn.written → AreShown name ws r l.files → Adds ws (lines_at r ws (take l.file-index l.files)) l.fn.written l.written (Ok tt) r
