use Rattle.gx_sending.proofs.SentBlobs.{AddsFirst}
use Rattle.gx_sending.proofs.blobs.write_blobs.Given as goal

abbrev pub invariant-loop-file : goal.invariant-loop-file
invariant-loop-file g l = AddsFirst l.files l.fn.written (g.O.Objects.told l.objects) l.file-index l.written
