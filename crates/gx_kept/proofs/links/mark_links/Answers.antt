use Rattle.std.proofs.Common.{subst, sym}
use Rattle.gx_model.specs.Pruning.{links_of}
use Rattle.gx_repo.specs.Pruning.{MarksNames}
use Rattle.gx_repo.proofs.PrunedRecords.{marks_none}
use Rattle.gx_kept.proofs.links.mark_links.Goals as goal

pub returns-in-Blob-clause-marks : goal.returns-in-Blob-clause-marks
returns-in-Blob-clause-marks g c = λ records heads distinct.
    let marks = c.args.marks.now in
    subst (λ k. MarksNames records (links_of k c.args.body.now) marks marks) (sym c.in-Blob.is) (marks_none records marks)
