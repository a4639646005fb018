use Rattle.std.proofs.Common.{◌≡◌, drop, length}
use Rattle.gx_object.specs.Commits.{bytes_of_names}
use Rattle.gx_kept.proofs.SetMarks.{MarksListedSoFar}
use Rattle.gx_kept.proofs.marking.mark_names.Given as goal

abbrev pub invariant-loop-name : goal.invariant-loop-name
invariant-loop-name g l = (length l.marks ≡ length l.fn.marks) × MarksListedSoFar l.listing (bytes_of_names l.names) (bytes_of_names (drop l.name-index l.names)) l.fn.marks l.marks
