use Rattle.std.proofs.Common.{◌≡◌, List, length}
use Rattle.std.specs.List.{flat_map}
use Rattle.gx_model.specs.Records.Publishing.{Ref}
use Rattle.gx_model.specs.Stores.StoreText.{stored_ref}
use Rattle.gx_objects.specs.Answers.{AreRefs}
use Rattle.gx_kept.proofs.MarkedTips.{TipsSoFar}
use Rattle.gx_kept.proofs.marking.mark_tips.Given as goal

abbrev pub invariant-loop-change : goal.invariant-loop-change
invariant-loop-change g l =
    (length l.marks ≡ length l.fn.marks) × ((refs : List Ref) → AreRefs refs → l.lines ≡ flat_map stored_ref refs → TipsSoFar l.listing refs l.fn.marks l.rest l.marks)

abbrev pub decreases-loop-change : goal.decreases-loop-change
decreases-loop-change g l = length l.rest
