use Rattle.std.proofs.Common.{◌≡◌, List, ◌++◌, map}
use Rattle.std.specs.List.{AllByRecursion}
use Rattle.gx_model.specs.Export.{is_reached}
use Rattle.gx_model.specs.Records.Sound.{IsTarget}
use Rattle.gx_model.specs.Texts.{Bytes}
use Rattle.gx_model.proofs.Records.PeeledRefs.{told}
use Rattle.gx_rev.specs.Tips.{AreTips}
use Rattle.gx_rev.proofs.refs.mark_refs.Given as goal

abbrev pub invariant-loop-object : goal.invariant-loop-object
invariant-loop-object g l =
    (goal.iterator-loop-object g).can_next l.object-iterator
    × ((before : List (Bytes × Bytes)) × (l.repo.1.refs ≡ before ++ l.object-iterator) × AreTips l.repo.1 (is_reached (map (told l.repo.1) before)) l.marks)
    × AllByRecursion (λ ref. IsTarget l.repo.1.records ref.0 ref.1) l.object-iterator
