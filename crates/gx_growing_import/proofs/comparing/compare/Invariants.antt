use Rattle.std.specs.List.{AllByRecursion}
use Rattle.gx_growing_import.proofs.AlikeTexts.{IsTold}
use Rattle.gx_growing_import.proofs.comparing.compare.Given as goal

abbrev pub invariant-loop-base : goal.invariant-loop-base
invariant-loop-base g l = AllByRecursion (λ base. IsTold (g.O.Objects.name_of l.objects) l.small.1 (g.O.Objects.told l.objects) base.now.items) l.yielded
