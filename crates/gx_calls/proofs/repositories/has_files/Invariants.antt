use Rattle.std.proofs.Common.{map, drop}
use Rattle.std.specs.List.{AllByRecursion}
use Rattle.gx_model.specs.Records.Sound.{IsHeldAs}
use Rattle.gx_tree.specs.Lists.{shown_listed}
use Rattle.gx_calls.proofs.repositories.has_files.Given as goal

abbrev pub invariant-loop-file : goal.invariant-loop-file
invariant-loop-file g l =
    let held = AllByRecursion (λ e. IsHeldAs l.repo.1.records e.1.0 e.1.1) in
    held (map shown_listed (drop l.file-index l.file-items)) → held (map shown_listed l.file-items)
