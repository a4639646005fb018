use Rattle.std.proofs.Common.{◌≡◌, Bool, List, ◌++◌}
use Rattle.std.specs.List.{filter, AllByRecursion}
use Rattle.gx_model.specs.Histories.Marks.{marks_of}
use Rattle.gx_model.specs.Histories.Values.{Commit}
use Rattle.gx_model.specs.Laws.RepositoryLaws.{values_of}
use Rattle.gx_model.specs.Records.Sound.{IsTarget}
use Rattle.gx_model.specs.Texts.{Bytes}
use Rattle.gx_export.specs.Branches.{commit_of_ref, shown_tips}
use Rattle.gx_export.proofs.branches.set_refs.Given as goal

abbrev pub invariant-loop-name : goal.invariant-loop-name
invariant-loop-name g l =
    (goal.iterator-loop-name g).can_next l.name-iterator
    × ((before : List (Bytes × Bytes)) × (l.repo.1.refs ≡ before ++ l.name-iterator) × ((test : Commit → Bool) → l.set ≡ marks_of test (values_of l.repo.1) → shown_tips l.refs.items ≡ filter (λ ref. test (commit_of_ref l.repo.1 ref.1)) before) × AllByRecursion (λ ref. IsTarget l.repo.1.records ref.0 ref.1) (shown_tips l.refs.items))
    × AllByRecursion (λ ref. IsTarget l.repo.1.records ref.0 ref.1) l.name-iterator
