use Rattle.std.proofs.Common.{◌≡◌, List, ◌++◌, Ok}
use Rattle.std.specs.List.{AllByRecursion}
use Rattle.gx_model.specs.Records.Sound.{IsTarget}
use Rattle.gx_model.specs.Texts.{Bytes}
use Rattle.gx_model.specs.Histories.Values.{Value}
use Rattle.gx_export.specs.Marks.{Adds, HasWritten}
use Rattle.gx_export.proofs.CommitLines.{by_marks}
use Rattle.gx_export.proofs.RefLines.{ref_items}
use Rattle.gx_export.proofs.refs.write_refs.Given as goal

abbrev pub invariant-loop-name : goal.invariant-loop-name
invariant-loop-name g l =
    (goal.iterator-loop-name g).can_next l.name-iterator
    × ((before : List (Bytes × Bytes)) × (l.repo.1.refs ≡ before ++ l.name-iterator) × ((ws : List Value) → HasWritten l.repo.1 ws l.fn.written → Adds l.repo.1 ws (ref_items l.repo.1 (by_marks ws) before) l.fn.written l.written (Ok tt)))
    × AllByRecursion (λ ref. IsTarget l.repo.1.records ref.0 ref.1) l.name-iterator
