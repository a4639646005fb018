use Rattle.std.proofs.Common.{List, map, take, Ok}
use Rattle.gx_model.specs.Records.HistoryOf.{commit_of_value, value_of_name}
use Rattle.gx_model.specs.Histories.Values.{Value}
use Rattle.gx_export.specs.Marks.{Adds, HasWritten}
use Rattle.gx_export.specs.Texts.{parent_items}
use Rattle.gx_export.proofs.commit.write_parents.Given as goal

abbrev pub invariant-loop-number : goal.invariant-loop-number
invariant-loop-number g l = (ws : List Value) → HasWritten l.repo.1 ws l.fn.written
    → Adds l.repo.1 ws (parent_items ws (take l.number (map (λ name. commit_of_value (value_of_name l.repo.1.records name)) l.commit.parents))) l.fn.written l.written (Ok tt)
