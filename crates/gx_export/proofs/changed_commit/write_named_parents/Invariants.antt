use Rattle.std.proofs.Common.{List, map, take, Ok}
use Rattle.gx_model.specs.Changes.{named_in}
use Rattle.gx_model.specs.Records.HistoryOf.{commit_of_value, value_of_name}
use Rattle.gx_model.specs.Histories.Values.{Value}
use Rattle.gx_export.specs.Marks.{Adds, HasWritten}
use Rattle.gx_export.specs.Texts.{parents_by}
use Rattle.gx_export.proofs.changed_commit.write_named_parents.Given as goal

abbrev pub invariant-loop-number : goal.invariant-loop-number
invariant-loop-number g l = (ws : List Value) → HasWritten l.repo.1 ws l.fn.written
    → Adds l.repo.1 ws (parents_by (named_in (g.N.Namer.name_of l.repo.0) ws) (take l.number (map (λ name. commit_of_value (value_of_name l.repo.1.records name)) l.commit.parents))) l.fn.written l.written (Ok tt)
